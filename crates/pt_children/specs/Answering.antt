-- What a program is asked about a child of another desk, and what it answers.
use Rattle.std.specs.Prelude.{◌≡◌, ℕ, List, Option, Some, None, Result, Ok, Err, slice_get, slice_set}
use Rattle.pt_signal.specs.declared.pid.Pid.{Pid}
use Rattle.pt_shard.specs.declared.fault.Fault.{Fault}
use Rattle.pt_children.specs.declared.child_fault.ChildFault.{ChildFault}
use Rattle.pt_children.specs.declared.children.Child.{Child}
use Rattle.pt_children.specs.Hearing.{Standing}
use Rattle.pt_children.specs.Homes.{arrived_child, place_awaited, place_untold, told_child, unmet_child}

-- the child at a place is changed so, if there is one
abbrev pub changed_in : ℕ → (Child → Child) → Option Child → List Child → List Child
changed_in place change None children = children
changed_in place change (Some c) children = slice_set children place (change c)

abbrev pub changed_at : ℕ → (Child → Child) → Standing → Standing
changed_at place change s = record s { children = changed_in place change (slice_get s.children place) s.children }

-- The answer is taken in if it is of the child that is awaited. Else nothing has changed.
abbrev pub AnswersAt : Option ℕ → (Child → Child) → Standing → Result (Unit {0}) ChildFault → Standing → Type 0
AnswersAt None change s result t = (result ≡ Err ChildFault.NotAwaited) × (t ≡ s)
AnswersAt (Some place) change s result t = (result ≡ Ok (tt {0})) × (t ≡ changed_at place change s)

-- the child with this id was started as this process
abbrev pub AnswersStarted : ℕ → Pid → Standing → Result (Unit {0}) ChildFault → Standing → Type 0
AnswersStarted id p s result t = AnswersAt (place_awaited id s.children) (arrived_child p) s result t

-- the child with this id was not started for this reason
abbrev pub AnswersNotStarted : ℕ → Fault → Standing → Result (Unit {0}) ChildFault → Standing → Type 0
AnswersNotStarted id f s result t = AnswersAt (place_awaited id s.children) (unmet_child f) s result t

-- The program is asked once for the first child that it is to start: it is told the id of that. Else nothing has changed.
abbrev pub AsksToStartIn : Option Child → ℕ → Standing → Result ℕ ChildFault → Standing → Type 0
AsksToStartIn None place s result t = ⊥
AsksToStartIn (Some c) place s result t =
    (result ≡ Ok c.id) × (t ≡ record s { children = slice_set s.children place (told_child c) })

abbrev pub AsksToStartAt : Option ℕ → Standing → Result ℕ ChildFault → Standing → Type 0
AsksToStartAt None s result t = (result ≡ Err ChildFault.NotAwaited) × (t ≡ s)
AsksToStartAt (Some place) s result t = AsksToStartIn (slice_get s.children place) place s result t

abbrev pub AsksProgram : Standing → Result ℕ ChildFault → Standing → Type 0
AsksProgram s result t = AsksToStartAt (place_untold s.children) s result t
