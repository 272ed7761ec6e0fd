-- What a program may ask of a supervisor about its children, by their ids.
use Rattle.std.specs.Prelude.{◌≡◌, ℕ, ◌-◌, ◌==◌, nat_lt, cond, Bool, true, false, List, [], ◌∷◌, ◌++◌, Option, Some, None}
use Rattle.std.specs.Prelude.{Result, Ok, Err, length, position, remove, slice_get, slice_set}
use Rattle.pt_children.specs.declared.child_fault.ChildFault.{ChildFault}
use Rattle.pt_children.specs.declared.children.Child.{Child}
use Rattle.pt_children.specs.declared.seen.ChildState.{ChildState}
use Rattle.pt_children.specs.declared.seen.ChildState.TheVariants.{Running, Restarting, Undefined}
use Rattle.pt_children.specs.declared.trial.Trial.TheVariants.{Asked}
use Rattle.pt_children.specs.Hearing.{Standing}
use Rattle.pt_children.specs.Seen.{child_state}

-- the place of the first child with this id
abbrev pub place_of_id : ℕ → List Child → Option ℕ
place_of_id id children = position (λ c. c.id == id) children

-- the child at a place is wanted from now on, or is not, as a call asked for
abbrev pub wanted_in : Bool → ℕ → Option Child → List Child → List Child
wanted_in wanted place None children = children
wanted_in wanted place (Some c) children = slice_set children place (record c { wanted = wanted; trial = Asked })

abbrev pub with_wanted : Bool → ℕ → Standing → Standing
with_wanted wanted place s = record s {
  children = wanted_in wanted place (slice_get s.children place) s.children;
}

-- a child is not wanted any more, alive or not; there has to be one with this id
abbrev pub TerminatesAt : Option ℕ → Standing → Result (Unit {0}) ChildFault → Standing → Type 0
TerminatesAt None s result t = (result ≡ Err ChildFault.NotFound) × (t ≡ s)
TerminatesAt (Some place) s result t = (result ≡ Ok (tt {0})) × (t ≡ with_wanted false place s)

abbrev pub TerminatesChild : ℕ → Standing → Result (Unit {0}) ChildFault → Standing → Type 0
TerminatesChild id s result t = TerminatesAt (place_of_id id s.children) s result t

-- a child that is neither alive nor to be started is wanted again; any other is not changed
abbrev pub RestartsAs : ChildState → ℕ → Standing → Result (Unit {0}) ChildFault → Standing → Type 0
RestartsAs (Running p) place s result t = (result ≡ Err ChildFault.Running) × (t ≡ s)
RestartsAs Restarting place s result t = (result ≡ Err ChildFault.Restarting) × (t ≡ s)
RestartsAs Undefined place s result t = (result ≡ Ok (tt {0})) × (t ≡ with_wanted true place s)

abbrev pub RestartsIn : Option Child → ℕ → Standing → Result (Unit {0}) ChildFault → Standing → Type 0
RestartsIn None place s result t = ⊥
RestartsIn (Some c) place s result t = RestartsAs (child_state c) place s result t

abbrev pub RestartsAt : Option ℕ → Standing → Result (Unit {0}) ChildFault → Standing → Type 0
RestartsAt None s result t = (result ≡ Err ChildFault.NotFound) × (t ≡ s)
RestartsAt (Some place) s result t = RestartsIn (slice_get s.children place) place s result t

abbrev pub RestartsChild : ℕ → Standing → Result (Unit {0}) ChildFault → Standing → Type 0
RestartsChild id s result t = RestartsAt (place_of_id id s.children) s result t

-- what is there already, of a child with the same id
abbrev pub present_fault : ChildState → ChildFault
present_fault (Running p) = ChildFault.AlreadyStarted p
present_fault Restarting = ChildFault.AlreadyPresent
present_fault Undefined = ChildFault.AlreadyPresent

-- the supervisor has one more child, behind the others, which it is to start
abbrev pub with_last_child : Child → Standing → Standing
with_last_child c s = record s { children = s.children ++ record c { pid = None; wanted = true; trial = Asked } ∷ [] }

abbrev pub FindsPresent : Option Child → Standing → Result ℕ ChildFault → Standing → Type 0
FindsPresent None s result t = ⊥
FindsPresent (Some c) s result t = (result ≡ Err (present_fault (child_state c))) × (t ≡ s)

abbrev pub AddsLast : Child → Standing → Result ℕ ChildFault → Standing → Type 0
AddsLast c s (Ok place) t = (place ≡ length s.children) × (t ≡ with_last_child c s)
AddsLast c s (Err f) t = (f ≡ ChildFault.Memory) × (t ≡ s)

abbrev pub AddsAt : Option ℕ → Child → Standing → Result ℕ ChildFault → Standing → Type 0
AddsAt None c s result t = AddsLast c s result t
AddsAt (Some place) c s result t = FindsPresent (slice_get s.children place) s result t

-- a child is taken in, unless there is one with its id, or no memory
abbrev pub AddsChild : Child → Standing → Result ℕ ChildFault → Standing → Type 0
AddsChild c s result t = AddsAt (place_of_id c.id s.children) c s result t

-- the supervisor has a child less: those behind it move up, and who is to end still is
abbrev pub without_child : ℕ → Standing → Standing
without_child place s = record s {
  children = remove s.children place;
  ending = cond (nat_lt place s.ending) (s.ending - 1) s.ending;
}

-- a child that is neither alive nor to be started is forgotten; any other stays
abbrev pub DeletesAs : ChildState → ℕ → Standing → Result ℕ ChildFault → Standing → Type 0
DeletesAs (Running p) place s result t = (result ≡ Err ChildFault.Running) × (t ≡ s)
DeletesAs Restarting place s result t = (result ≡ Err ChildFault.Restarting) × (t ≡ s)
DeletesAs Undefined place s result t = (result ≡ Ok place) × (t ≡ without_child place s)

abbrev pub DeletesIn : Option Child → ℕ → Standing → Result ℕ ChildFault → Standing → Type 0
DeletesIn None place s result t = ⊥
DeletesIn (Some c) place s result t = DeletesAs (child_state c) place s result t

abbrev pub DeletesAt : Option ℕ → Standing → Result ℕ ChildFault → Standing → Type 0
DeletesAt None s result t = (result ≡ Err ChildFault.NotFound) × (t ≡ s)
DeletesAt (Some place) s result t = DeletesIn (slice_get s.children place) place s result t

abbrev pub DeletesChild : ℕ → Standing → Result ℕ ChildFault → Standing → Type 0
DeletesChild id s result t = DeletesAt (place_of_id id s.children) s result t
