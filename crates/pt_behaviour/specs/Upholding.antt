-- What a behaviour upholds on its desk, whatever its crew does.
use Rattle.std.specs.Prelude.{◌≡◌, ◌⊎◌, ⊤, ℕ, is_some, cond, true, false, List, [], ◌∷◌, ◌++◌, Option, Some, None}
use Rattle.pt_signal.specs.declared.pid.Pid.{Pid}
use Rattle.pt_signal.specs.declared.item.Item.{Item}
use Rattle.pt_signal.specs.declared.item.Pick.{Pick}
use Rattle.pt_signal.specs.declared.letter.Letter.{Letter}
use Rattle.pt_signal.specs.declared.reason.Reason.{Reason}
use Rattle.pt_signal.specs.Values.{same_pid}
use Rattle.pt_events.specs.declared.event.Event.{Event}
use Rattle.pt_events.specs.declared.event.Event.TheVariants.{Born, Took, Left}
use Rattle.pt_events.specs.declared.event.Stamped.{Stamped}
use Rattle.pt_events.specs.History.{is_unborn}
use Rattle.pt_shard.specs.ShardState.{ShardState, phase_of, lives, shard_after, handled}
use Rattle.pt_shard.specs.Calls.{first_match}
use Rattle.pt_behaviour.specs.declared.behaviour.Next.{Next}
use Rattle.pt_behaviour.specs.declared.behaviour.Next.TheVariants.{Proceed, Stop}
use Rattle.pt_behaviour.specs.declared.births.Role.{Role}
use Rattle.pt_behaviour.specs.Behaving.{pick_of, limit_of, Answers}

-- how a behaviour, what it does next and its desk stand to each other
abbrev pub Relation : Type 0 → Type 1
Relation B = B → Next → Pid → ShardState → Type 0

-- the journal begins with the one before
pub record IsLater (old new : ShardState) : Type 0 where
  pub start : new.start ≡ old.start
  pub more : List Stamped
  pub journal : new.journal ≡ more ++ old.journal

-- the child that p bears by the event
abbrev pub child_by : Pid → Event → List Pid
child_by p (Born q (Some a) link) = cond (same_pid p a) (q ∷ []) []
child_by p _ = []

-- the children that p bore, the last one first
abbrev pub children_by : Pid → List Stamped → List Pid
children_by p [] = []
children_by p (s ∷ journal) = child_by p s.event ++ children_by p journal

-- q is as it was, and bore nobody
abbrev pub IsLeftAlone : Pid → ShardState → ShardState → Type 0
IsLeftAlone q d e = (phase_of e q ≡ phase_of d q) × (children_by q e.journal ≡ children_by q d.journal)

-- p acts for itself alone: whoever else was born is as it was, and bore nobody
abbrev pub ActsFor : Pid → ShardState → ShardState → Type 0
ActsFor p d e = (q : Pid) → same_pid p q ≡ false → is_unborn (phase_of d q) ≡ false → IsLeftAlone q d e

-- it was to proceed; or it waited until a time, for a pick that no item fits
abbrev pub GoesOnWithout : Pid → Next → ShardState → Type 0
GoesOnWithout p before d =
    (before ≡ Proceed)
    ⊎ ((pick : Pick) × (pick_of before ≡ Some pick) × (is_some (limit_of before) ≡ true)
    × (first_match d p pick ≡ None))

-- p, which lives, goes on without an item, or waited and the first item that its pick fits was taken
abbrev pub ItemIsTaken : Pid → Next → Option Item → ShardState → ShardState → Type 0
ItemIsTaken p before None d mid = GoesOnWithout p before d × (lives d p ≡ true) × (mid ≡ d)
ItemIsTaken p before (Some item) d mid =
    (pick : Pick) × (pick_of before ≡ Some pick) × (lives d p ≡ true) × (first_match d p pick ≡ Some item)
    × (mid ≡ shard_after (Took p pick item) d)

-- one that is born, or enters, stands so on every desk
abbrev pub StandsFirst : {B : Type 0} → Relation B → B → Next → Pid → Type 0
StandsFirst stands b first p = (d : ShardState) → stands b first p d

abbrev pub AllFirst : {B : Type 0} → Relation B → List (Role B) → Type 0
AllFirst stands [] = ⊤
AllFirst stands (r ∷ rs) = StandsFirst stands r.behaviour r.next r.pid × AllFirst stands rs

-- The relation is one that behaviours which answer so uphold.
pub record IsUpheld {B : Type 0} (answers : Answers B) (stands : Relation B) : Type 0 where
  -- whoever is handed an item, or none, acts for itself alone
  pub acts : (time : ℕ) (b : B) (d : ShardState) (p : Pid) (item : Option Item) (next : Next) (now : B) (e : ShardState)
      (births : List (Role B)) → answers time b d p item next now e births → ActsFor p d e
  -- it stands so then, if it did before the item was taken
  pub hands : (time : ℕ) (b : B) (before : Next) (p : Pid) (item : Option Item) (was d : ShardState) (next : Next)
      (now : B) (e : ShardState) (births : List (Role B)) → stands b before p was → is_unborn (phase_of was p) ≡ false
      → ItemIsTaken p before item was d → answers time b d p item next now e births → IsLater d e
      → stands now next p e
  -- so do those whom it bears
  pub bears : (time : ℕ) (b : B) (d : ShardState) (p : Pid) (item : Option Item) (next : Next) (now : B) (e : ShardState)
      (births : List (Role B)) → answers time b d p item next now e births → AllFirst stands births
  -- what others do keeps it
  pub others : (b : B) (next : Next) (p : Pid) (d e : ShardState) → stands b next p d
      → is_unborn (phase_of d p) ≡ false → IsLater d e → IsLeftAlone p d e → stands b next p e
  -- so does its own end
  pub ends : (b : B) (r : Reason) (p : Pid) (d : ShardState) → stands b (Stop r) p d
      → is_unborn (phase_of d p) ≡ false → stands b (Stop r) p (shard_after (Left p r) d)
  -- and so does what comes to it
  pub receives : (b : B) (next : Next) (p : Pid) (d : ShardState) (l : Letter) → stands b next p d
      → is_unborn (phase_of d p) ≡ false → stands b next p (handled l d)
