-- What an event does to the table of one desk's processes, and which may come. No public clause cites this module.
use Rattle.std.specs.Prelude.{◌≡◌, ℕ, ◌+◌, ◌<◌, ◌^◌, ◌==◌, ◌&&◌, Bool, true, false, cond, List, length}
use Rattle.std.specs.Prelude.{Option, Some, None, IfSome, ⊤}
use Rattle.std.specs.Option.{option_map}
use Rattle.pt_signal.specs.declared.pid.Pid.{Pid}
use Rattle.pt_events.specs.declared.event.Event.{Event}
use Rattle.pt_events.specs.declared.event.Event.TheVariants.{Born, Said, Came, Took, Flag, Left, Refused}
use Rattle.pt_signal.specs.Values.{same_pid}
use Rattle.pt_signal.specs.Process.{ProcessState}
use Rattle.pt_process.specs.Outcome.{IsAnew}
use Rattle.pt_events.specs.History.{Past, Start, Phase, unborn, living, ended, newborn, after, touches, state}
use Rattle.pt_events.specs.Journal.{IsHome, MayHere, IsKnown}
use Rattle.pt_events.specs.Takes.{taken_by}
use Rattle.pt_accounts.specs.LifeState.{LifeState}
use Rattle.pt_accounts.specs.Table.{Slots, slot_at, life_at, AreTold}
use Rattle.pt_accounts.specs.SlotState.{AreVersions, HasEnded}
use Rattle.pt_accounts.specs.DeskLives.{DeskTable}

-- one process ---------------------------------------------------------------------------------------

-- the same process after the event
abbrev pub life_after : Event → LifeState → LifeState
life_after e l = record { pid = l.pid; phase = after l.pid e l.phase; taken = l.taken + length (taken_by l.pid e) }

-- a live process does this only so: a reference that is opened is not open, and nobody bears itself
abbrev pub MayDo : Pid → ProcessState → Event → Type 0
MayDo p s (Born q parent link) = same_pid p q ≡ false
MayDo p s (Said a b x) = IsAnew x s
MayDo p s _ = ⊤

-- one that was born, and takes only while it lives
abbrev pub MayMeet : Pid → Phase → Event → Type 0
MayMeet p unborn e = ⊥
MayMeet p (living s) e = MayDo p s e
MayMeet p (ended r s) (Took q k i) = ⊥
MayMeet p (ended r s) _ = ⊤

pub record MaySee (e : Event) (l : LifeState) : Type 0 where
  pub own : touches l.pid e ≡ true
  pub may : MayMeet l.pid l.phase e
  pub few : l.taken + 1 < 2 ^ 64

-- the table -----------------------------------------------------------------------------------------

abbrev pub is_life_of : Pid → ℕ → ℕ → Bool
is_life_of p s v = (p.slot == s) && (p.version == v)

-- the life in the place of p is changed by f, and no other
abbrev pub ChangesLife : Pid → (LifeState → LifeState) → Slots → Slots → Type 0
ChangesLife p f old new = (s v : ℕ) → life_at new s v ≡ cond (is_life_of p s v) (option_map f (life_at old s v)) (life_at old s v)

-- l stands in the place of p, and all else is as before
abbrev pub PutsLife : Pid → LifeState → Slots → Slots → Type 0
PutsLife p l old new = (s v : ℕ) → life_at new s v ≡ cond (is_life_of p s v) (Some l) (life_at old s v)

abbrev pub changes_parent : Option Pid → Event → Slots → Slots → Type 0
changes_parent None e old new = (s v : ℕ) → life_at new s v ≡ life_at old s v
changes_parent (Some q) e old new = ChangesLife q (life_after e) old new

-- each slot has had the same
abbrev pub AreAlike : Slots → Slots → Type 0
AreAlike old new = (s : ℕ) → slot_at new s ≡ slot_at old s

-- the table after the event
abbrev pub Observes : Event → Slots → Slots → Type 0
Observes (Born p parent link) old new =
    (mid : Slots)
    × PutsLife p (record { pid = p; phase = newborn parent link unborn; taken = 0 }) old mid
    × changes_parent parent (Born p parent link) mid new
Observes (Said a b x) old new = ChangesLife a (life_after (Said a b x)) old new
Observes (Came a b x) old new = ChangesLife b (life_after (Came a b x)) old new
Observes (Took p k i) old new = ChangesLife p (life_after (Took p k i)) old new
Observes (Flag p on) old new = ChangesLife p (life_after (Flag p on)) old new
Observes (Left p r) old new = ChangesLife p (life_after (Left p r)) old new
Observes (Refused a b) old new = new ≡ old

abbrev pub MayShow : Slots → Pid → Event → Type 0
MayShow slots p e = IfSome (life_at slots p.slot p.version) (MaySee e)

-- the parent has another place than its child
abbrev pub may_show_parent : Slots → Option Pid → Pid → Event → Type 0
may_show_parent slots None p e = ⊤
may_show_parent slots (Some q) p e = MayShow slots q e × (is_life_of p q.slot q.version ≡ false)

-- it is the slot's next, of which all are, and whose last one has ended
pub record IsNextOf (p : Pid) (lives : List LifeState) : Type 0 where
  pub next : p.version ≡ length lives + 1
  pub placed : AreVersions p.shard p.slot 1 lives
  pub over : HasEnded lives

-- the event may come
abbrev pub MayObserve : Slots → Event → Type 0
MayObserve slots (Born p parent link) =
    may_show_parent slots parent p (Born p parent link) × IsNextOf p (slot_at slots p.slot)
MayObserve slots (Said a b x) = MayShow slots a (Said a b x)
MayObserve slots (Came a b x) = MayShow slots b (Came a b x)
MayObserve slots (Took p k i) = MayShow slots p (Took p k i)
MayObserve slots (Flag p on) = MayShow slots p (Flag p on)
MayObserve slots (Left p r) = MayShow slots p (Left p r)
MayObserve slots (Refused a b) = ⊤

-- a monitor is opened under a reference that is not open
abbrev pub IsAnewAfter : Start → Past → Event → Type 0
IsAnewAfter start past (Said a b x) = IsAnew x (state start past a)
IsAnewAfter start past _ = ⊤

-- the event goes on from what the table tells of some history
pub record TableGoesOn (t : DeskTable) (e : Event) : Type 0 where
  pub start : Start
  pub past : Past
  pub top : ℕ
  pub told : AreTold start t.desk t.slots past
  pub home : IsHome t.desk e
  pub may : MayHere start past e
  pub known : IsKnown start t.desk top past e
  pub anew : IsAnewAfter start past e
