-- What a supervisor upholds of its children on its desk, and in a node that is still.
--
-- Everywhere here `past` is what happened on a desk, or on its node, before the desk's journal: [] where nothing is known
-- of it.
use Rattle.std.specs.Prelude.{◌≡◌, ⊤, ℕ, Bool, true, false, List, [], ◌∷◌, ◌++◌, Option, Some, None, Ok}
use Rattle.std.specs.List.{flat_map, list_any}
use Rattle.std.specs.Prelude.{◌⊎◌, take}
use Rattle.pt_signal.specs.declared.pid.Pid.{Pid}
use Rattle.pt_signal.specs.declared.item.Item.{Item}
use Rattle.pt_signal.specs.declared.item.Pick.{Pick}
use Rattle.pt_signal.specs.Values.{same_pid}
use Rattle.pt_events.specs.History.{Past, Phase, Start, is_unborn}
use Rattle.pt_shard.specs.ShardState.{ShardState, phase_of, state_in, lives}
use Rattle.pt_workers.specs.Waking.{need_not_wait}
use Rattle.pt_behaviour.specs.declared.behaviour.Next.{Next}
use Rattle.pt_behaviour.specs.declared.behaviour.Next.TheVariants.{Proceed, WaitUntil}
use Rattle.pt_behaviour.specs.declared.births.Role.{Role}
use Rattle.pt_behaviour.specs.Behaving.{Answers}
use Rattle.pt_behaviour.specs.Upholding.{Relation, ActsFor, ItemIsTaken, child_by, children_by}
use Rattle.pt_children.specs.declared.children.Child.{Child}
use Rattle.pt_children.specs.Children.{NoneLives}
use Rattle.pt_children.specs.Families.{all_events, Family, has_told, WereTold, IsPlaced, AreAsked}
use Rattle.pt_children.specs.Hearing.{Standing}
use Rattle.pt_supervisor.specs.Supervising.{StartsOf, Supervises}

-- the children that p bore on a desk, the last one first
abbrev pub all_children : Past → Pid → ShardState → List Pid
all_children past p d = children_by p d.journal ++ flat_map (child_by p) past

-- q is one of those whom me started: of the children that it bore one of the last so many
abbrev pub was_started : Past → ℕ → Pid → Pid → ShardState → Bool
was_started past count me q d = list_any (same_pid q) (take count (all_children past me d))

-- Nobody is forgotten: each one that a supervisor started stands in a place, or news of its end came. So it is where
-- all exits that waited for it as the journal began had come before.
abbrev pub Remembers : Past → List Child → ℕ → Pid → ShardState → Type 0
Remembers past children started me d =
    WereTold past me d.start → (q : Pid) → was_started past started me q d ≡ true
    → IsPlaced children q ⊎ (has_told me q (all_events past d) ≡ true)

-- one that is ended ---------------------------------------------------------------------------

-- one that takes an item, or goes on without one where there is none, has one to take
abbrev pub IsReady : Next → Phase → Type 0
IsReady (WaitUntil Pick.Any at) f = need_not_wait Pick.Any f ≡ true
IsReady _ f = ⊤

-- what a supervisor upholds while it lives: it traps exits, unless it has not begun
pub record Holds (past : Past) (s : Standing) (next : Next) (me : Pid) (d : ShardState) : Type 0 where
  pub waits : Supervises next s
  pub ready : IsReady next (phase_of d me)
  pub remembers : Remembers past s.children s.started me d
  pub traps : ((state_in d me).traps ≡ true) ⊎ ((next ≡ Proceed) × NoneLives s.children)
  pub family : Family past s.children s.stopping me d
  pub asks : AreAsked past s.children s.asked me d

-- of that what says nothing of what it waits for, whatever the program asked of it meanwhile
pub record HoldsChildren (past : Past) (s : Standing) (next : Next) (me : Pid) (d : ShardState) : Type 0 where
  pub remembers : Remembers past s.children s.started me d
  pub traps : ((state_in d me).traps ≡ true) ⊎ ((next ≡ Proceed) × NoneLives s.children)
  pub family : Family past s.children s.stopping me d
  pub asks : AreAsked past s.children s.asked me d

-- a supervisor that upholds it as it was upholds it as it is
abbrev pub HoldsWhere : Standing → Standing → Type 0
HoldsWhere was is =
    (past : Past) (next : Next) (me : Pid) (d : ShardState) → HoldsChildren past was next me d
    → HoldsChildren past is next me d

-- a supervisor sees to an item, or to none: it acts for itself alone, and upholds all that, whatever it waited for before
pub record Tends (me : Pid) (item : Option Item) (s : Standing) (d : ShardState) (next : Next) (new : Standing)
    (e : ShardState) : Type 0 where
  pub acts : ActsFor me d e
  pub keeps : (past : Past) (before : Next) (was : ShardState) → ItemIsTaken me before item was d
      → is_unborn (phase_of was me) ≡ false → HoldsChildren past s before me was → Holds past new next me e

-- the behaviours of those who are born are what the program's `Start` gave
abbrev pub AllStarted : {S B : Type 0} → StartsOf S B → Pid → List (Role B) → Type 0
AllStarted starts me [] = ⊤
AllStarted {S} starts me (r ∷ rs) =
    ((was : S) × (place : ℕ) × (later : S) × starts was me place (Ok (r.behaviour, r.next)) later)
    × AllStarted starts me rs

-- so it is of whoever a supervisor bears, and they wait behind those who waited
abbrev pub BearsFrom : {S B : Type 0} → StartsOf S B → Pid → List (Role B) → List (Role B) → Type 0
BearsFrom {S} {B} starts me old new =
    (more : List (Role B)) × (new ≡ old ++ more) × AllStarted starts me more

-- of a behaviour what it is as a supervisor, if it is one
abbrev pub PartOf : Type 0 → Type 0
PartOf B = B → Option Standing

-- a supervisor begins by proceeding, with no child, and has started none
abbrev pub SupervisorBegins : Option Standing → Next → Type 0
SupervisorBegins None next = ⊤
SupervisorBegins (Some s) next = (next ≡ Proceed) × NoneLives s.children × (s.started ≡ 0)

-- One that is no supervisor stands anyhow. A supervisor that lives stands so, and also one that has ended forgets nobody;
-- one that is not born yet is to begin.
abbrev pub HoldsAs : Past → Option Standing → Next → Pid → ShardState → Type 0
HoldsAs past None next me d = ⊤
HoldsAs past (Some s) next me d =
    (lives d me ≡ true → Holds past s next me d) × Supervises next s × Remembers past s.children s.started me d
    × (is_unborn (phase_of d me) ≡ true → SupervisorBegins (Some s) next)

abbrev pub Keeps : {B : Type 0} → Past → PartOf B → Relation B
Keeps past part b next me d = HoldsAs past (part b) next me d

abbrev pub AllBegin : {B : Type 0} → PartOf B → List (Role B) → Type 0
AllBegin part [] = ⊤
AllBegin part (r ∷ rs) = SupervisorBegins (part r.behaviour) r.next × AllBegin part rs

-- who is no supervisor does not become one, and acts for itself alone; a supervisor stays one, and sees to the item
abbrev pub ActsAs : Option Standing → Pid → Option Item → ShardState → Next → Option Standing → ShardState → Type 0
ActsAs None me item d next now e = (now ≡ None) × ActsFor me d e
ActsAs (Some s) me item d next now e = (new : Standing) × (now ≡ Some new) × Tends me item s d next new e

-- so the behaviours of a program answer, and whoever of those that they bear is a supervisor begins as one
abbrev pub AnswerAs : {B : Type 0} → PartOf B → Answers B
AnswerAs part time b d me item next now e births =
    ActsAs (part b) me item d next (part now) e × AllBegin part births

-- So a supervisor may be changed before it sees to an item, by calls that keep what it upholds of its children; and
-- afterwards, if it proceeds then.
abbrev pub ChangesBefore : Type 0
ChangesBefore =
    (me : Pid) (item : Option Item) (s t : Standing) (d : ShardState) (next : Next) (new : Standing) (e : ShardState)
    → HoldsWhere s t → Tends me item t d next new e → Tends me item s d next new e

abbrev pub ChangesAfter : Type 0
ChangesAfter =
    (me : Pid) (item : Option Item) (s : Standing) (d : ShardState) (next : Next) (new t : Standing) (e : ShardState)
    → Tends me item s d next new e → HoldsWhere new t → Tends me item s d Proceed t e

abbrev pub SuperviseAs : {B : Type 0} → Answers B → PartOf B → Type 0
SuperviseAs {B} answers part =
    (time : ℕ) (b : B) (d : ShardState) (me : Pid) (item : Option Item) (next : Next) (now : B) (e : ShardState)
    (births : List (Role B)) → answers time b d me item next now e births
    → AnswerAs part time b d me item next now e births
