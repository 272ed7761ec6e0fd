-- A supervisor that spawns all its children does so for ever: it starts none of them on another desk.
use Rattle.std.specs.Prelude.{◌≡◌, ℕ, List, Option}
use Rattle.pt_signal.specs.declared.pid.Pid.{Pid}
use Rattle.pt_signal.specs.declared.item.Item.{Item}
use Rattle.pt_signal.specs.declared.reason.Reason.{Reason}
use Rattle.pt_shard.specs.declared.fault.Fault.{Fault}
use Rattle.pt_behaviour.specs.declared.behaviour.Next.{Next}
use Rattle.pt_children.specs.declared.children.Child.{Child}
use Rattle.pt_children.specs.declared.home.Home.TheVariants.{Here}
use Rattle.pt_children.specs.declared.limit.Limit.{Limit}
use Rattle.pt_children.specs.declared.restart.Strategy.{Strategy}
use Rattle.pt_children.specs.Answering.{AnswersNotStarted, AnswersStarted, AsksProgram}
use Rattle.pt_children.specs.Calling.{AddsChild, DeletesChild, RestartsChild, TerminatesChild}
use Rattle.pt_children.specs.Hearing.{Standing, begun, stopped}
use Rattle.pt_children.specs.Homes.{AllHere}
use Rattle.pt_supervisor.specs.Supervising.{StartsOf, SupervisorHandles, SupervisorScene}

-- a new supervisor of such children, with a parent or without one, has only such children
abbrev pub BeginsHere : Type 0
BeginsHere =
    (strategy : Strategy) (children : List Child) (limit : Limit) (parent : Option Pid) → AllHere children
    → AllHere (record (begun strategy children limit) { parent = parent }).children

-- one that has only such children has only such children once it has handled an item, or none
abbrev pub StaysHere : {S B : Type 0} → StartsOf S B → Type 0
StaysHere {S} {B} starts =
    (me : Pid) (time : ℕ) (item : Option Item) (old : SupervisorScene S B) (next : Next) (new : SupervisorScene S B)
    → SupervisorHandles starts me time item old next new → AllHere old.standing.children
    → AllHere new.standing.children

-- so it is of a call, whatever it returns
abbrev pub LeavesHere : {R : Type 0} → (Standing → R → Standing → Type 0) → Type 0
LeavesHere {R} call =
    (s : Standing) (result : R) (t : Standing) → call s result t → AllHere s.children → AllHere t.children

-- so it is of each call about its children, if a child that is taken in is such a child
pub record CallsLeaveHere : Type 0 where
  pub terminate : (id : ℕ) → LeavesHere (TerminatesChild id)
  pub restart : (id : ℕ) → LeavesHere (RestartsChild id)
  pub delete : (id : ℕ) → LeavesHere (DeletesChild id)
  pub add : (c : Child) → c.home ≡ Here → LeavesHere (AddsChild c)
  pub ask : LeavesHere AsksProgram
  pub started : (id : ℕ) (p : Pid) → LeavesHere (AnswersStarted id p)
  pub not_started : (id : ℕ) (f : Fault) → LeavesHere (AnswersNotStarted id f)
  pub stop : (reason : Reason) (s : Standing) → AllHere s.children → AllHere (stopped reason s).children
