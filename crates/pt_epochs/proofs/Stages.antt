-- The end of an epoch, stage by stage.
use Rattle.std.proofs.Common.{◌≡◌, List, Result, Ok, Err, sym, subst}
use Rattle.pt_events.specs.declared.event.Stamped.{Stamped}
use Rattle.pt_gathered.specs.Gathered.{GatheredState, IsGathered}
use Rattle.pt_gathered.specs.Quiet.{QuietState}
use Rattle.pt_gathered.specs.Settling.{Settles, NothingLeft}
use Rattle.pt_desk.specs.DeskState.{DeskState}
use Rattle.pt_node.specs.Gathering.{Gathers}
use Rattle.pt_node.specs.Resuming.{Resumes}
use Rattle.pt_node.proofs.Pasts.{one_history}
use Rattle.pt_crew.specs.declared.crew.Crew.{Crew}
use Rattle.pt_epochs.specs.declared.halted.Halted.{Halted}
use Rattle.pt_epochs.specs.declared.halted.Halted.TheVariants.{Running, Turning, Gathering, Settling, Reading, Taking, Resuming, Beginning}
use Rattle.pt_epochs.specs.Epochs.{AllBeginAs, EndsAs, HandsAs, IsSettledHistory, ResumesAllAs, SettlesAs}

module _ {B : Type 0} where
  pub resumed_as : (q : QuietState) (node : List DeskState) (crews : List (Crew B)) (result : Result (List DeskState) Halted) (later : List (Crew B)) → Resumes q.gathered node → AllBeginAs node crews result later → ResumesAllAs q crews result later
  resumed_as q node crews (Ok desks) later on h = record { resumes = subst (Resumes q.gathered) (sym h.0) on; begins = h.1 }
  resumed_as q node crews (Err (Running a b)) later on h = absurd h
  resumed_as q node crews (Err (Turning a b)) later on h = absurd h
  resumed_as q node crews (Err (Gathering a)) later on h = absurd h
  resumed_as q node crews (Err (Settling a)) later on h = absurd h
  resumed_as q node crews (Err (Reading a)) later on h = absurd h
  resumed_as q node crews (Err (Taking a)) later on h = absurd h
  resumed_as q node crews (Err (Resuming a)) later on h = absurd h
  resumed_as q node crews (Err (Beginning a)) later on h = (node, on, h)

  module _ {S : Type 0} (Takes Refuses : S → List Stamped → S → Type 0) where
    pub handed_as : (q : QuietState) (crews : List (Crew B)) (sink : S) (result : Result (List DeskState) Halted) (later : List (Crew B)) (after : S) (history : List Stamped) → IsGathered q.gathered → IsSettledHistory q.gathered history → Takes sink history after
        → ResumesAllAs q crews result later → HandsAs Takes Refuses q crews sink result later after
    handed_as q crews sink (Ok desks) later after history node is takes h = (history, record { node = node; is = is; takes = takes; resumed = h })
    handed_as q crews sink (Err (Running a b)) later after history node is takes h = absurd h.2
    handed_as q crews sink (Err (Turning a b)) later after history node is takes h = absurd h.2
    handed_as q crews sink (Err (Gathering a)) later after history node is takes h = absurd h.2
    handed_as q crews sink (Err (Settling a)) later after history node is takes h = absurd h.2
    handed_as q crews sink (Err (Reading a)) later after history node is takes h = absurd h.2
    handed_as q crews sink (Err (Taking a)) later after history node is takes h = absurd h.2
    handed_as q crews sink (Err (Resuming a)) later after history node is takes h = (history, is, takes, h)
    handed_as q crews sink (Err (Beginning a)) later after history node is takes h = (history, is, takes, h)

    pub settled_as : (g : GatheredState) (node : IsGathered g) (q : QuietState) (crews : List (Crew B)) (sink : S) (result : Result (List DeskState) Halted) (later : List (Crew B)) (after : S) → IsGathered q.gathered → Settles g q.gathered → NothingLeft q.gathered → (NothingLeft g → q.gathered ≡ g)
        → HandsAs Takes Refuses q crews sink result later after → SettlesAs Takes Refuses g crews sink result later after
    settled_as g node q crews sink (Ok desks) later after whole settles none same h = (h.0, record { node = node; settled = q.gathered; settles = settles; nothing_left = none; same = same; over = h.1 })
    settled_as g node q crews sink (Err (Running a b)) later after whole settles none same h = (q, node, whole, settles, none, h)
    settled_as g node q crews sink (Err (Turning a b)) later after whole settles none same h = (q, node, whole, settles, none, h)
    settled_as g node q crews sink (Err (Gathering a)) later after whole settles none same h = (q, node, whole, settles, none, h)
    settled_as g node q crews sink (Err (Settling a)) later after whole settles none same h = absurd h.3.2
    settled_as g node q crews sink (Err (Reading a)) later after whole settles none same h = (q, node, whole, settles, none, h)
    settled_as g node q crews sink (Err (Taking a)) later after whole settles none same h = (q, node, whole, settles, none, h)
    settled_as g node q crews sink (Err (Resuming a)) later after whole settles none same h = (q, node, whole, settles, none, h)
    settled_as g node q crews sink (Err (Beginning a)) later after whole settles none same h = (q, node, whole, settles, none, h)

    pub ended_as : (old : List DeskState) (g : GatheredState) (crews : List (Crew B)) (sink : S) (result : Result (List DeskState) Halted) (later : List (Crew B)) (after : S) → Gathers old g
        → SettlesAs Takes Refuses g crews sink result later after → EndsAs Takes Refuses old crews sink result later after
    ended_as old g crews sink (Ok desks) later after gathers h = (
      h.0,
      record {
        gathered = g;
        gathers = gathers;
        over = h.1;
        whole = one_history old desks g h.1.settled h.0 gathers h.1.settles h.1.over.is.merge h.1.over.resumed.resumes;
      },
    )
    ended_as old g crews sink (Err (Running a b)) later after gathers h = (g, gathers, h)
    ended_as old g crews sink (Err (Turning a b)) later after gathers h = (g, gathers, h)
    ended_as old g crews sink (Err (Gathering a)) later after gathers h = absurd h.5.3.2
    ended_as old g crews sink (Err (Settling a)) later after gathers h = (g, gathers, h)
    ended_as old g crews sink (Err (Reading a)) later after gathers h = (g, gathers, h)
    ended_as old g crews sink (Err (Taking a)) later after gathers h = (g, gathers, h)
    ended_as old g crews sink (Err (Resuming a)) later after gathers h = (g, gathers, h)
    ended_as old g crews sink (Err (Beginning a)) later after gathers h = (g, gathers, h)
