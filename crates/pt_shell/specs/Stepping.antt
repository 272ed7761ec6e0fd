-- Steps from one state of a node to the next.
use Rattle.std.specs.Prelude.{◌≡◌, ℕ, List, [], ◌++◌, length, map, reverse, Option, Some, None, Ok, Err}
use Rattle.pt_events.specs.declared.event.Event.{Event}
use Rattle.pt_events.specs.declared.event.Stamped.{Stamped}
use Rattle.pt_events.specs.Journal.{IsMerge}
use Rattle.pt_signal.specs.declared.config.Config.{Config}
use Rattle.pt_desk.specs.DeskState.{DeskState}
use Rattle.pt_gathered.specs.Gathered.{GatheredState, journals}
use Rattle.pt_gathered.specs.LeftOvers.{all_left}
use Rattle.pt_gathered.specs.Lawful.{KeepsHeadline, IsLegalNode}
use Rattle.pt_gathered.specs.Quiet.{QuietState}
use Rattle.pt_gathered.specs.Settling.{Runs, Settles, NothingLeft}
use Rattle.pt_gathered.specs.Order.{Passes, SettlingStops}
use Rattle.pt_workers.specs.Desks.{desk_kept}
use Rattle.pt_node.specs.Gathering.{Gathers, HasJournalsOf}
use Rattle.pt_node.specs.Node.{OpensNode}
use Rattle.pt_node.specs.Resuming.{Resumes}
use Rattle.pt_shell.specs.declared.answer.Answer.{Answer}
use Rattle.pt_shell.specs.declared.phase.Phase.{Phase}

-- events without their stamps and desks
abbrev pub without_stamps : List Stamped → List Event
without_stamps history = map (λ (s : Stamped). s.event) history

-- the node is in this state, and is so
abbrev pub IfRunning : Phase → (List DeskState → Type 0) → Type 0
IfRunning (Phase.Running desks) P = P desks
IfRunning _ P = ⊥

abbrev pub IfGathered : Phase → (GatheredState → Type 0) → Type 0
IfGathered (Phase.Gathered g) P = P g
IfGathered _ P = ⊥

abbrev pub IfSettled : Phase → (QuietState → Type 0) → Type 0
IfSettled (Phase.Settled q) P = P q
IfSettled _ P = ⊥

-- a new node is there, and no epoch is before it; or the one before stays
abbrev pub OpensPhase : Config → Phase → List Event → Answer → Phase → List Event → Type 0
OpensPhase config old before (Answer.Opened (Ok u)) new after =
    IfRunning new (λ desks. OpensNode config (Ok desks)) × (after ≡ [])
OpensPhase config old before (Answer.Opened (Err e)) new after = OpensNode config (Err e) × (new ≡ old) × (after ≡ before)
OpensPhase config old before _ new after = ⊥

-- it is gathered, and so many letters are left over; where there was no memory for the list of them that is not told,
-- and where there was none to gather it the node is as it was
abbrev pub GathersTo : List DeskState → Answer → Phase → Type 0
GathersTo desks (Answer.LeftOver n) new =
    IfGathered new (λ g. Gathers desks g × HasJournalsOf desks g × KeepsHeadline g × IsLegalNode g × (n ≡ length (all_left g)))
GathersTo desks Answer.NoMemory (Phase.Gathered g) = Gathers desks g × HasJournalsOf desks g
GathersTo desks Answer.NoMemory (Phase.Running back) = map desk_kept back ≡ map desk_kept desks
GathersTo desks _ new = ⊥

abbrev pub GathersPhase : Phase → Option Answer → Phase → Type 0
GathersPhase (Phase.Running desks) (Some a) new = GathersTo desks a new
GathersPhase (Phase.Running desks) None new = ⊥
GathersPhase old a new = (a ≡ None) × (new ≡ old)

-- it is settled, and so many letters were handled; or settling stopped, and it is gathered as before, with what was
-- handled so far
abbrev pub SettlesTo : GatheredState → Answer → Phase → Type 0
SettlesTo g (Answer.Handled (Ok n)) new =
    IfSettled new (λ q. ((count : ℕ) × Passes (length g.shards) count g q.gathered) × Runs g 0 q.gathered q.handled
    × NothingLeft q.gathered × (n ≡ q.handled))
SettlesTo g (Answer.Handled (Err stop)) new =
    IfGathered new (λ h. Settles g h × SettlingStops (length g.shards) stop g h)
SettlesTo g _ new = ⊥

abbrev pub SettlesPhase : Phase → Option Answer → Phase → Type 0
SettlesPhase (Phase.Gathered g) (Some a) new = SettlesTo g a new
SettlesPhase (Phase.Gathered g) None new = ⊥
SettlesPhase old a new = (a ≡ None) × (new ≡ old)

-- the events of the epochs before, and then those of the node's history
abbrev pub HasEpoch : QuietState → List Event → List Event → Type 0
HasEpoch q before after =
    (history : List Stamped) × IsMerge (journals q.gathered) (reverse history) × (after ≡ before ++ without_stamps history)

-- the node runs on, and its history is among those of the epochs before; or there was no memory, and all is as it was
abbrev pub ResumesTo : QuietState → List Event → Answer → Phase → List Event → Type 0
ResumesTo q before Answer.Resumed new after =
    IfRunning new (λ desks. Resumes q.gathered desks)
    × HasEpoch q before after
ResumesTo q before Answer.NoMemory new after = (new ≡ Phase.Settled q) × (after ≡ before)
ResumesTo q before _ new after = ⊥

abbrev pub ResumesPhase : Phase → List Event → Option Answer → Phase → List Event → Type 0
ResumesPhase (Phase.Settled q) before (Some a) new after = ResumesTo q before a new after
ResumesPhase (Phase.Settled q) before None new after = ⊥
ResumesPhase old before a new after = (a ≡ None) × (new ≡ old) × (after ≡ before)
