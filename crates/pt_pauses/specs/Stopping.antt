-- What has become of the children of a supervisor that stopped by itself.
use Rattle.std.specs.Prelude.{◌≡◌, ◌⊎◌, ◌<◌, ◌&&◌, Bool, true, false, List, [], length, Some, slice_index_or}
use Rattle.std.specs.List.{list_any}
use Rattle.pt_signal.specs.declared.pid.Pid.{Pid}
use Rattle.pt_signal.specs.declared.reason.Reason.{Reason}
use Rattle.pt_signal.specs.declared.signal.Signal.{Signal}
use Rattle.pt_signal.specs.Values.{same_pid}
use Rattle.pt_events.specs.declared.event.Event.{Event}
use Rattle.pt_events.specs.declared.event.Event.TheVariants.{Came}
use Rattle.pt_events.specs.declared.event.Stamped.{Stamped}
use Rattle.pt_events.specs.History.{Past, at_start, is_unborn, alive}
use Rattle.pt_events.specs.Journal.{IsMerge, events}
use Rattle.pt_shard.specs.ShardState.{ShardState}
use Rattle.pt_gathered.specs.Gathered.{GatheredState, IsGathered, begins, journals}
use Rattle.pt_gathered.specs.Pasts.{GoesOnFrom}
use Rattle.pt_behaviour.specs.declared.behaviour.Next.TheVariants.{Stop}
use Rattle.pt_behaviour.specs.declared.births.Role.{Role}
use Rattle.pt_crew.specs.Upholding.{StandsStill}
use Rattle.pt_children.specs.Hearing.{Standing}
use Rattle.pt_supervisor.specs.Keeping.{PartOf, Keeps, was_started}
use Rattle.pt_children.specs.Families.{all_events}

-- an exit signal that q sent itself came to me, which takes q to have ended then
abbrev pub bids_end : Pid → Pid → Event → Bool
bids_end me q (Came a b (Signal.Exit r)) = same_pid q a && same_pid me b
bids_end me q _ = false

abbrev pub has_bidden : Pid → Pid → Past → Bool
has_bidden me q past = list_any (bids_end me q) past

-- The desk is one of the node. In each merge of the node's journals none of those lives whom the supervisor p started,
-- unless it sent the supervisor an exit signal itself.
abbrev pub StartedEnded : Past → Standing → Pid → ShardState → GatheredState → Type 0
StartedEnded past s p d g =
    (merged : List Stamped) (q : Pid) → IsMerge (journals g) merged → was_started past s.started p q d ≡ true
    → (alive (begins g) (events merged) q ≡ false) ⊎ (has_bidden p q (all_events past d) ≡ true)

-- past is all that happened on the node before its journals; or nothing is taken to have been, and p was not there yet
-- as the desk's journal began
abbrev pub IsAllBefore : Past → Pid → ShardState → GatheredState → Type 0
IsAllBefore past p d g = GoesOnFrom past g ⊎ ((past ≡ []) × (is_unborn (at_start d.start p) ≡ true))

-- So it is of each supervisor that was to stop, as it stands in its crew or as it left it: where its desk is one of a
-- gathered node.
abbrev pub StoppedChildrenEnded : {B : Type 0} → PartOf B → Type 0
StoppedChildrenEnded {B} part =
    (past : Past) (r : Role B) (reason : Reason) (s : Standing) (d : ShardState) (g : GatheredState) → IsGathered g
    → d.number < length g.shards → d ≡ slice_index_or g.shards d.number d → StandsStill (Keeps past part) r d
    → r.next ≡ Stop reason → part r.behaviour ≡ Some s → r.pid.shard ≡ d.number
    → IsAllBefore past r.pid d g → StartedEnded past s r.pid d g
