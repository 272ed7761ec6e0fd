-- `+begun`: what holds in its loop over `begun`, `begun_by`, `begun_within` and `begun_within-loop-op`.
use Rattle.std.proofs.Common.{◌≡◌, ◌+◌, ◌*◌, map, take}
use Rattle.std.specs.Prelude.{min}
use Rattle.serde_json.specs.View.{view}
use Rattle.pt_script.specs.Scripts.{begun_in, spawned_by}
use Rattle.pt_script.proofs.heads.+begun.Given as goal

abbrev pub decreases-begun : goal.decreases-begun
decreases-begun l = 3 * l.levels

abbrev pub decreases-begun_by : goal.decreases-begun_by
decreases-begun_by l = 3 * l.levels + 1

abbrev pub decreases-begun_within : goal.decreases-begun_within
decreases-begun_within l = 3 * l.levels + 2

abbrev pub invariant-begun_within-loop-op : goal.invariant-begun_within-loop-op
invariant-begun_within-loop-op l = l.count ≡ min (spawned_by (begun_in l.levels) (take l.op-index (map view l.list))) 4294967295
