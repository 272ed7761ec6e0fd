-- `search` and what it calls: their measures, and what holds in the loop of `search_within`.
use Rattle.std.proofs.Common.{◌≡◌, ◌+◌, ◌-◌, ◌*◌, ◌≤◌, length, map, take}
use Rattle.serde_json.specs.View.{view}
use Rattle.pt_script.specs.Standing.{processes_in, spawns_in}
use Rattle.pt_script.proofs.explanation.finding.+search.Given as goal

abbrev pub decreases-search : goal.decreases-search
decreases-search l = 3 * l.levels

abbrev pub decreases-search_by : goal.decreases-search_by
decreases-search_by l = 3 * l.levels + 1

abbrev pub decreases-search_within : goal.decreases-search_within
decreases-search_within l = 3 * l.levels + 2

abbrev pub invariant-search_within-loop-operation : goal.invariant-search_within-loop-operation
invariant-search_within-loop-operation l =
    (length (spawns_in (processes_in l.levels) (take l.operation-index (map view l.list))) ≤ l.fn.left)
    × (l.left ≡ l.fn.left - length (spawns_in (processes_in l.levels) (take l.operation-index (map view l.list))))
