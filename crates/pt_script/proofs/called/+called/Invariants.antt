-- `+called`: what holds in its loop over `name_process`, `name_spawn`, `name_spawns` and `name_spawns-loop-op`.
use Rattle.std.proofs.Common.{◌≡◌, ◌+◌, ◌*◌, ◌++◌, map, take}
use Rattle.std.specs.String.{string_bytes}
use Rattle.serde_json.specs.View.{view}
use Rattle.pt_script.specs.Called.{name_of}
use Rattle.pt_script.specs.Standing.{processes_in, spawns_in}
use Rattle.pt_script.proofs.called.+called.Given as goal

abbrev pub decreases-name_process : goal.decreases-name_process
decreases-name_process l = 3 * l.levels

abbrev pub decreases-name_spawn : goal.decreases-name_spawn
decreases-name_spawn l = 3 * l.levels + 1

abbrev pub decreases-name_spawns : goal.decreases-name_spawns
decreases-name_spawns l = 3 * l.levels + 2

abbrev pub invariant-name_spawns-loop-op : goal.invariant-name_spawns-loop-op
invariant-name_spawns-loop-op l = map string_bytes l.names.items ≡ map string_bytes l.fn.names.items ++ map name_of (spawns_in (processes_in l.levels) (take l.op-index (map view l.ops)))
