-- `name_all`: what holds in its loop over `value`.
use Rattle.std.proofs.Common.{◌≡◌, ◌++◌, map, take}
use Rattle.std.specs.String.{string_bytes}
use Rattle.serde_json.specs.View.{view}
use Rattle.pt_script.specs.Called.{name_of}
use Rattle.pt_script.specs.Standing.{processes_of}
use Rattle.pt_script.proofs.called.name_all.Given as goal

abbrev pub invariant-loop-value : goal.invariant-loop-value
invariant-loop-value l = map string_bytes l.names.items ≡ map string_bytes l.fn.names.items ++ map name_of (processes_of (take l.value-index (map view l.values)))
