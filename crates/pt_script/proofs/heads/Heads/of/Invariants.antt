-- `Heads::of`: what holds in its loop over `value`.
use Rattle.std.proofs.Common.{◌≡◌, map, drop}
use Rattle.serde_json.specs.View.{view}
use Rattle.pt_script.specs.Steps.{each}
use Rattle.pt_script.specs.Scripts.{next_head, no_heads, heads_view}
use Rattle.pt_script.proofs.heads.Heads.of.Given as goal

abbrev pub invariant-loop-value : goal.invariant-loop-value
invariant-loop-value l = each (next_head l.settings) (heads_view l.heads) (drop l.value-index (map view l.values)) ≡ each (next_head l.settings) no_heads (map view l.values)
