-- `write_parts`: what holds in its loop over `part`.
use Rattle.std.proofs.Common.{◌≡◌, ◌++◌, map, take}
use Rattle.std.specs.List.{flat_map}
use Rattle.std.specs.String.{string_bytes}
use Rattle.pt_chart.specs.Text.{part_text}
use Rattle.pt_chart.proofs.text.write_parts.Given as goal

abbrev pub invariant-loop-part : goal.invariant-loop-part
invariant-loop-part g l = string_bytes l.text ≡ string_bytes l.fn.text ++ flat_map (part_text l.page (map (λ n. n.now) l.names)) (take l.part-index l.parts)
