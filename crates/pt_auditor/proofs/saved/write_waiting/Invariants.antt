-- `write_waiting`: what holds in its loop.
use Rattle.std.proofs.Common.{◌≡◌, ◌++◌, take}
use Rattle.std.specs.List.{flat_map}
use Rattle.std.specs.String.{string_bytes}
use Rattle.pt_texts.specs.declared.records.Record.TheVariants.{Waits}
use Rattle.pt_texts.specs.Text.{record_line}
use Rattle.pt_auditor.proofs.saved.write_waiting.Given as goal

abbrev pub invariant-loop-item : goal.invariant-loop-item
invariant-loop-item l = string_bytes l.text ≡ string_bytes l.fn.text ++ flat_map (λ i. record_line (Waits i)) (take l.item-index l.items)
