-- `write_kept`: what holds in its loop.
use Rattle.std.proofs.Common.{◌≡◌, ◌++◌, take}
use Rattle.std.specs.List.{flat_map}
use Rattle.std.specs.String.{string_bytes}
use Rattle.pt_auditor.specs.Saving.{kept_record}
use Rattle.pt_texts.specs.Text.{record_line}
use Rattle.pt_auditor.proofs.saved.write_kept.Given as goal

abbrev pub invariant-loop-monitor : goal.invariant-loop-monitor
invariant-loop-monitor l = string_bytes l.text ≡ string_bytes l.fn.text ++ flat_map (λ m. record_line (kept_record m)) (take l.monitor-index l.monitors)
