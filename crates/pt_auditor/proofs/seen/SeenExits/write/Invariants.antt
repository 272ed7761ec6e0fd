-- `write`: what holds in its loop.
use Rattle.std.proofs.Common.{◌≡◌, ◌++◌, take}
use Rattle.std.specs.List.{flat_map}
use Rattle.std.specs.String.{string_bytes}
use Rattle.pt_texts.specs.Text.{record_line}
use Rattle.pt_auditor.specs.Saving.{seen_record}
use Rattle.pt_auditor.proofs.seen.SeenExits.write.Given as goal

abbrev pub invariant-loop-place : goal.invariant-loop-place
invariant-loop-place l = string_bytes l.text ≡ string_bytes l.fn.text ++ flat_map (λ s. record_line (seen_record s)) (take l.place l.self)
