-- `write_residents`: what holds in its loop.
use Rattle.std.proofs.Common.{◌≡◌, ◌++◌, take}
use Rattle.std.specs.List.{flat_map}
use Rattle.std.specs.String.{string_bytes}
use Rattle.pt_auditor.specs.Saving.{entry_of, entry_records, lines_of}
use Rattle.pt_auditor.proofs.saved.write_residents.Given as goal

abbrev pub invariant-loop-place : goal.invariant-loop-place
invariant-loop-place l = string_bytes l.text ≡ string_bytes l.fn.text ++ flat_map (λ r. lines_of (entry_records (entry_of r))) (take l.place l.residents.items)
