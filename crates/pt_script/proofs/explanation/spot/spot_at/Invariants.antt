-- `spot_at`: what holds in its loop over `byte`.
use Rattle.std.proofs.Common.{◌≡◌, ◌+◌, ◌≤◌, drop, take}
use Rattle.std.specs.Prelude.{◌==◌, count_by}
use Rattle.pt_script.specs.Spots as spec
use Rattle.pt_script.proofs.explanation.spot.spot_at.Given as goal

abbrev pub invariant-loop-byte : goal.invariant-loop-byte
invariant-loop-byte l = record {
  line : spec.line_behind (take l.count l.bytes) ≡ l.line + count_by (λ b. b == 10) (drop l.byte-index (take l.count l.bytes));
  column : spec.column_behind 1 (take l.count l.bytes) ≡ spec.column_behind l.column (drop l.byte-index (take l.count l.bytes));
  few : l.line ≤ l.byte-index + 1;
  short : l.column ≤ l.byte-index + 1;
}
