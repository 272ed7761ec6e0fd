-- `sum_of`: what holds in its loop.
use Rattle.std.proofs.Common.{◌≡◌, ◌<◌, drop}
use Rattle.pt_auditor.specs.Saving.{sum_behind}
use Rattle.pt_auditor.proofs.saved.sum_of.Given as goal

abbrev pub invariant-loop-byte : goal.invariant-loop-byte
invariant-loop-byte l = (l.sum < 4294967291) × (sum_behind 0 l.bytes ≡ sum_behind l.sum (drop l.byte-index l.bytes))
