-- `no_letters`: what holds in its loop over `e`.
use Rattle.std.proofs.Common.{◌≡◌, replicate, [], map}
use Rattle.pt_shard.specs.LettersState.{LettersState}
use Rattle.pt_shard.proofs.ledger.no_letters.Given as goal

abbrev pub invariant-loop-e : goal.invariant-loop-e
invariant-loop-e l = map (λ (b : LettersState). b.letters) l.outbox.items ≡ replicate l._e []
