-- `DeskLives::read`: what holds in its loop over `place`.
use Rattle.std.proofs.Common.{◌≡◌}
use Rattle.pt_accounts.specs.DeskLives.{ReadsOn}
use Rattle.pt_accounts.proofs.desk_lives.DeskLives.read.Given as goal

abbrev pub invariant-loop-place : goal.invariant-loop-place
invariant-loop-place l = record {
  read : l.self.read ≡ l.place;
  on : ReadsOn l.journal.past l.fn.self l.self;
}
