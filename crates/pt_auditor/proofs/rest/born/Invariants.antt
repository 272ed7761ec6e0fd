-- `born`: what holds in its loop.
use Rattle.std.proofs.Common.{◌≡◌, take}
use Rattle.std.specs.Map.{keys_of}
use Rattle.pt_auditor.proofs.rest.born.Given as goal

abbrev pub invariant-loop-number : goal.invariant-loop-number
invariant-loop-number l = l.pids.items ≡ take l.number (keys_of l.state.lives)
