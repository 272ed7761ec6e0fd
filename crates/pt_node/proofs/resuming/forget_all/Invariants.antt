-- `forget_all`: what holds in its loop over `which`.
use Rattle.std.proofs.Common.{◌≡◌, ◌++◌, map, take, drop}
use Rattle.pt_accounts.specs.DeskLives.{all_forgotten}
use Rattle.pt_node.proofs.resuming.forget_all.Given as goal

abbrev pub invariant-loop-which : goal.invariant-loop-which
invariant-loop-which l = l.tables ≡ map all_forgotten (take l.which l.initial.tables) ++ drop l.which l.initial.tables
