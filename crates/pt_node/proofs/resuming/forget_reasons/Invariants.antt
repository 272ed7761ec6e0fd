-- `forget_reasons`: what holds in its loop over `which`.
use Rattle.std.proofs.Common.{◌≡◌, ◌++◌, map, take, drop}
use Rattle.pt_desk.specs.Forgetting.{forgetful_desk}
use Rattle.pt_node.proofs.resuming.forget_reasons.Given as goal

abbrev pub invariant-loop-which : goal.invariant-loop-which
invariant-loop-which l = l.desks ≡ map forgetful_desk (take l.which l.initial.desks) ++ drop l.which l.initial.desks
