-- `replay`: its contract.
use Rattle.std.proofs.Common.{[]}
use Rattle.pt_judge.proofs.Trial.{begins, from_nothing}
use Rattle.pt_judge.proofs.judging.trial.replay.Goals as goal

pub returns : goal.returns
returns c = from_nothing [] c.args.events.now _ (c.replay_from.ensures [] [] (begins _ c.new.ensures) tt)
