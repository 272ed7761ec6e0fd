-- `Runner::finds_nothing`: its clause `rests`.
use Rattle.pt_runner.proofs.Waiting.{all_out_of_work}
use Rattle.pt_runner.proofs.runner.Runner.finds_nothing.Goals as goal

pub returns-clause-rests : goal.returns-clause-rests
returns-clause-rests c = λ h. all_out_of_work c.args.self.now c.args.desk.now.shard c.all_find_nothing.result c.all_find_nothing.ensures h
