-- `runs_uphold`: its clauses `run`, `rounds` and `rests`.
use Rattle.pt_workers.specs.Running.{begins_by}
use Rattle.pt_workers.specs.declared.work.Standing.TheVariants.{Going}
use Rattle.pt_crew.proofs.Runs.{run_upholds, rounds_uphold, rest_upholds}
use Rattle.pt_crew.proofs.running.runs_uphold.Goals as goal

pub returns-clause-run : goal.returns-clause-run
returns-clause-run g c = run_upholds g.B.Behaviour.answers g.B.Upheld.stands g.met.B.Upheld.upheld (begins_by (λ _. Going) (g.G.Gate.lets c.args.gate.now))

pub returns-clause-rounds : goal.returns-clause-rounds
returns-clause-rounds g c = rounds_uphold g.B.Behaviour.answers g.B.Upheld.stands g.met.B.Upheld.upheld (begins_by (λ _. Going) (g.G.Gate.lets c.args.gate.now))

pub returns-clause-rests : goal.returns-clause-rests
returns-clause-rests g c = rest_upholds g.B.Behaviour.answers g.B.Upheld.stands g.met.B.Upheld.upheld
