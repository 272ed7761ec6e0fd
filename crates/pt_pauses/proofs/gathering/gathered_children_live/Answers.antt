-- `gathered_children_live`: its clauses `run`, `rounds`, `rests` and `live`.
use Rattle.pt_workers.specs.Running.{begins_by}
use Rattle.pt_workers.specs.declared.work.Standing.TheVariants.{Going}
use Rattle.pt_crew.proofs.Runs.{run_upholds, rounds_uphold, rest_upholds}
use Rattle.pt_supervisor.specs.Keeping.{Keeps}
use Rattle.pt_supervisor.proofs.Tending.{upheld}
use Rattle.pt_pauses.proofs.AllLive.{all_children_live}
use Rattle.pt_pauses.proofs.gathering.gathered_children_live.Goals as goal

pub returns-clause-run : goal.returns-clause-run
returns-clause-run g c =
    λ past.
    run_upholds g.B.Behaviour.answers (Keeps past g.B.Supervised.supervisor) (upheld past g.B.Supervised.supervisor g.B.Behaviour.answers g.met.B.Supervised.supervises)
    (begins_by (λ _. Going) (g.G.Gate.lets c.args.gate.now))

pub returns-clause-rounds : goal.returns-clause-rounds
returns-clause-rounds g c =
    λ past.
    rounds_uphold g.B.Behaviour.answers (Keeps past g.B.Supervised.supervisor) (upheld past g.B.Supervised.supervisor g.B.Behaviour.answers g.met.B.Supervised.supervises)
    (begins_by (λ _. Going) (g.G.Gate.lets c.args.gate.now))

pub returns-clause-rests : goal.returns-clause-rests
returns-clause-rests g c =
    λ past.
    rest_upholds g.B.Behaviour.answers (Keeps past g.B.Supervised.supervisor) (upheld past g.B.Supervised.supervisor g.B.Behaviour.answers g.met.B.Supervised.supervises)

pub returns-clause-live : goal.returns-clause-live
returns-clause-live g c = all_children_live g.B.Supervised.supervisor
    c.still_node_laws.ensures
