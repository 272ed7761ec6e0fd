-- `children_here_live`: its contract.
use Rattle.pt_workers.specs.Running.{begins_by}
use Rattle.pt_workers.specs.declared.work.Standing.TheVariants.{Going}
use Rattle.pt_pauses.proofs.Staying.{crews_stay_here, gathered_here_live, quiet_here_live, stays_here}
use Rattle.pt_pauses.proofs.here.children_here_live.Goals as goal

pub returns-clause-stays : goal.returns-clause-stays
returns-clause-stays g c = λ home. stays_here g.B.Behaviour.answers g.B.Supervised.supervisor g.met.B.Supervised.supervises home

pub returns-clause-runs : goal.returns-clause-runs
returns-clause-runs g c = λ home.
    crews_stay_here g.B.Behaviour.answers g.B.Supervised.supervisor g.met.B.Supervised.supervises home (begins_by (λ _. Going) (g.G.Gate.lets c.args.gate.now))

pub returns-clause-quiet : goal.returns-clause-quiet
returns-clause-quiet g c = quiet_here_live g.B.Supervised.supervisor c.still_node_laws.ensures

pub returns-clause-gathered : goal.returns-clause-gathered
returns-clause-gathered g c = gathered_here_live g.B.Supervised.supervisor c.still_node_laws.ensures
