-- `paused_children_live`: its contract.
use Rattle.pt_workers.specs.Running.{begins_by}
use Rattle.pt_workers.specs.declared.work.Standing.TheVariants.{Going}
use Rattle.pt_pauses.proofs.Going.{rest_holds, rounds_hold, run_holds, stays_from}
use Rattle.pt_pauses.proofs.Pausing.{pause_holds, pause_left}
use Rattle.pt_pauses.proofs.pauses.paused_children_live.Goals as goal

pub returns-clause-run : goal.returns-clause-run
returns-clause-run g c =
    run_holds g.B.Behaviour.answers g.B.Supervised.supervisor g.met.B.Supervised.supervises (begins_by (λ _. Going) (g.G.Gate.lets c.args.gate.now))

pub returns-clause-rounds : goal.returns-clause-rounds
returns-clause-rounds g c =
    rounds_hold g.B.Behaviour.answers g.B.Supervised.supervisor g.met.B.Supervised.supervises (begins_by (λ _. Going) (g.G.Gate.lets c.args.gate.now))

pub returns-clause-rests : goal.returns-clause-rests
returns-clause-rests g c = rest_holds g.B.Behaviour.answers g.B.Supervised.supervisor g.met.B.Supervised.supervises

pub returns-clause-from : goal.returns-clause-from
returns-clause-from g c = stays_from

pub returns-clause-hold : goal.returns-clause-hold
returns-clause-hold g c = λ past merged desks new crews later p h.
    pause_holds g.B.Behaviour.answers g.B.Supervised.supervisor g.met.B.Supervised.supervises past merged desks new crews later p h

pub returns-clause-left : goal.returns-clause-left
returns-clause-left g c = λ past merged desks new crews later d x left p from within h.
    pause_left g.B.Behaviour.answers g.B.Supervised.supervisor g.met.B.Supervised.supervises past merged desks new crews later p from d x within left h
