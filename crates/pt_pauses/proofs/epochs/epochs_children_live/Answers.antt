-- `epochs_children_live`: its contract.
use Rattle.pt_epochs.specs.Driving.{lets_short}
use Rattle.pt_pauses.proofs.Passing.{epoch_holds, idle_lives, passes_hold}
use Rattle.pt_pauses.proofs.epochs.epochs_children_live.Goals as goal

pub returns-clause-ends : goal.returns-clause-ends
returns-clause-ends g c = epoch_holds g.B.Behaviour.answers g.B.Supervised.supervisor g.met.B.Supervised.supervises g.S.Sink.takes g.S.Sink.refuses

pub returns-clause-run : goal.returns-clause-run
returns-clause-run g c = λ past plan most why old new passes h.
    passes_hold g.B.Behaviour.answers g.B.Supervised.supervisor g.met.B.Supervised.supervises g.S.Sink.takes g.S.Sink.refuses (g.D.Drive.lets c.args.drive.now) plan past most why old new passes h

pub returns-clause-threads : goal.returns-clause-threads
returns-clause-threads g c = λ past plan most why old new passes h.
    passes_hold g.B.Behaviour.answers g.B.Supervised.supervisor g.met.B.Supervised.supervises g.S.Sink.takes g.S.Sink.refuses (lets_short plan.events) plan past most why old new passes h

pub returns-clause-idle : goal.returns-clause-idle
returns-clause-idle g c = λ past plan history old new passes h.
    idle_lives g.B.Behaviour.answers g.B.Supervised.supervisor g.met.B.Supervised.supervises g.S.Sink.takes g.S.Sink.refuses (g.D.Drive.lets c.args.drive.now) plan
    c.still_node_laws.ensures
    c.receipts_lower_the_load.ensures.empty c.resumed_links.ensures.merge c.quiet_monitors.ensures.since c.quiet_monitors.ensures.over_watches past history old new passes h

pub returns-clause-idle_threads : goal.returns-clause-idle_threads
returns-clause-idle_threads g c = λ past plan history old new passes h.
    idle_lives g.B.Behaviour.answers g.B.Supervised.supervisor g.met.B.Supervised.supervises g.S.Sink.takes g.S.Sink.refuses (lets_short plan.events) plan
    c.still_node_laws.ensures
    c.receipts_lower_the_load.ensures.empty c.resumed_links.ensures.merge c.quiet_monitors.ensures.since c.quiet_monitors.ensures.over_watches past history old new passes h
