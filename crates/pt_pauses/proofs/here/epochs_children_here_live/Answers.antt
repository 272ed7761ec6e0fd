-- `epochs_children_here_live`: its contract.
use Rattle.pt_epochs.specs.Driving.{lets_short}
use Rattle.pt_pauses.proofs.Staying.{epochs_stay_here, held_here_live, idle_here_live, runs_stay_here, until_idle_stays_here}
use Rattle.pt_pauses.proofs.here.epochs_children_here_live.Goals as goal

pub returns-clause-epochs : goal.returns-clause-epochs
returns-clause-epochs g c = epochs_stay_here g.B.Supervised.supervisor g.S.Sink.takes g.S.Sink.refuses

pub returns-clause-run : goal.returns-clause-run
returns-clause-run g c = λ home.
    runs_stay_here g.B.Behaviour.answers g.B.Supervised.supervisor g.met.B.Supervised.supervises home g.S.Sink.takes g.S.Sink.refuses (λ plan. g.D.Drive.lets c.args.drive.now)

pub returns-clause-threads : goal.returns-clause-threads
returns-clause-threads g c = λ home.
    runs_stay_here g.B.Behaviour.answers g.B.Supervised.supervisor g.met.B.Supervised.supervises home g.S.Sink.takes g.S.Sink.refuses (λ plan. lets_short plan.events)

pub returns-clause-until_idle : goal.returns-clause-until_idle
returns-clause-until_idle g c = λ home.
    until_idle_stays_here g.B.Behaviour.answers g.B.Supervised.supervisor g.met.B.Supervised.supervises home (g.D.Drive.lets c.args.drive.now)

pub returns-clause-idle : goal.returns-clause-idle
returns-clause-idle g c = λ home past plan history old new passes h here.
    idle_here_live g.B.Behaviour.answers g.B.Supervised.supervisor g.met.B.Supervised.supervises home (g.D.Drive.lets c.args.drive.now) plan g.S.Sink.takes g.S.Sink.refuses
    c.still_node_laws.ensures
    c.receipts_lower_the_load.ensures.empty c.resumed_links.ensures.merge c.quiet_monitors.ensures.since c.quiet_monitors.ensures.over_watches past history old new passes h here

pub returns-clause-idle_threads : goal.returns-clause-idle_threads
returns-clause-idle_threads g c = λ home past plan history old new passes h here.
    idle_here_live g.B.Behaviour.answers g.B.Supervised.supervisor g.met.B.Supervised.supervises home (lets_short plan.events) plan g.S.Sink.takes g.S.Sink.refuses
    c.still_node_laws.ensures
    c.receipts_lower_the_load.ensures.empty c.resumed_links.ensures.merge c.quiet_monitors.ensures.since c.quiet_monitors.ensures.over_watches past history old new passes h here

pub returns-clause-held : goal.returns-clause-held
returns-clause-held g c =
    held_here_live g.B.Behaviour.answers g.B.Supervised.supervisor g.met.B.Supervised.supervises
    c.still_node_laws.ensures
    c.receipts_lower_the_load.ensures.empty c.resumed_links.ensures.merge c.quiet_monitors.ensures.since c.quiet_monitors.ensures.over_watches
