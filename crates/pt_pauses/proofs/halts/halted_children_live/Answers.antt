-- `halted_children_live`: its contract.
use Rattle.pt_epochs.specs.Driving.{lets_short}
use Rattle.pt_pauses.proofs.Halting.{going_on_holds, halted_epoch_holds, halted_run_holds, halting_again_holds, held_ended, held_live, run_until_idle_holds}
use Rattle.pt_pauses.proofs.Settling.{gathering_holds, resuming_holds, settling_holds}
use Rattle.pt_pauses.proofs.halts.halted_children_live.Goals as goal

pub returns-clause-gathers : goal.returns-clause-gathers
returns-clause-gathers g c = gathering_holds g.B.Behaviour.answers g.B.Supervised.supervisor g.met.B.Supervised.supervises

pub returns-clause-settles : goal.returns-clause-settles
returns-clause-settles g c = settling_holds g.B.Behaviour.answers g.B.Supervised.supervisor g.met.B.Supervised.supervises

pub returns-clause-resumes : goal.returns-clause-resumes
returns-clause-resumes g c = resuming_holds g.B.Behaviour.answers g.B.Supervised.supervisor g.met.B.Supervised.supervises

pub returns-clause-live : goal.returns-clause-live
returns-clause-live g c =
    held_live g.B.Behaviour.answers g.B.Supervised.supervisor g.met.B.Supervised.supervises
    c.still_node_laws.ensures
    c.receipts_lower_the_load.ensures.empty c.resumed_links.ensures.merge c.quiet_monitors.ensures.since c.quiet_monitors.ensures.over_watches

pub returns-clause-ended : goal.returns-clause-ended
returns-clause-ended g c =
    held_ended g.B.Behaviour.answers g.B.Supervised.supervisor g.met.B.Supervised.supervises c.still_node_laws.ensures.legal c.still_node_laws.ensures.known

pub returns-clause-halts : goal.returns-clause-halts
returns-clause-halts g c = halted_epoch_holds g.B.Behaviour.answers g.B.Supervised.supervisor g.met.B.Supervised.supervises g.S.Sink.takes g.S.Sink.refuses

pub returns-clause-goes_on : goal.returns-clause-goes_on
returns-clause-goes_on g c = going_on_holds g.B.Behaviour.answers g.B.Supervised.supervisor g.met.B.Supervised.supervises g.S.Sink.takes g.S.Sink.refuses

pub returns-clause-again : goal.returns-clause-again
returns-clause-again g c = halting_again_holds g.B.Behaviour.answers g.B.Supervised.supervisor g.met.B.Supervised.supervises g.S.Sink.takes g.S.Sink.refuses

pub returns-clause-run : goal.returns-clause-run
returns-clause-run g c =
    halted_run_holds g.B.Behaviour.answers g.B.Supervised.supervisor g.met.B.Supervised.supervises g.S.Sink.takes g.S.Sink.refuses (λ plan. g.D.Drive.lets c.args.drive.now)

pub returns-clause-threads : goal.returns-clause-threads
returns-clause-threads g c =
    halted_run_holds g.B.Behaviour.answers g.B.Supervised.supervisor g.met.B.Supervised.supervises g.S.Sink.takes g.S.Sink.refuses (λ plan. lets_short plan.events)

pub returns-clause-until_idle : goal.returns-clause-until_idle
returns-clause-until_idle g c =
    run_until_idle_holds g.B.Behaviour.answers g.B.Supervised.supervisor g.met.B.Supervised.supervises (g.D.Drive.lets c.args.drive.now)
