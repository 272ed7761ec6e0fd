-- `journals_tell_their_pids`: its clauses `life`, `sent` and `journals`.
use Rattle.pt_events.proofs.Homes.{sent_home}
use Rattle.pt_events.proofs.Telling.{reads, says}
use Rattle.pt_events.proofs.laws.journals_tell_their_pids.Goals as goal

pub returns-clause-life : goal.returns-clause-life
returns-clause-life c = reads

pub returns-clause-sent : goal.returns-clause-sent
returns-clause-sent c start merged d e h k = sent_home start d merged e k h

pub returns-clause-journals : goal.returns-clause-journals
returns-clause-journals c = says
