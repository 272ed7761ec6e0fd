-- `Crew::new`: its clause `attends`.
use Rattle.std.proofs.Common.{rules}
use Rattle.pt_crew.proofs.Waking.{nobody}
use Rattle.pt_crew.proofs.Timing.{nobody_timed}
use Rattle.pt_crew.proofs.crew.Crew.new.Goals as goal

pub returns-clause-attends : goal.returns-clause-attends
returns-clause-attends g c = λ d. record { knows = nobody _ _ d c.new-3.ensures.items (λ p. search rules); room = search rules; timers = nobody_timed _ _ (λ p. search rules) c.new-6.ensures }
