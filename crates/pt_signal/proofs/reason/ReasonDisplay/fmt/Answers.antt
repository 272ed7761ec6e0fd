-- `ReasonDisplay::fmt`: its clause `writes`.
use Rattle.std.proofs.Common.{rules}
use Rattle.std.proofs.Output.{has_written_of_eq}
use Rattle.pt_signal.specs.Text.{reason_text}
use Rattle.pt_signal.proofs.reason.ReasonDisplay.fmt.Goals as goal

pub returns-in-Normal-clause-writes : goal.returns-in-Normal-clause-writes
unfolding reason_text
returns-in-Normal-clause-writes g c = search rules

pub returns-in-Kill-clause-writes : goal.returns-in-Kill-clause-writes
unfolding reason_text
returns-in-Kill-clause-writes g c = search rules

pub returns-in-Killed-clause-writes : goal.returns-in-Killed-clause-writes
unfolding reason_text
returns-in-Killed-clause-writes g c = search rules

pub returns-in-Noproc-clause-writes : goal.returns-in-Noproc-clause-writes
unfolding reason_text
returns-in-Noproc-clause-writes g c = search rules

pub returns-in-Shutdown-clause-writes : goal.returns-in-Shutdown-clause-writes
unfolding reason_text
returns-in-Shutdown-clause-writes g c = search rules

pub returns-in-Other-clause-writes : goal.returns-in-Other-clause-writes
unfolding reason_text
returns-in-Other-clause-writes g c = λ plain ok. has_written_of_eq _ _ _ _ _ (simp c.in-Other.is) (c.write.ensures.writes plain ok)
