-- `SignalDisplay::fmt`: its clause `writes`.
use Rattle.std.proofs.Common.{append_assoc}
use Rattle.std.proofs.Output.{has_written_of_eq}
use Rattle.pt_signal.specs.Text.{signal_text}
use Rattle.pt_signal.proofs.signal.SignalDisplay.fmt.Goals as goal

pub returns-in-Message-clause-writes : goal.returns-in-Message-clause-writes
unfolding signal_text
returns-in-Message-clause-writes g c = λ plain ok. has_written_of_eq _ _ _ _ _ (simp c.in-Message.is) (c.write.ensures.writes plain ok)

pub returns-in-Link-clause-writes : goal.returns-in-Link-clause-writes
unfolding signal_text
returns-in-Link-clause-writes g c =
    λ plain ok. has_written_of_eq _ _ _ _ _ (simp c.in-Link.is) (c.write-in-Link.ensures.writes plain ok)

pub returns-in-Unlink-clause-writes : goal.returns-in-Unlink-clause-writes
unfolding signal_text
returns-in-Unlink-clause-writes g c =
    λ plain ok. has_written_of_eq _ _ _ _ _ (simp c.in-Unlink.is) (c.write-in-Unlink.ensures.writes plain ok)

pub returns-in-Exit-clause-writes : goal.returns-in-Exit-clause-writes
unfolding signal_text
returns-in-Exit-clause-writes g c =
    λ plain ok. has_written_of_eq _ _ _ _ _ (simp c.in-Exit.is) (c.write-in-Exit.ensures.writes plain ok)

pub returns-in-LinkExit-clause-writes : goal.returns-in-LinkExit-clause-writes
unfolding signal_text
returns-in-LinkExit-clause-writes g c =
    λ plain ok. has_written_of_eq _ _ _ _ _ (simp (append_assoc, c.in-LinkExit.is)) (c.write-in-LinkExit.ensures.writes plain ok)

pub returns-in-Monitor-clause-writes : goal.returns-in-Monitor-clause-writes
unfolding signal_text
returns-in-Monitor-clause-writes g c =
    λ plain ok. has_written_of_eq _ _ _ _ _ (simp c.in-Monitor.is) (c.write-in-Monitor.ensures.writes plain ok)

pub returns-in-Demonitor-clause-writes : goal.returns-in-Demonitor-clause-writes
unfolding signal_text
returns-in-Demonitor-clause-writes g c =
    λ plain ok. has_written_of_eq _ _ _ _ _ (simp c.in-Demonitor.is) (c.write-in-Demonitor.ensures.writes plain ok)

pub returns-in-Down-clause-writes : goal.returns-in-Down-clause-writes
unfolding signal_text
returns-in-Down-clause-writes g c =
    λ plain ok. has_written_of_eq _ _ _ _ _ (simp (append_assoc, c.in-Down.is)) (c.write-in-Down.ensures.writes plain ok)

pub returns-in-AliveAsk-clause-writes : goal.returns-in-AliveAsk-clause-writes
unfolding signal_text
returns-in-AliveAsk-clause-writes g c =
    λ plain ok. has_written_of_eq _ _ _ _ _ (simp c.in-AliveAsk.is) (c.write-in-AliveAsk.ensures.writes plain ok)

pub returns-in-AliveSay-clause-writes : goal.returns-in-AliveSay-clause-writes
unfolding signal_text
returns-in-AliveSay-clause-writes g c =
    λ plain ok. has_written_of_eq _ _ _ _ _ (simp (append_assoc, c.in-AliveSay.is)) (c.write-in-AliveSay.ensures.writes plain ok)
