-- `PickDisplay::fmt`: its clause `writes`.
use Rattle.std.proofs.Output.{has_written_of_eq}
use Rattle.pt_signal.specs.Text.{pick_text}
use Rattle.pt_signal.proofs.item.PickDisplay.fmt.Goals as goal

pub returns-in-Kind-clause-writes : goal.returns-in-Kind-clause-writes
unfolding pick_text
returns-in-Kind-clause-writes g c = λ plain ok. has_written_of_eq _ _ _ _ _ (simp c.in-Kind.is) (c.write.ensures.writes plain ok)

pub returns-in-From-clause-writes : goal.returns-in-From-clause-writes
unfolding pick_text
returns-in-From-clause-writes g c =
    λ plain ok. has_written_of_eq _ _ _ _ _ (simp c.in-From.is) (c.write-in-From.ensures.writes plain ok)

pub returns-in-ExitOf-clause-writes : goal.returns-in-ExitOf-clause-writes
unfolding pick_text
returns-in-ExitOf-clause-writes g c =
    λ plain ok. has_written_of_eq _ _ _ _ _ (simp c.in-ExitOf.is) (c.write-in-ExitOf.ensures.writes plain ok)

pub returns-in-DownOf-clause-writes : goal.returns-in-DownOf-clause-writes
unfolding pick_text
returns-in-DownOf-clause-writes g c =
    λ plain ok. has_written_of_eq _ _ _ _ _ (simp c.in-DownOf.is) (c.write-in-DownOf.ensures.writes plain ok)

pub returns-in-AliveOf-clause-writes : goal.returns-in-AliveOf-clause-writes
unfolding pick_text
returns-in-AliveOf-clause-writes g c =
    λ plain ok. has_written_of_eq _ _ _ _ _ (simp c.in-AliveOf.is) (c.write-in-AliveOf.ensures.writes plain ok)
