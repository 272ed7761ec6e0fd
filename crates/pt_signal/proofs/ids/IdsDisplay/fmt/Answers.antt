-- `IdsDisplay::fmt`: its clause `writes`.
use Rattle.std.proofs.Common.{append-nil}
use Rattle.std.proofs.Output.{has_written_of_eq}
use Rattle.pt_signal.specs.Text.{ids_text}
use Rattle.pt_signal.proofs.ids.IdsDisplay.fmt.Goals as goal

pub returns-in-Some-clause-writes : goal.returns-in-Some-clause-writes
unfolding ids_text
returns-in-Some-clause-writes g c = λ plain ok. has_written_of_eq _ _ _ _ _ (simp c.in-Some.is) (c.write.ensures.writes plain ok)

pub returns-in-None-clause-writes : goal.returns-in-None-clause-writes
unfolding ids_text
returns-in-None-clause-writes g c =
    λ plain ok. has_written_of_eq _ _ _ _ _ (simp (append-nil, c.in-None.is)) (c.write-in-None.ensures.writes plain ok)
