-- `BodyDisplay::fmt`: its clause `writes`.
use Rattle.std.proofs.Common.{rules, append_assoc, append-nil}
use Rattle.std.proofs.Output.{has_written_of_eq}
use Rattle.pt_signal.specs.Text.{body_text}
use Rattle.pt_signal.proofs.item.BodyDisplay.fmt.Goals as goal

pub returns-in-Some-clause-writes : goal.returns-in-Some-clause-writes
unfolding body_text
returns-in-Some-clause-writes g c =
    λ plain ok. has_written_of_eq _ _ _ _ _ (simp (append_assoc, c.in-Some.is) (search rules)) (c.write.ensures.writes plain ok)

pub returns-in-None-clause-writes : goal.returns-in-None-clause-writes
unfolding body_text
returns-in-None-clause-writes g c =
    λ plain ok. has_written_of_eq _ _ _ _ _ (simp (append_assoc, append-nil, c.in-None.is) (search rules)) (c.write-in-None.ensures.writes plain ok)
