-- `RecordDisplay::fmt`: its clause `writes`.
use Rattle.std.proofs.Common.{append_assoc, refl}
use Rattle.std.proofs.Output.{has_written_of_eq}
use Rattle.pt_texts.specs.Text.{record_text}
use Rattle.pt_texts.proofs.records.RecordDisplay.fmt.Goals as goal

pub returns-in-Head-clause-writes : goal.returns-in-Head-clause-writes
unfolding record_text
returns-in-Head-clause-writes g c =
    λ plain ok. has_written_of_eq _ _ _ _ _ (simp (append_assoc, c.in-Head.is) refl) (c.write.ensures.writes plain ok)
