-- `ItemDisplay::fmt`: its clause `writes`.
use Rattle.std.proofs.Common.{append_assoc}
use Rattle.std.proofs.Output.{has_written_of_eq}
use Rattle.pt_signal.specs.Text.{item_text}
use Rattle.pt_signal.proofs.item.ItemDisplay.fmt.Goals as goal

pub returns-in-User-clause-writes : goal.returns-in-User-clause-writes
unfolding item_text
returns-in-User-clause-writes g c =
    λ plain ok. has_written_of_eq _ _ _ _ _ (simp (append_assoc, c.in-User.is)) (c.write.ensures.writes plain ok)

pub returns-in-Exit-clause-writes : goal.returns-in-Exit-clause-writes
unfolding item_text
returns-in-Exit-clause-writes g c =
    λ plain ok. has_written_of_eq _ _ _ _ _ (simp (append_assoc, c.in-Exit.is)) (c.write-in-Exit.ensures.writes plain ok)

pub returns-in-Down-clause-writes : goal.returns-in-Down-clause-writes
unfolding item_text
returns-in-Down-clause-writes g c =
    λ plain ok. has_written_of_eq _ _ _ _ _ (simp (append_assoc, c.in-Down.is)) (c.write-in-Down.ensures.writes plain ok)

pub returns-in-Alive-clause-writes : goal.returns-in-Alive-clause-writes
unfolding item_text
returns-in-Alive-clause-writes g c =
    λ plain ok. has_written_of_eq _ _ _ _ _ (simp (append_assoc, c.in-Alive.is)) (c.write-in-Alive.ensures.writes plain ok)
