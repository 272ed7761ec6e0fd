-- `Mailbox::position`: its contract, where it begins at the mark.
use Rattle.std.proofs.Common.{◌∙◌}
use Rattle.pt_process.proofs.MarkLemmas.{position-past, down_of_other, alive_of_other}
use Rattle.pt_process.proofs.mailbox.Mailbox.position.Goals as goal

pub returns-in_err-place-in-DownOf : goal.returns-in_err-place-in-DownOf
returns-in_err-place-in-DownOf c =
    let from = c.passed_over-from.ensures in
    rw c.in-DownOf.is (c.from_residual.ensures ∙ position-past _ _ (down_of_other c.in-DownOf.monitor) _ _ _ _ _ c.as_slice-waiting.ensures from.within from.under c.down_place.ensures (c.in_err-place-in-DownOf.was))

pub returns-in_ok-place-in-DownOf : goal.returns-in_ok-place-in-DownOf
returns-in_ok-place-in-DownOf c =
    let from = c.passed_over-from.ensures in
    rw c.in-DownOf.is (position-past _ _ (down_of_other c.in-DownOf.monitor) _ _ _ _ _ c.as_slice-waiting.ensures from.within from.under c.down_place.ensures (c.in_ok-place-in-DownOf.was))

pub returns-in_err-place-in-AliveOf : goal.returns-in_err-place-in-AliveOf
returns-in_err-place-in-AliveOf c =
    let from = c.passed_over-from-in-AliveOf.ensures in
    rw c.in-AliveOf.is (c.from_residual-in_err-place-in-AliveOf.ensures ∙ position-past _ _ (alive_of_other c.in-AliveOf.question) _ _ _ _ _ c.as_slice-waiting.ensures from.within from.under c.alive_place.ensures (c.in_err-place-in-AliveOf.was))

pub returns-in_ok-place-in-AliveOf : goal.returns-in_ok-place-in-AliveOf
returns-in_ok-place-in-AliveOf c =
    let from = c.passed_over-from-in-AliveOf.ensures in
    rw c.in-AliveOf.is (position-past _ _ (alive_of_other c.in-AliveOf.question) _ _ _ _ _ c.as_slice-waiting.ensures from.within from.under c.alive_place.ensures (c.in_ok-place-in-AliveOf.was))
