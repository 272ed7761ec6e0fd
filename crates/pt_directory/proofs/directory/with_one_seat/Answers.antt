-- `with_one_seat`: what its call of `of_words` asks.
use Rattle.std.proofs.Common.{ℕ, ◌*◌, sym, ap, ◌∙◌}
use Rattle.pt_directory.proofs.SeatSteps.{opens}
use Rattle.pt_directory.proofs.directory.with_one_seat.Goals as goal

pub of_words-requires : goal.of_words-requires
of_words-requires c =
    opens record { desks = c.from.result; slots = c.from-2.result } c.as_slice.result.now (2 * (c.from-3.result * c.args.slots)) (c.as_slice.ensures.value ∙ c.in_ok-zeros.ensures)
    (ap (λ (z : ℕ × ℕ). 2 * (z.0 * z.1)) (λ i. ((c.from-3.ensures ∙ sym c.from.ensures) i, sym c.from-2.ensures i)))
