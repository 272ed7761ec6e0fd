-- `next`: its clause `takes`.
use Rattle.std.proofs.Common.{sym, ◌∙◌, subst, length, List, ap}
use Rattle.pt_judge.specs.declared.merging.Seat.{Seat}
use Rattle.pt_judge.specs.Race.{TakesFirst, head_of, left_at}
use Rattle.pt_judge.proofs.Race.{best_now, some_given, nothing_left, first_taken}
use Rattle.pt_judge.proofs.merging.next.Goals as goal

pub returns-in_err-event-clause-takes : goal.returns-in_err-event-clause-takes
returns-in_err-event-clause-takes c =
    let js = c.args.journals.now in
    let old = c.args.seats.now.items in
    let played = c.requires.played (some_given (length js) c.is_empty.result c.is_empty.ensures c.if-is_empty.false) in
    let best = best_now js old c.as_slice.result.now c.winner-which.result c.as_slice.ensures.value c.winner-which.ensures played in
    let none = sym c.in_err-event.was ∙ c.head.ensures.event ∙ ap (λ (seats : List Seat). head_of (left_at js seats c.winner-which.result)) c.as_slice-2.ensures.value in
    subst (λ o. TakesFirst js old o old) (sym c.from_residual.ensures) (nothing_left js old c.winner-which.result best none)

pub returns-clause-takes : goal.returns-clause-takes
returns-clause-takes c =
    let js = c.args.journals.now in
    let old = c.args.seats.now.items in
    let played = c.requires.played (some_given (length js) c.is_empty.result c.is_empty.ensures c.if-is_empty.false) in
    let best = best_now js old c.as_slice.result.now c.winner-which.result c.as_slice.ensures.value c.winner-which.ensures played in
    let some = sym c.in_ok-event.was ∙ c.head.ensures.event ∙ ap (λ (seats : List Seat). head_of (left_at js seats c.winner-which.result)) c.as_slice-2.ensures.value in
    (c.winner-which.result, first_taken js old c.winner-which.result best c.advance.new.seats.items c.in_ok-event.event some c.advance.ensures.taken)
