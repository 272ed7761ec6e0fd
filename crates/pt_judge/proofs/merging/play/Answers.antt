-- `play`: its clause `played`.
use Rattle.std.proofs.Common.{subst, arith}
use Rattle.std.proofs.lemmas.List.{get_or_read}
use Rattle.pt_judge.specs.declared.merging.Seat.{Seat}
use Rattle.std.proofs.Common.{List, ap}
use Rattle.pt_judge.specs.Race.{next_key, IsBest}
use Rattle.pt_judge.proofs.Race.{match_played}
use Rattle.pt_judge.proofs.merging.play.Goals as goal

pub returns-clause-played : goal.returns-clause-played
returns-clause-played c =
    let best : IsBest (next_key c.args.journals.now c.args.seats.now.items) c.args.low c.args.high c.best_of_halves-best.result =
    subst (λ (seats : List Seat). IsBest (next_key c.args.journals.now seats) c.args.low c.args.high c.best_of_halves-best.result) c.as_slice.ensures.value c.best_of_halves-best.ensures
    in
    match_played c.args.journals.now c.args.seats.now.items c.args.low c.args.high _ _ c.requires.some (omega arith) (ap (λ (s : Seat). s.taken) (get_or_read c.args.seats.now.items _ _ (omega arith) c.index_mut.ensures.value _)) c.requires.one_half c.requires.other_half best
