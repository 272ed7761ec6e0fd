-- `+play_all`: its clauses `played` and `one_half`, and what its call of `play` asks.
use Rattle.std.proofs.Common.{arith}
use Rattle.pt_judge.specs.Race.{alone, middle}
use Rattle.pt_judge.proofs.Race.{apart_written}
use Rattle.pt_judge.proofs.merging.+play_all.Goals as goal

pub returns-then-high-low-eq1-clause-played : goal.returns-then-high-low-eq1-clause-played
returns-then-high-low-eq1-clause-played t c = alone c.args.low c.args.high (omega arith)

pub play-requires-clause-one_half : goal.play-requires-clause-one_half
play-requires-clause-one_half t c =
    let m = middle c.args.low c.args.high in
    apart_written c.args.journals.now c.play_all.new.seats.items c.play_all-2.new.seats.items c.args.low m m c.args.high c.play_all-2.ensures.written (omega arith) c.play_all.ensures.played
