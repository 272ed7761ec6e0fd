-- `best_of_halves`: its contract.
use Rattle.std.proofs.Common.{◌≡◌, sym, subst, true, false, arith}
use Rattle.pt_judge.specs.Race.{next_key, winner_at, leads, middle, IsBest}
use Rattle.pt_judge.proofs.Race.{best_played, best_one, best_other}
use Rattle.pt_judge.proofs.merging.best_of_halves.Goals as goal

pub returns-then-leads : goal.returns-then-leads
returns-then-leads c =
    let key = next_key c.args.journals.now c.args.seats.now in
    let w = winner_at c.args.seats.now in
    let m = middle c.args.low c.args.high in
    let one : IsBest key c.args.low m c.winner-one.result = subst (IsBest key c.args.low m) (sym c.winner-one.ensures) (best_played key w c.args.low m c.requires.one_half) in
    let other : IsBest key m c.args.high c.winner-other.result = subst (IsBest key m c.args.high) (sym c.winner-other.ensures) (best_played key w m c.args.high c.requires.other_half) in
    let test : leads (key c.winner-one.result) (key c.winner-other.result) ≡ true = grind (arith) in
    best_one key c.args.low m c.args.high _ _ (omega arith) one other test

pub returns-else-leads : goal.returns-else-leads
returns-else-leads c =
    let key = next_key c.args.journals.now c.args.seats.now in
    let w = winner_at c.args.seats.now in
    let m = middle c.args.low c.args.high in
    let one : IsBest key c.args.low m c.winner-one.result = subst (IsBest key c.args.low m) (sym c.winner-one.ensures) (best_played key w c.args.low m c.requires.one_half) in
    let other : IsBest key m c.args.high c.winner-other.result = subst (IsBest key m c.args.high) (sym c.winner-other.ensures) (best_played key w m c.args.high c.requires.other_half) in
    let test : leads (key c.winner-one.result) (key c.winner-other.result) ≡ false = grind (arith) in
    best_other key c.args.low m c.args.high _ _ (omega arith) one other test
