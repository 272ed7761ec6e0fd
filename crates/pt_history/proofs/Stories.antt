-- The history in which a message has each fate, by computation.
use Rattle.std.proofs.Common.{◌≡◌, refl, rules, arith}
use Rattle.pt_history.specs.CustodyExamples.{sender, receiver, TellsEachFate}
use Rattle.pt_history.proofs.Counting.{each_counts}

pub tells_each_fate : TellsEachFate
tells_each_fate = record {
  legal = search rules;
  took = refl;
  waiting = refl;
  lost = refl;
  on_way = refl;
  without_lost = λ h. let n : 5 ≡ 2 = each_counts receiver _ _ _ _ _ sender h in absurd (omega (arith, n));
  without_on_way = λ h. let n : 5 ≡ 4 = each_counts receiver _ _ _ _ _ sender h in absurd (omega (arith, n));
  told_twice = λ h. let n : 5 ≡ 6 = each_counts receiver _ _ _ _ _ sender h in absurd (omega (arith, n));
}
