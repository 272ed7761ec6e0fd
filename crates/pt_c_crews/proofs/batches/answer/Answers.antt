-- `answer`: its clause `does`.
use Rattle.std.proofs.Common.{◌≡◌, inr, refl, sym, subst, ◌∙◌}
use Rattle.pt_c_values.specs.Crossing.{pid_crossed}
use Rattle.pt_c_values.specs.Codes.{IfCrosses}
use Rattle.pt_c_crews.specs.Crewing.{AnswersNext}
use Rattle.pt_c_crews.proofs.batches.answer.Goals as goal

pub returns-in-Err-clause-does : goal.returns-in-Err-clause-does
returns-in-Err-clause-does c =
    subst (λ next. IfCrosses next 2 (c.answer.new.self ≡ c.args.crew.now) (λ n. AnswersNext (pid_crossed c.args.answer.pid) n 2 c.args.crew.now c.answer.new.self))
    (sym c.in-Some.is ∙ c.next_in.ensures)
    (record { does = inr (inr (refl, c.in-Err.ensures.refused)); memory = λ d a is. absurd (cc (c.in-Err.ensures.ok d a)); desk = c.in-Err.ensures.desk })
