-- `answer_all`: its clauses, and its loop over `place`.
use Rattle.std.proofs.Common.{get_or, subst, refl, arith}
use Rattle.pt_c_crews.specs.Crewing.{AnswersOne}
use Rattle.pt_c_crews.proofs.InCrew.{keeps_none, keeps_then, no_answer, none_taken, refused_one, took_all, took_one}
use Rattle.pt_c_crews.proofs.batches.answer_all.Goals as goal

pub loop-place-init : goal.loop-place-init
loop-place-init c = record { so_far = none_taken c.args.answers.now c.args.crew.now; keeps = keeps_none c.args.crew.now }

pub loop-place-preserved : goal.loop-place-preserved
loop-place-preserved c =
    let inv = c.loop-place.invariant in
    let r = c.answer-code.ensures in
    let one = get_or c.args.answers.now c.loop-place.place no_answer in
    record {
      so_far = took_one c.args.answers.now c.loop-place.place c.args.crew.now c.loop-place.crew inv.so_far one c.loop-place-test.true refl c.answer-code.new.crew
          (subst (λ code. AnswersOne one code c.loop-place.crew c.answer-code.new.crew) c.if-code-ne-DONE.false r.does);
      keeps = keeps_then c.args.crew.now c.loop-place.crew c.answer-code.new.crew inv.keeps r.keeps;
    }

pub returns-then-code-ne-DONE-clause-does : goal.returns-then-code-ne-DONE-clause-does
returns-then-code-ne-DONE-clause-does c =
    let inv = c.loop-place.invariant in
    let one = get_or c.args.answers.now c.loop-place.place no_answer in
    refused_one c.args.answers.now c.loop-place.place c.args.crew.now c.loop-place.crew inv.so_far one c.loop-place-test.true refl c.answer-code.result c.answer-code.new.crew c.if-code-ne-DONE.true c.answer-code.ensures.does

pub returns-clause-does : goal.returns-clause-does
returns-clause-does c =
    let inv = c.loop-place.invariant in
    let t = c.loop-place-test.false in
    took_all c.args.answers.now c.loop-place.place c.args.crew.now c.loop-place.crew inv.so_far (omega (arith, t))

pub returns-then-code-ne-DONE-clause-keeps : goal.returns-then-code-ne-DONE-clause-keeps
returns-then-code-ne-DONE-clause-keeps c = keeps_then c.args.crew.now c.loop-place.crew c.answer-code.new.crew c.loop-place.invariant.keeps c.answer-code.ensures.keeps
