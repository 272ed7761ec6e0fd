-- `Desk::turn_over`: its clauses `goes_on` and `turns`, and its loop over `letter`.
use Rattle.std.proofs.Common.{◌∷◌, Some, None, subst, Ok, inl, inr, refl, arith, rules}
use Rattle.pt_desk.specs.Turns.{HandlesAtMostOne}
use Rattle.pt_desk.proofs.Turning.{turn_goes_on}
use Rattle.pt_desk.proofs.desk.Desk.turn_over.Goals as goal

pub loop-letter-preserved : goal.loop-letter-preserved
loop-letter-preserved c =
    let inv = c.loop-letter.invariant in
    let next = subst (λ b. HandlesAtMostOne c.loop-letter.self (Ok b) c.handle.new.self) c.in-Ok-true.field-0-test c.in-Ok-true.ensures in
    (next.0 ∷ inv.0, omega (arith, inv.1), omega (arith, inv.2), (c.loop-letter.self, inv.3, next.1))

pub returns-in-Err-clause-goes_on : goal.returns-in-Err-clause-goes_on
returns-in-Err-clause-goes_on c =
    let inv = c.loop-letter.invariant in
    turn_goes_on c.args.self.now c.post-posted.new.self c.loop-letter.self c.handle.new.self inv.0 (Some c.in-Err.stop) c.loop-letter.handled c.args.budget
    c.post-posted.ensures.posts inv.3 (omega (arith, inv.2, c.loop-letter-test.true), c.in-Err.ensures)

pub returns-after-loop-letter-clause-goes_on : goal.returns-after-loop-letter-clause-goes_on
returns-after-loop-letter-clause-goes_on c =
    let inv = c.loop-letter.invariant in
    turn_goes_on c.args.self.now c.post-posted.new.self c.loop-letter.self c.loop-letter.self inv.0 None c.loop-letter.handled c.args.budget
    c.post-posted.ensures.posts inv.3 (inl (omega (arith, inv.2, c.loop-letter-test.false, c.loop-letter.auto._letter-end), refl))

pub returns-in-Ok-false-clause-goes_on : goal.returns-in-Ok-false-clause-goes_on
returns-in-Ok-false-clause-goes_on c =
    let inv = c.loop-letter.invariant in
    let none = subst (λ b. HandlesAtMostOne c.loop-letter.self (Ok b) c.handle.new.self) c.in-Ok-false.field-0-test c.in-Ok-false.ensures in
    turn_goes_on c.args.self.now c.post-posted.new.self c.loop-letter.self c.handle.new.self inv.0 None c.loop-letter.handled c.args.budget
    c.post-posted.ensures.posts inv.3 (inr (omega (arith, inv.2, c.loop-letter-test.true), none))

pub returns-in-Err-clause-turns : goal.returns-in-Err-clause-turns
returns-in-Err-clause-turns c = search rules
