-- `add_reasons`: its loop over `place`.
use Rattle.std.proofs.Common.{◌∷◌, [], ◌≤◌, Option, Some, None, ◌∙◌, ◌++◌, take, ap, sym, arith, append_assoc, length, option_to_list, List}
use Rattle.std.proofs.lemmas.List.{take_more, length-append, length-take}
use Rattle.pt_signal.specs.declared.reason.Reason.{Reason}
use Rattle.pt_events.specs.History.{reason_of}
use Rattle.pt_accounts.specs.LifeState.{LifeState}
use Rattle.pt_accounts.specs.SlotState.{reasons_of}
use Rattle.pt_accounts.proofs.SlotLives.{reasons_more}
use Rattle.pt_accounts.proofs.slot.add_reasons.Goals as goal

one_at_most : (o : Option Reason) → length (option_to_list o) ≤ 1
one_at_most None = omega arith
one_at_most (Some r) = omega arith

-- no more reasons than lives
few_reasons : (lives : List LifeState) → length (reasons_of lives) ≤ length lives
few_reasons [] = omega arith
few_reasons (l ∷ lives) =
    let rest = few_reasons lives in
    let one = one_at_most (reason_of l.phase) in
    let k = length-append (option_to_list (reason_of l.phase)) (reasons_of lives) in
    omega (arith, rest, one, k)

pub loop-place-preserved : goal.loop-place-preserved
loop-place-preserved c = record {
  listed =
      c.add_reason.ensures.listed ∙ ap (λ z. z ++ option_to_list c.ended.result) c.loop-place.invariant.listed
      ∙ append_assoc c.args.forgotten.now.listed (reasons_of (take c.loop-place.place c.args.ended.now)) (option_to_list c.ended.result) ∙ ap (λ z. c.args.forgotten.now.listed ++ z)
      (ap (λ o. reasons_of (take c.loop-place.place c.args.ended.now) ++ option_to_list o) c.ended.ensures ∙ sym (reasons_more (take c.loop-place.place c.args.ended.now) c.index-ended-place.result)
      ∙ ap (λ x. reasons_of (take c.loop-place.place c.args.ended.now ++ x ∷ [])) c.index-ended-place.is ∙ ap reasons_of (sym (take_more c.args.ended.now c.loop-place.place c.index-ended-place.result c.loop-place-test.true)));
  room = let a = c.loop-place.invariant.room in let b = c.add_reason.ensures.room in let o = one_at_most c.ended.result in omega arith;
}

pub add_reason-requires-clause-room : goal.add_reason-requires-clause-room
add_reason-requires-clause-room c =
    let a = c.loop-place.invariant.room in
    let b = c.requires.room in
    let o = one_at_most c.ended.result in
    omega (arith, c.loop-place-test.true)

pub add_reason-requires-clause-few : goal.add_reason-requires-clause-few
add_reason-requires-clause-few c =
    let a = ap length c.loop-place.invariant.listed ∙ length-append c.args.forgotten.now.listed (reasons_of (take c.loop-place.place c.args.ended.now)) in
    let k = few_reasons (take c.loop-place.place c.args.ended.now) in
    let n = length-take c.loop-place.place c.args.ended.now in
    let b = c.requires.few in
    let o = one_at_most c.ended.result in
    omega (arith, c.loop-place-test.true)
