-- `keep_ends`: its contract, and what its call of `add_reason` asks.
use Rattle.std.proofs.Common.{◌≡◌, ◌∙◌, ◌+◌, ap, arith, length, List, option_to_list}
use Rattle.std.proofs.lemmas.List.{length-append}
use Rattle.pt_accounts.specs.LifeState.{LifeState}
use Rattle.pt_accounts.specs.SlotState.{life_end, reasons_of}
use Rattle.pt_accounts.proofs.SlotLives.{length_reasons, ends_or_stays}
use Rattle.pt_accounts.proofs.slot.keep_ends.Goals as goal
use Rattle.pt_accounts.proofs.slot.keep_ends.Goals.{After-add_reasons, After-forget_newest-reason}

-- how many reasons there are once those of the ended ones are added
grown : (c : After-add_reasons) → length c.add_reasons.new.forgotten.listed ≡ length c.args.forgotten.now.listed + length c.args.ended.now.items
grown c =
    let k : length c.add_reasons.new.forgotten.listed ≡ length c.args.forgotten.now.listed + length (reasons_of c.as_slice.result.now) =
    ap length c.add_reasons.ensures.listed ∙ length-append c.args.forgotten.now.listed (reasons_of c.as_slice.result.now) in
    let m : length (reasons_of c.as_slice.result.now) ≡ length c.args.ended.now.items =
    ap (λ (l : List LifeState). length (reasons_of l)) c.as_slice.ensures.value ∙ length_reasons c.args.ended.now.items c.requires.over in
    omega (arith, k, m)

-- the newest adds its reason or stays
newest_once : (c : After-forget_newest-reason) → length (option_to_list c.forget_newest-reason.result) ≡ length (option_to_list (life_end c.args.newest.now))
newest_once c = ap (λ (o : _). length (option_to_list o)) c.forget_newest-reason.ensures.reason

pub add_reason-requires-clause-room : goal.add_reason-requires-clause-room
add_reason-requires-clause-room c =
    let e = newest_once (goal.at.add_reason-requires-clause-room c).After-forget_newest-reason in
    let m = ends_or_stays c.args.newest.now in
    let l : length c.as_slice.result.now ≡ length c.args.ended.now.items = ap length c.as_slice.ensures.value in
    omega (arith, c.requires.room, c.add_reasons.ensures.room, l, m, e)

pub add_reason-requires-clause-few : goal.add_reason-requires-clause-few
add_reason-requires-clause-few c =
    let e = newest_once (goal.at.add_reason-requires-clause-few c).After-forget_newest-reason in
    let g = grown (goal.at.add_reason-requires-clause-few c).After-add_reasons in
    let m = ends_or_stays c.args.newest.now in
    omega (arith, c.requires.few, g, m, e)

pub returns-clause-room : goal.returns-clause-room
returns-clause-room c =
    let g = grown (goal.at.returns-clause-room c).After-add_reasons in
    let l : length c.as_slice.result.now ≡ length c.args.ended.now.items = ap length c.as_slice.ensures.value in
    let k : length c.add_reason.new.forgotten.listed ≡ length c.add_reasons.new.forgotten.listed + length (option_to_list c.forget_newest-reason.result) =
    ap length c.add_reason.ensures.listed ∙ length-append c.add_reasons.new.forgotten.listed (option_to_list c.forget_newest-reason.result) in
    omega (arith, g, l, k, c.add_reasons.ensures.room, c.add_reason.ensures.room)
