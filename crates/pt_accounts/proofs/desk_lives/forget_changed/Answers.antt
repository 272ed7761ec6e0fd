-- `forget_changed`: its loop over `slot`, and its clause `forgets`.
use Rattle.std.proofs.Common.{◌∙◌, ◌<◌, ◌≤◌, length, length-set, subst, arith}
use Rattle.pt_accounts.specs.Changed.{OthersAreForgotten}
use Rattle.pt_accounts.proofs.ToForget.{all_forgot, forgot_others, forgot_same, none_left, past_others}
use Rattle.pt_accounts.proofs.desk_lives.forget_changed.Goals as goal

pub loop-slot-preserved-then-slot-len : goal.loop-slot-preserved-then-slot-len
loop-slot-preserved-then-slot-len c =
    let slots = c.loop-slot.slots.items in
    let k = c.in-Some.slot in
    let x = c.index_mut.result.now in
    let y = c.forget.new.self in
    let i = c.loop-slot.invariant in
    let within : k < length slots = let t = c.if-slot-len.true in let n = c.len.ensures in let o = c.loop-slot.slots.ok.0 in omega arith in
    record {
      len = length-set slots k y ∙ i.len;
      same = λ s. forgot_same slots k x y within c.index_mut.ensures.value c.forget.ensures s ∙ i.same s;
      others = forgot_others slots k x y within c.index_mut.ensures.value c.forget.ensures c.loop-slot.changed c.take.new.self c.in-Some.ensures.taken i.others;
    }

pub returns-clause-forgets : goal.returns-clause-forgets
returns-clause-forgets c =
    let slots = c.loop-slot.slots.items in
    let i = c.loop-slot.invariant in
    all_forgot c.args.slots.now.items slots i.len i.same (none_left slots (subst (λ (xs : _). OthersAreForgotten xs slots) c.in_default.ensures.none.0 i.others))

pub loop-slot-preserved : goal.loop-slot-preserved
loop-slot-preserved c =
    let slots = c.loop-slot.slots.items in
    let i = c.loop-slot.invariant in
    let past : length slots ≤ c.in-Some.slot = let f = c.if-slot-len.false in let n = c.len.ensures in omega arith in
    record {
      len = i.len;
      same = i.same;
      others = past_others slots c.in-Some.slot c.loop-slot.changed c.take.new.self past c.in-Some.ensures.taken i.others;
    }
