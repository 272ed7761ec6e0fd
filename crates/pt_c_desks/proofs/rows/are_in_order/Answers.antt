-- `are_in_order`: its contract, and its loop over `k`.
use Rattle.std.proofs.Common.{◌+◌, ◌<◌, [], length, map, get_or, refl, sym, ap, ◌∙◌, arith}
use Rattle.std.specs.Prelude.{◌&&◌}
use Rattle.std.proofs.lemmas.List.{get_or_default}
use Rattle.pt_c_desks.specs.InOrder.{are_in_order, is_desk_at}
use Rattle.pt_c_values.proofs.AlongRow.{look_one}
use Rattle.pt_c_desks.proofs.rows.are_in_order.Goals as goal

pub loop-k-init : goal.loop-k-init
loop-k-init c = record { same = refl; looked = record { seen = []; rest = map (λ h. h.state) c.args.desks.now; all = refl; long = refl; decides = refl } }

pub loop-k-preserved : goal.loop-k-preserved
loop-k-preserved c =
    let k = c.loop-k.k in
    let desks = c.loop-k.desks in
    let within : k < length desks = omega (arith, c.loop-k-test.true, c.loop-k.auto.desks) in
    let h = get_or desks k c.index-desks-k.result in
    let l = look_one (λ h. h.state) (λ place. are_in_order place (length c.args.desks.now)) (λ place. is_desk_at place (length c.args.desks.now)) (λ n p ps. refl) desks (map (λ h. h.state) c.args.desks.now) k h c.loop-k.invariant.same c.loop-k.invariant.looked within (get_or_default desks k c.index-desks-k.result h within) in
    record {
      same = l.2 c.is_desk_at.new.h c.is_desk_at.ensures.same;
      looked = l.3 (sym c.is_desk_at.ensures.at ∙ c.if-not-is_desk_at.false);
    }

pub returns-then-not-is_desk_at-clause-same : goal.returns-then-not-is_desk_at-clause-same
returns-then-not-is_desk_at-clause-same c =
    let k = c.loop-k.k in
    let desks = c.loop-k.desks in
    let within : k < length desks = omega (arith, c.loop-k-test.true, c.loop-k.auto.desks) in
    let h = get_or desks k c.index-desks-k.result in
    let l = look_one (λ h. h.state) (λ place. are_in_order place (length c.args.desks.now)) (λ place. is_desk_at place (length c.args.desks.now)) (λ n p ps. refl) desks (map (λ h. h.state) c.args.desks.now) k h c.loop-k.invariant.same c.loop-k.invariant.looked within (get_or_default desks k c.index-desks-k.result h within) in
    l.2 c.is_desk_at.new.h c.is_desk_at.ensures.same

pub returns-then-not-is_desk_at-clause-order : goal.returns-then-not-is_desk_at-clause-order
returns-then-not-is_desk_at-clause-order c =
    let k = c.loop-k.k in
    let desks = c.loop-k.desks in
    let within : k < length desks = omega (arith, c.loop-k-test.true, c.loop-k.auto.desks) in
    let h = get_or desks k c.index-desks-k.result in
    let l = look_one (λ h. h.state) (λ place. are_in_order place (length c.args.desks.now)) (λ place. is_desk_at place (length c.args.desks.now)) (λ n p ps. refl) desks (map (λ h. h.state) c.args.desks.now) k h c.loop-k.invariant.same c.loop-k.invariant.looked within (get_or_default desks k c.index-desks-k.result h within) in
    sym (l.1 ∙ ap (λ b. b && are_in_order (k + 1) (length c.args.desks.now) l.0) (sym c.is_desk_at.ensures.at ∙ c.if-not-is_desk_at.true))
