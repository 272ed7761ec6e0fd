-- `count_full`: its loop over `k`, and its checked operations.
use Rattle.std.proofs.Common.{◌+◌, ◌<◌, length, map, get_or, refl, ap, ◌∙◌, arith, cond, []}
use Rattle.std.proofs.lemmas.List.{get_or_default}
use Rattle.pt_c_values.proofs.InRow.{counted, values_few, byte_is, one_at_most}
use Rattle.pt_c_desks.proofs.rows.count_full.Goals as goal

pub loop-k-init : goal.loop-k-init
loop-k-init c = record { same = refl; split = ([], map (λ h. h.state) c.args.desks.now, refl, refl, refl) }

pub overflow_add-count : goal.overflow_add-count
overflow_add-count c =
    let s = c.loop-k.invariant.split in
    omega (arith, values_few s.0, s.3, s.4, c.loop-k-test.true, c.from-count.ensures ∙ byte_is c.is_full.result, one_at_most c.is_full.result)

pub loop-k-preserved : goal.loop-k-preserved
loop-k-preserved c =
    let inv = c.loop-k.invariant in
    let s = inv.split in
    let k = c.loop-k.k in
    let desks = c.loop-k.desks in
    let within : k < length desks = omega (arith, c.loop-k-test.true, c.loop-k.auto.desks) in
    let h = get_or desks k c.index-desks-k.result in
    let r = counted (λ h. h.state) desks (map (λ h. h.state) c.args.desks.now) s.0 s.1 k c.loop-k.count h c.is_full.new.h inv.same s.2 s.3 s.4 within (get_or_default desks k c.index-desks-k.result h within) c.is_full.ensures.same in
    record {
      same = r.0;
      split = (r.1.0, r.1.1, r.1.2, r.1.3, ap (λ n. c.loop-k.count + n) (c.from-count.ensures ∙ byte_is c.is_full.result ∙ ap (λ b. cond b 1 0) c.is_full.ensures.full) ∙ r.1.4);
    }
