-- `are_own`: its contract, and its loop over `k`.
use Rattle.std.proofs.Common.{◌+◌, ◌<◌, [], length, map, get_or, refl, sym, ap, ◌∙◌, arith}
use Rattle.std.specs.Prelude.{◌&&◌}
use Rattle.std.proofs.lemmas.List.{get_or_default}
use Rattle.pt_c_crews.specs.Owning.{are_own, fits_at}
use Rattle.pt_c_values.proofs.AlongRow.{look_one}
use Rattle.pt_c_crews.proofs.rows.are_own.Goals as goal

pub loop-k-init : goal.loop-k-init
loop-k-init c = record { same = refl; looked = record { seen = []; rest = map (λ h. h.state) c.args.crews.now; all = refl; long = refl; decides = refl } }

pub loop-k-preserved : goal.loop-k-preserved
loop-k-preserved c =
    let k = c.loop-k.k in
    let crews = c.loop-k.crews in
    let within : k < length crews = omega (arith, c.loop-k-test.true, c.loop-k.auto.crews) in
    let h = get_or crews k c.index-crews-k.result in
    let l = look_one (λ h. h.state) are_own fits_at (λ n p ps. refl) crews (map (λ h. h.state) c.args.crews.now) k h c.loop-k.invariant.same c.loop-k.invariant.looked within (get_or_default crews k c.index-crews-k.result h within) in
    record {
      same = l.2 c.fits_at.new.h c.fits_at.ensures.same;
      looked = l.3 (sym c.fits_at.ensures.fits ∙ c.if-not-fits_at.false);
    }

pub returns-then-not-fits_at-clause-same : goal.returns-then-not-fits_at-clause-same
returns-then-not-fits_at-clause-same c =
    let k = c.loop-k.k in
    let crews = c.loop-k.crews in
    let within : k < length crews = omega (arith, c.loop-k-test.true, c.loop-k.auto.crews) in
    let h = get_or crews k c.index-crews-k.result in
    let l = look_one (λ h. h.state) are_own fits_at (λ n p ps. refl) crews (map (λ h. h.state) c.args.crews.now) k h c.loop-k.invariant.same c.loop-k.invariant.looked within (get_or_default crews k c.index-crews-k.result h within) in
    l.2 c.fits_at.new.h c.fits_at.ensures.same

pub returns-then-not-fits_at-clause-own : goal.returns-then-not-fits_at-clause-own
returns-then-not-fits_at-clause-own c =
    let k = c.loop-k.k in
    let crews = c.loop-k.crews in
    let within : k < length crews = omega (arith, c.loop-k-test.true, c.loop-k.auto.crews) in
    let h = get_or crews k c.index-crews-k.result in
    let l = look_one (λ h. h.state) are_own fits_at (λ n p ps. refl) crews (map (λ h. h.state) c.args.crews.now) k h c.loop-k.invariant.same c.loop-k.invariant.looked within (get_or_default crews k c.index-crews-k.result h within) in
    sym (l.1 ∙ ap (λ b. b && are_own (k + 1) l.0) (sym c.fits_at.ensures.fits ∙ c.if-not-fits_at.true))
