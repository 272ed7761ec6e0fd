-- `go_on_all`: its contract, and its loop over `k`.
use Rattle.std.proofs.Common.{◌<◌, length, map, reverse, get_or, arith}
use Rattle.std.proofs.lemmas.List.{get_or_default}
use Rattle.pt_c_crews.proofs.AlongRow.{goes_on_one, none_gone_on}
use Rattle.pt_c_crews.proofs.rows.go_on_all.Goals as goal

pub loop-k-init : goal.loop-k-init
loop-k-init c = none_gone_on (reverse c.args.history.now) (map (λ h. h.state) c.args.crews.now)

pub loop-k-preserved : goal.loop-k-preserved
loop-k-preserved c =
    let k = c.loop-k.k in
    let crews = c.loop-k.crews in
    let within : k < length crews = omega (arith, c.loop-k-test.true, c.loop-k.auto.crews) in
    let h = get_or crews k c.index-crews-k.result in
    goes_on_one (λ h. h.state) (reverse c.args.history.now) (map (λ h. h.state) c.args.crews.now) crews k h c.go_on_one.new.h c.loop-k.invariant within (get_or_default crews k c.index-crews-k.result h within) c.go_on_one.ensures
