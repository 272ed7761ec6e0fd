-- `set_ids`: its contract.
use Rattle.std.proofs.Common.{◌≡◌, ◌<◌, ◌≤◌, ◌∙◌, ap, subst, set, length, get_or, arith}
use Rattle.pt_signal.specs.Values.{same_pid}
use Rattle.pt_judge.specs.Places.{first_place}
use Rattle.pt_judge.proofs.FirstPlaces.{at_key, set_at_first, none_set}
use Rattle.pt_judge.proofs.judging.links.set_ids.Goals as goal

pub returns-then-place-len : goal.returns-then-place-len
returns-then-place-len c =
    let xs = c.args.links.now.items in
    let test = same_pid c.args.peer in
    let e : c.place_of-place.result ≡ first_place (at_key test) xs = c.place_of-place.ensures ∙ ap (first_place (at_key test)) c.as_slice.ensures.value in
    let within : first_place (at_key test) xs < length xs = omega (arith, ap length c.as_slice.ensures.value) in
    let x = c.index_mut.result.now in
    ap (λ n. set xs n (x.0, c.args.ids)) e
    ∙ set_at_first test xs x.0 x.1 c.args.ids within (subst (λ n. x ≡ get_or xs n x) e c.index_mut.ensures.value)

pub returns-else-place-len : goal.returns-else-place-len
returns-else-place-len c =
    let xs = c.args.links.now.items in
    let test = same_pid c.args.peer in
    let e : c.place_of-place.result ≡ first_place (at_key test) xs = c.place_of-place.ensures ∙ ap (first_place (at_key test)) c.as_slice.ensures.value in
    let past : length xs ≤ first_place (at_key test) xs = omega (arith, ap length c.as_slice.ensures.value) in
    none_set test xs c.args.ids past
