-- `first`: its contract.
use Rattle.std.proofs.Common.{◌≡◌, ◌<◌, ◌≤◌, length, get_or, subst, arith}
use Rattle.pt_judge.specs.Places.{first_place}
use Rattle.pt_judge.proofs.FirstPlaces.{found, none_found}
use Rattle.pt_judge.proofs.judging.entries.first.Goals as goal

pub returns-then-place-list : goal.returns-then-place-list
returns-then-place-list g c =
    let xs = c.args.list.now in
    let test = g.K.Test.passes c.args.test.now in
    let within : first_place test xs < length xs = subst (λ n. n < length xs) c.place_of-place.ensures (omega arith) in
    found test xs c.index-list-place.result within (subst (λ n. c.index-list-place.result ≡ get_or xs n c.index-list-place.result) c.place_of-place.ensures c.index-list-place.is)

pub returns-else-place-list : goal.returns-else-place-list
returns-else-place-list g c =
    let xs = c.args.list.now in
    none_found (g.K.Test.passes c.args.test.now) xs (subst (λ n. length xs ≤ n) c.place_of-place.ensures (omega arith))
