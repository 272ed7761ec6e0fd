-- `take_out`: its contract.
use Rattle.std.proofs.Common.{◌≤◌, length, subst, ap, ◌∙◌, arith}
use Rattle.std.specs.List.{remove}
use Rattle.pt_judge.specs.Places.{first_place}
use Rattle.pt_judge.proofs.FirstPlaces.{removed, none_removed}
use Rattle.pt_judge.proofs.judging.entries.take_out.Goals as goal

pub returns-then-place-len : goal.returns-then-place-len
returns-then-place-len g c =
    let xs = c.args.list.now.items in
    c.remove.ensures.items ∙ ap (λ n. remove xs n) (c.place_of-place.ensures ∙ ap (first_place (g.K.Test.passes c.args.test.now)) c.as_slice.ensures.value) ∙ removed (g.K.Test.passes c.args.test.now) xs

pub returns-else-place-len : goal.returns-else-place-len
returns-else-place-len g c =
    let xs = c.args.list.now.items in
    none_removed (g.K.Test.passes c.args.test.now) xs (subst (λ n. length xs ≤ n) (c.place_of-place.ensures ∙ ap (first_place (g.K.Test.passes c.args.test.now)) c.as_slice.ensures.value) (omega (arith, ap length c.as_slice.ensures.value)))
