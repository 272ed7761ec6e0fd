-- `Ins::meet`: its contract, and what its call of `meet` asks.
use Rattle.std.proofs.Common.{◌≡◌, List, [], length, get_or, ◌∙◌, ap, arith}
use Rattle.pt_signal.specs.declared.letter.Letter.{Letter}
use Rattle.pt_carrier.specs.Lanes.{Sending, Receiving}
use Rattle.pt_signal.proofs.Lists.{get_or-map_set_other, get_or-map_set_same}
use Rattle.pt_carrier.proofs.Meeting.{xs_within, ys_within, same_ring, same_from, same_to, outs_kept, ins_kept, is_whole}
use Rattle.pt_carrier.proofs.ends.Ins.meet.Goals as goal

pub meet-requires : goal.meet-requires
meet-requires c =
    let m = rw (← c.outs.view_is, ← c.self.view_is) at c.requires in
    let xs = c.outs.inside.lanes.items in
    let ys = c.self.inside.lanes.items in
    let x = c.index_mut-2.result.now in
    let y = c.index_mut.result.now in
    let x_is : x ≡ get_or xs c.self.inside.number x = c.index_mut-2.ensures.value ∙ ap (λ i. get_or xs i x) c.from-to.ensures in
    let y_is : y ≡ get_or ys c.outs.inside.number y = c.index_mut.ensures.value ∙ ap (λ i. get_or ys i y) c.from-from.ensures in (
      same_ring _ _ _ xs ys c.outs.invariant.2 c.self.invariant.3 m x y x_is y_is,
      same_from _ _ _ xs ys c.outs.invariant.2 c.self.invariant.3 m x y x_is y_is,
      same_to _ _ _ xs ys c.outs.invariant.2 c.self.invariant.3 m x y x_is y_is,
    )

pub returns : goal.returns
returns c =
    let m = rw (← c.outs.view_is, ← c.self.view_is) at c.requires in
    let a = c.outs.inside.number in
    let b = c.self.inside.number in
    let cursor = c.self.inside.cursor in
    let out = c.outs.invariant.2 in
    let into = c.self.invariant.3 in
    let xs = c.outs.inside.lanes.items in
    let ys = c.self.inside.lanes.items in
    let x = c.index_mut-2.result.now in
    let y = c.index_mut.result.now in
    let v = c.meet.new.other in
    let w = c.meet.new.self in
    let x_is : x ≡ get_or xs b x = c.index_mut-2.ensures.value ∙ ap (λ i. get_or xs i x) c.from-to.ensures in
    let y_is : y ≡ get_or ys a y = c.index_mut.ensures.value ∙ ap (λ i. get_or ys i y) c.from-from.ensures in
    let other = c.meet.ensures.other in
    let same = c.meet.ensures.same in
    let whole = c.meet.ensures.whole in
    rw (← c.outs.view_is, ← c.self.view_is, c.from-from.ensures, c.from-to.ensures) (record {
      outs = outs_kept a b cursor xs ys out into m x y x_is y_is v w other.0 other.3 other.4 same.0 same.3 whole;
      ins = ins_kept a b cursor xs ys out into m x y x_is y_is v w other.0 other.3 other.4 same.0 same.3 whole;
      known = λ k n. get_or-map_set_other (λ (s : Receiving). s.known) ys a k w [] n;
      seen = λ k n. get_or-map_set_other (λ (s : Sending). s.seen) xs b k v 0 n;
      whole = is_whole a b cursor xs ys out into m x y x_is y_is v w other.0 other.3 other.4 same.0 same.3 whole;
      collected =
          omega (
            arith,
            ap (λ (z : List Letter). length z) (get_or-map_set_same (λ (s : Receiving). s.collected) ys a w [] (ys_within a b cursor xs ys out into m)),
            get_or-map_set_same (λ (s : Sending). s.seen) xs b v 0 (xs_within a b cursor xs ys out into m),
            c.meet.ensures.seen,
          );
      places = omega (arith, get_or-map_set_same (λ (s : Sending). s.capacity) xs b v 0 (xs_within a b cursor xs ys out into m), c.meet.ensures.places);
    })
