-- `Ins::go_by`: what its call of `go_by` asks, and its contract.
use Rattle.std.proofs.Common.{◌≡◌, ℕ, ◌<◌, [], length, get_or, ◌∙◌, sym, ap, arith, subst}
use Rattle.pt_signal.proofs.Lists.{map-set_same, map-set_longer, get_or-map_read, get_or-map_set_other, get_or-map_set_same}
use Rattle.pt_carrier.specs.Lanes.{Sending, Receiving, AllGo}
use Rattle.pt_carrier.specs.Ends.{OutEnds, InEnds}
use Rattle.pt_carrier.proofs.Meeting.{xs_within, ys_within, same_ring, same_from, same_to}
use Rattle.pt_carrier.proofs.ends.Ins.go_by.Goals as goal

pub go_by-requires : goal.go_by-requires
go_by-requires c =
    let m = rw (← c.outs.view_is, ← c.self.view_is) at c.requires.meets in
    let a = c.outs.inside.number in
    let b = c.self.inside.number in
    let n = c.args.self.now.place.number in
    let letters = c.args.letters.now in
    let xs = c.outs.inside.lanes.items in
    let x = c.index_mut-2.result.now in
    let out = c.outs.invariant.2 in
    let ys = c.self.inside.lanes.items in
    let y = c.index_mut.result.now in
    let into = c.self.invariant.3 in
    let b_is : b ≡ n = ap (λ (i : InEnds). i.place.number) c.self.view_is in
    let a_is : a ≡ b = ap (λ (o : OutEnds). o.place.number) c.outs.view_is ∙ c.requires.same ∙ sym b_is in
    let x_is : x ≡ get_or xs b x = c.index_mut-2.ensures.value ∙ ap (λ i. get_or xs i x) c.from-own.ensures in
    let y_here : y ≡ get_or ys b y = c.index_mut.ensures.value ∙ ap (λ i. get_or ys i y) c.from-own.ensures in
    let y_is : y ≡ get_or ys a y = y_here ∙ ap (λ i. get_or ys i y) (sym a_is) in
    let goes = into b y c.self.invariant.0 in
    let from_is : y.from ≡ n = ap (λ (s : Receiving). s.from) y_here ∙ goes.0 ∙ b_is in
    let to_is : y.to ≡ n = ap (λ (s : Receiving). s.to) y_here ∙ goes.1 ∙ b_is in
    let even = rw (← c.outs.view_is, ← c.self.view_is) at c.requires.even in
    record {
      lane = (
        same_ring _ _ _ xs ys out into m x y x_is y_is,
        same_from _ _ _ xs ys out into m x y x_is y_is,
        same_to _ _ _ xs ys out into m x y x_is y_is,
      );
      names = subst (λ (from : ℕ). AllGo from y.to letters) (sym from_is) (subst (λ (to : ℕ). AllGo n to letters) (sym to_is) c.requires.names);
      even =
          omega (
            arith,
            even,
            ap length (get_or-map_read (λ (s : Sending). s.posted) xs b x [] (xs_within _ _ _ xs ys out into m) x_is),
            ap length (get_or-map_read (λ (s : Receiving). s.collected) ys b y [] c.self.invariant.0 y_here),
          );
    }

pub returns : goal.returns
returns c =
    let m = rw (← c.outs.view_is, ← c.self.view_is) at c.requires.meets in
    let a = c.outs.inside.number in
    let b = c.self.inside.number in
    let cursor = c.self.inside.cursor in
    let xs = c.outs.inside.lanes.items in
    let ys = c.self.inside.lanes.items in
    let x = c.index_mut-2.result.now in
    let y = c.index_mut.result.now in
    let v = c.go_by.new.other in
    let w = c.go_by.new.self in
    let gone = c.go_by.ensures in
    let x_in : b < length xs = xs_within _ _ _ xs ys c.outs.invariant.2 c.self.invariant.3 m in
    let y_in : b < length ys = c.self.invariant.0 in
    let x_is : x ≡ get_or xs b x = c.index_mut-2.ensures.value ∙ ap (λ i. get_or xs i x) c.from-own.ensures in
    let y_is : y ≡ get_or ys b y = c.index_mut.ensures.value ∙ ap (λ i. get_or ys i y) c.from-own.ensures in
    let rings = map-set_same (λ (s : Receiving). s.ring) ys b y w y_in y_is gone.same.0 in
    let collected = map-set_longer (λ (s : Receiving). s.collected) ys _ _ _ _ y_in y_is gone.collected in
    let known = map-set_same (λ (s : Receiving). s.known) ys b y w y_in y_is (gone.none.1 ∙ sym gone.none.0) in
    rw (← c.outs.view_is, ← c.self.view_is, c.from-own.ensures) (record {
      none = get_or-map_read (λ (s : Receiving). s.known) ys b y [] y_in y_is ∙ gone.none.0;
      place = λ i. record { number = a; rings = map-set_same (λ (s : Sending). s.ring) xs b x v x_in x_is gone.other.0 i };
      capacity = map-set_same (λ (s : Sending). s.capacity) xs b x v x_in x_is gone.other.3;
      posted = map-set_longer (λ (s : Sending). s.posted) xs _ _ _ _ x_in x_is gone.posted;
      seen = omega (arith, get_or-map_read (λ (s : Sending). s.seen) xs b x 0 x_in x_is, get_or-map_set_same (λ (s : Sending). s.seen) xs b v 0 x_in, gone.seen);
      others = λ k n. get_or-map_set_other (λ (s : Sending). s.seen) xs b k v 0 n;
      into = λ i. record { place = record { number = b; rings = rings i }; cursor = cursor; collected = collected i; known = known i };
    })
