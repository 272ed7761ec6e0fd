-- `empty_all`: its loop over `k`, and what its call of `unwrap` asks, and its checked operations.
use Rattle.std.proofs.Common.{◌≡◌, ◌+◌, ◌<◌, ◌++◌, ◌∷◌, [], length, map, get_or, refl, sym, ap, ◌∙◌, arith}
use Rattle.std.proofs.lemmas.List.{length-map, length-append, get_or_default}
use Rattle.pt_c_values.specs.Places.{values}
use Rattle.pt_c_values.proofs.InRow.{emptied, some_from, told_by}
use Rattle.pt_c_desks.proofs.rows.empty_all.Goals as goal

pub loop-k-init : goal.loop-k-init
loop-k-init c = record {
  split = (map (λ h. h.state) c.args.desks.now, refl, ap (λ z. z ++ values (map (λ h. h.state) c.args.desks.now)) c.requires.none.0, c.requires.full ∙ sym (length-map c.args.desks.now (λ h. h.state)), omega (arith, length-map c.args.desks.now (λ h. h.state)));
  places = ap length c.requires.none.1;
  list = ap length c.requires.none.0;
  room = c.requires.room;
}

pub unwrap-place-requires : goal.unwrap-place-requires
unwrap-place-requires c =
    let s = c.loop-k.invariant.split in
    let k = c.loop-k.k in
    let desks = c.loop-k.desks in
    let within : k < length desks = omega (arith, c.loop-k-test.true, c.loop-k.auto.desks) in
    let h = get_or desks k c.index-desks-k.result in
    let e = emptied (λ h. h.state) desks s.0 k (length c.args.desks.now) h c.loop-k.list.items (values (map (λ h. h.state) c.args.desks.now)) s.1 s.2 s.3 s.4 within (get_or_default desks k c.index-desks-k.result h within) in
    some_from (λ r. r.1) c.take_out.result e.0 (c.take_out.ensures.value ∙ e.1)

pub loop-k-preserved : goal.loop-k-preserved
loop-k-preserved c =
    let inv = c.loop-k.invariant in
    let s = inv.split in
    let k = c.loop-k.k in
    let desks = c.loop-k.desks in
    let within : k < length desks = omega (arith, c.loop-k-test.true, c.loop-k.auto.desks) in
    let h = get_or desks k c.index-desks-k.result in
    let list = c.loop-k.list.items in
    let e = emptied (λ h. h.state) desks s.0 k (length c.args.desks.now) h list (values (map (λ h. h.state) c.args.desks.now)) s.1 s.2 s.3 s.4 within (get_or_default desks k c.index-desks-k.result h within) in
    let next = e.2 c.take_out.new.h c.take_out.ensures.empty in
    let desk : c.unwrap-place.result.1 ≡ e.0 = told_by (λ r. r.1) c.take_out.result c.unwrap-place.result e.0 c.unwrap-place.ensures (c.take_out.ensures.value ∙ e.1) in
    let items : c.push_reserved.new.self.items ≡ list ++ e.0 ∷ [] = c.push_reserved.ensures.items ∙ ap (λ d. list ++ d ∷ []) desk in
    record {
      split = (next.0, next.1, ap (λ z. z ++ values next.0) items ∙ next.2, next.3, next.4);
      places = ap length c.push_reserved-in-loop-k.ensures.items ∙ length-append c.loop-k.places.items (c.unwrap-place.result.0 ∷ []) ∙ ap (λ n. n + 1) inv.places;
      list = ap length items ∙ length-append list (e.0 ∷ []) ∙ ap (λ n. n + 1) inv.list;
      room = (omega (arith, inv.room.0, c.push_reserved.ensures.capacity), omega (arith, inv.room.1, c.push_reserved-in-loop-k.ensures.capacity));
    }
