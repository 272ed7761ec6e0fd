-- `Ins::empty_into`: its loop over `d`.
use Rattle.std.proofs.Common.{◌≡◌, ◌≢◌, ◌⊎◌, inl, inr, ℕ, ◌+◌, ◌*◌, ◌<◌, ◌≤◌, [], ◌++◌, length, map, get_or, set, arith, ap, sym, ◌∙◌, below_more}
use Rattle.std.proofs.lemmas.List.{length-map, get_or-set_other}
use Rattle.std.proofs.lemmas.Nat.{same_from_place}
use Rattle.pt_carrier.specs.Lanes.{Receiving}
use Rattle.pt_carrier.specs.Ends.{InEnds}
use Rattle.pt_carrier.specs.Node.{lists}
use Rattle.pt_carrier.specs.Reunion.{room_of}
use Rattle.pt_signal.proofs.Lists.{get_or-map_read, get_or-map_set_same, get_or-map_set_other}
use Rattle.pt_carrier.proofs.ends.Ins.empty_into.Goals as goal

pub loop-d-preserved : goal.loop-d-preserved
loop-d-preserved c =
    let inv = c.loop-d.invariant in
    let d = c.loop-d.d in
    let n = c.len-desks.result in
    let number = c.self.inside.number in
    let left = c.loop-d.left in
    let start = c.self.inside.lanes.items in
    let lanes = c.loop-d.lanes.items in
    let at : c.from.result ≡ number = c.from.ensures in
    let desks : length start ≡ n = omega (arith, c.self.inside.lanes.ok.0, c.len-desks.ensures) in
    let rings : length c.args.self.place.rings ≡ n = sym (ap (λ (i : InEnds). length i.place.rings) c.self.view_is) ∙ length-map start (λ (s : Receiving). s.ring) ∙ desks in
    let is_number : c.args.self.place.number ≡ number = sym (ap (λ (i : InEnds). i.place.number) c.self.view_is) in
    let here_below : number < n = omega (arith, rings, is_number, c.requires.here) in
    let place = d * n + number in
    let room = rw (rings, is_number) at (c.requires.room d (omega (arith, rings, c.loop-d-test.true))) in
    let within : place < length left = omega (arith, room.within, c.loop-d.auto.left) in
    let old = get_or left place c.index-left-d.result in
    let old_is : old ≡ get_or left place old = ap (λ x. get_or left place x) (rw at at c.index-left-d.is) in
    let old_room = get_or-map_read room_of left place old ([], 0) within old_is in
    let old_empty : old.items ≡ [] = sym (ap (λ r. r.0) old_room) ∙ ap (λ r. r.0) (inv.others d number here_below (inr (omega arith))) ∙ room.empty in
    let x = c.index_mut.result.now in
    let x_is : x ≡ get_or start d x = c.index_mut.ensures.value ∙ inv.lanes d x (omega arith) in
    let filled = rw at at c.empty_into.ensures in
    let apart : (i j : ℕ) → j < n → (j ≢ number) ⊎ (d + 1 ≤ i) → i * n + j ≢ place = λ i j m h e.
    let same = same_from_place i j d number n m here_below e in
    elim h [ inl w ↦ w same.1 | inr w ↦ omega (arith, same.0) ] in
    rw at (record {
      count = inv.count;
      lanes = λ i x l. get_or-set_other lanes d i c.empty_into.new.self x (λ w. omega arith) ∙ inv.lanes i x (omega arith);
      known = below_more (λ i. get_or (lists (set left place c.empty_into.new.list)) (i * n + number) [] ≡ get_or (map (λ (s : Receiving). s.known) start) i []) d
          (λ i h. get_or-map_set_other (λ v. v.items) left place (i * n + number) c.empty_into.new.list [] (λ w. omega (arith, (same_from_place i number d number n here_below here_below w).0)) ∙ inv.known i h)
          (get_or-map_set_same (λ v. v.items) left place c.empty_into.new.list [] within
          ∙ filled
          ∙ ap (λ l. l ++ x.known) old_empty
          ∙ sym (get_or-map_read (λ (s : Receiving). s.known) start d x [] (omega (arith, desks, c.loop-d-test.true)) x_is));
      others = λ i j m h.
          let before : (j ≢ number) ⊎ (d ≤ i) = elim h [ inl w ↦ inl w | inr w ↦ inr (omega arith) ] in
          get_or-map_set_other room_of left place (i * n + j) c.empty_into.new.list ([], 0) (apart i j m h) ∙ inv.others i j m before;
    })
