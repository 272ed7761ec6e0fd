-- Lemmas on the lanes of a node that is made.
use Rattle.std.proofs.Common.{◌≡◌, ℕ, ◌+◌, ◌<◌, ◌≤◌, List, [], ◌∷◌, ◌++◌, map, length, get_or, sym, ◌∙◌, ap, arith, refl, ⊎_elim}
use Rattle.std.proofs.lemmas.List.{get_or-map, length-map, get_or_append_left, get_or_push, get_or_past, length_push}
use Rattle.std.proofs.lemmas.Bool.{cases_lt}
use denote.RawPtr.{null_ptr}
use Rattle.pt_carrier.specs.Lanes.{Ring, Sending, Receiving, new_sending, new_receiving}
use Rattle.pt_carrier.specs.Ends.{Place, OutEnds, InEnds, out_ends, in_ends, GoOutFrom, ComeInTo}
use Rattle.pt_carrier.specs.Node.{places, IsNode, IsNew}
use Rattle.pt_carrier.specs.Opening.{AreLanes}
use Rattle.pt_carrier.proofs.Lists.{each_push}

abbrev no_ring : Ring
no_ring = record { words = null_ptr; slots = null_ptr; names = (0, (0, 0)); bypass = 0 }

abbrev no_sending : Sending
no_sending = new_sending no_ring 0 0 0

abbrev no_receiving : Receiving
no_receiving = new_receiving no_ring 0 0

-- one more desk
module _ (n desks capacity : ℕ) (rows : List (List Sending)) (columns new : List (List Receiving)) (row : List Sending)
    (lanes : AreLanes n desks capacity rows columns)
    (row_desks : length row ≡ desks)
    (made : (e : ℕ) (x : Sending) → e < desks → get_or row e x ≡ new_sending (get_or row e x).ring n e capacity)
    (count : length new ≡ desks)
    (added : (e : ℕ) (x : Sending) → e < desks → get_or new e [] ≡ get_or columns e [] ++ new_receiving (get_or row e x).ring n e ∷ []) where
  pub AreLanes-more : AreLanes (n + 1) desks capacity (rows ++ row ∷ []) new
  AreLanes-more = record {
    row_count = omega (arith, length_push rows row, lanes.row_count);
    column_count = count;
    row_desks = each_push (λ _ (r : List Sending). length r ≡ desks) rows row [] n lanes.row_count lanes.row_desks row_desks;
    column_desks = λ e l. rw (added e no_sending l, length_push) (ap (λ k. k + 1) (lanes.column_desks e l));
    sending = λ d e x l m. each_push (λ d (r : List Sending). get_or r e x ≡ new_sending (get_or r e x).ring d e capacity) rows row [] n lanes.row_count (λ k h. lanes.sending k e x h m) (made e x m) d l;
    receiving = λ d e x y l m.
        rw (added e x m) (each_push (λ d (r : List Sending). get_or (get_or columns e [] ++ new_receiving (get_or row e x).ring n e ∷ []) d y ≡ new_receiving (get_or r e x).ring d e) rows row [] n lanes.row_count
        (λ k h. get_or_append_left (get_or columns e []) _ y k (omega (arith, lanes.column_desks e m, h)) ∙ lanes.receiving k e x y h m)
        (get_or_push (get_or columns e []) _ y n (lanes.column_desks e m)) d l);
  }

-- the lanes of one desk
module _ (n capacity : ℕ) (rows : List (List Sending)) (columns : List (List Receiving)) (lanes : AreLanes n n capacity rows columns) (few : n ≤ 64) (d : ℕ) (l : d < n) where
  pub outs_made : (d < length (get_or rows d [])) × (length (get_or rows d []) ≤ 64) × GoOutFrom d (get_or rows d [])
  outs_made = (
    omega (arith, lanes.row_desks d l),
    omega (arith, lanes.row_desks d l),
    λ k x m.
        let is = lanes.sending d k x l (omega (arith, lanes.row_desks d l)) in
        (ap (λ (s : Sending). s.from) is, ap (λ (s : Sending). s.to) is),
  )

  pub ins_made : (d < length (get_or columns d [])) × (length (get_or columns d []) ≤ 64) × ComeInTo d (get_or columns d [])
  ins_made = (
    omega (arith, lanes.column_desks d l),
    omega (arith, lanes.column_desks d l),
    λ k y m.
        let is = lanes.receiving k d no_sending y (omega (arith, lanes.column_desks d l)) l in
        (ap (λ (s : Receiving). s.from) is, ap (λ (s : Receiving). s.to) is),
  )

-- the ends of each desk
module _ (n capacity : ℕ) (rows : List (List Sending)) (columns : List (List Receiving)) (pairs : List (OutEnds × InEnds))
    (lanes : AreLanes n n capacity rows columns)
    (count : length pairs ≡ n)
    (are : (d : ℕ) (p : OutEnds × InEnds) → d < n → get_or pairs d p ≡ (out_ends d (get_or rows d []), in_ends d 0 (get_or columns d []))) where
  place_at : (d : ℕ) (x : Place × Place) → d < n → get_or (map places pairs) d x ≡ places (out_ends d (get_or rows d []), in_ends d 0 (get_or columns d []))
  place_at d x l =
      let p : OutEnds × InEnds = (out_ends d [], in_ends d 0 []) in
      get_or-map places pairs d p x (omega arith) ∙ ap places (are d p l)

  desks : length (map places pairs) ≡ n
  desks = length-map pairs places ∙ count

  below : (d : ℕ) → d < length (map places pairs) → d < n
  below d l = omega (arith, desks)

  paired_at : (d e : ℕ) (r : Ring) → d < n → e < n → get_or (map (λ (s : Sending). s.ring) (get_or rows d [])) e r ≡ get_or (map (λ (s : Receiving). s.ring) (get_or columns e [])) d r
  paired_at d e r l m =
      get_or-map (λ (s : Sending). s.ring) (get_or rows d []) e no_sending r (omega (arith, lanes.row_desks d l))
      ∙ sym (ap (λ (s : Receiving). s.ring) (lanes.receiving d e no_sending no_receiving l m))
      ∙ sym (get_or-map (λ (s : Receiving). s.ring) (get_or columns e []) d no_receiving r (omega (arith, lanes.column_desks e m)))

  pub IsNode-made : IsNode (map places pairs)
  IsNode-made = record {
    numbers = λ d x l. (ap (λ (p : Place × Place). p.0.number) (place_at d x (below d l)), ap (λ (p : Place × Place). p.1.number) (place_at d x (below d l)));
    lanes = λ d x l. (
      ap (λ (p : Place × Place). length p.0.rings) (place_at d x (below d l)) ∙ length-map (get_or rows d []) (λ (s : Sending). s.ring) ∙ lanes.row_desks d (below d l) ∙ sym desks,
      ap (λ (p : Place × Place). length p.1.rings) (place_at d x (below d l)) ∙ length-map (get_or columns d []) (λ (s : Receiving). s.ring) ∙ lanes.column_desks d (below d l) ∙ sym desks,
    );
    paired = λ d e x r l m.
        ap (λ (p : Place × Place). get_or p.0.rings e r) (place_at d x (below d l))
        ∙ paired_at d e r (below d l) (below e m)
        ∙ sym (ap (λ (p : Place × Place). get_or p.1.rings d r) (place_at e x (below e m)));
  }

  pub IsNew-made : (d : ℕ) (p : OutEnds × InEnds) → d < n → IsNew n capacity (get_or pairs d p)
  IsNew-made d p l = rw (are d p l) (record {
    cursor = refl;
    posted_desks = length-map (get_or rows d []) (λ (s : Sending). s.posted) ∙ lanes.row_desks d l;
    collected_desks = length-map (get_or columns d []) (λ (s : Receiving). s.collected) ∙ lanes.column_desks d l;
    posted = λ e. ⊎_elim
        (λ (h : e < n). get_or-map (λ (s : Sending). s.posted) (get_or rows d []) e no_sending [] (omega (arith, lanes.row_desks d l)) ∙ ap (λ (s : Sending). s.posted) (lanes.sending d e no_sending l h))
        (λ (h : n ≤ e). get_or_past (map (λ (s : Sending). s.posted) (get_or rows d [])) e [] (rw length-map (omega (arith, lanes.row_desks d l))))
        (cases_lt e n);
    capacities = λ e h. get_or-map (λ (s : Sending). s.capacity) (get_or rows d []) e no_sending 0 (omega (arith, lanes.row_desks d l)) ∙ ap (λ (s : Sending). s.capacity) (lanes.sending d e no_sending l h);
    seen = λ e h. get_or-map (λ (s : Sending). s.seen) (get_or rows d []) e no_sending 0 (omega (arith, lanes.row_desks d l)) ∙ ap (λ (s : Sending). s.seen) (lanes.sending d e no_sending l h);
    collected = λ e. ⊎_elim
        (λ (h : e < n). get_or-map (λ (s : Receiving). s.collected) (get_or columns d []) e no_receiving [] (omega (arith, lanes.column_desks d l)) ∙ ap (λ (s : Receiving). s.collected) (lanes.receiving e d no_sending no_receiving h l))
        (λ (h : n ≤ e). get_or_past (map (λ (s : Receiving). s.collected) (get_or columns d [])) e [] (rw length-map (omega (arith, lanes.column_desks d l))))
        (cases_lt e n);
    known = λ e. ⊎_elim
        (λ (h : e < n). get_or-map (λ (s : Receiving). s.known) (get_or columns d []) e no_receiving [] (omega (arith, lanes.column_desks d l)) ∙ ap (λ (s : Receiving). s.known) (lanes.receiving e d no_sending no_receiving h l))
        (λ (h : n ≤ e). get_or_past (map (λ (s : Receiving). s.known) (get_or columns d [])) e [] (rw length-map (omega (arith, lanes.column_desks d l))))
        (cases_lt e n);
  })
