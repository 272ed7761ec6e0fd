-- Lemmas on a lane whose two ends meet.
use Rattle.std.proofs.Common.{◌≡◌, ◌≢◌, ◌⊎◌, inl, inr, ⊎_elim, ℕ, ◌<◌, List, [], ◌++◌, map, length, get_or, set, sym, ◌∙◌, ap, arith, refl}
use Rattle.std.proofs.lemmas.List.{length-map, length-set}
use Rattle.std.proofs.lemmas.Bool.{cases_eq}
use Rattle.pt_signal.specs.declared.letter.Letter.{Letter}
use Rattle.pt_carrier.specs.Lanes.{Sending, Receiving}
use Rattle.pt_carrier.specs.Ends.{Place, OutEnds, InEnds, out_ends, in_ends, GoOutFrom, ComeInTo}
use Rattle.pt_carrier.specs.Node.{places, IsNode, kept, entry}
use Rattle.pt_carrier.specs.Meeting.{Meets, LaneIsWhole, out_kept, in_kept}
use Rattle.pt_carrier.specs.Reunion.{MeetAt, WholeAt}
use Rattle.pt_carrier.proofs.Places.{out_number, in_number, out_lanes, in_lanes, kept_posted, kept_collected}
use Rattle.pt_signal.proofs.Lists.{map-set_same, get_or-map_read, get_or-map_set_same, get_or-map_set_other}

module _ (a b cursor : ℕ) (xs : List Sending) (ys : List Receiving) (out : GoOutFrom a xs) (into : ComeInTo b ys) (meets : Meets (out_ends a xs) (in_ends b cursor ys)) where
  pub xs_within : b < length xs
  xs_within = omega (arith, meets.has_out, length-map xs (λ (s : Sending). s.ring))

  pub ys_within : a < length ys
  ys_within = omega (arith, meets.has_into, length-map ys (λ (s : Receiving). s.ring))

  -- the lane's two ends, as read
  module _ (x : Sending) (y : Receiving) (x_is : x ≡ get_or xs b x) (y_is : y ≡ get_or ys a y) where
    pub same_ring : x.ring ≡ y.ring
    same_ring =
        sym (get_or-map_read (λ (s : Sending). s.ring) xs b x y.ring xs_within x_is)
        ∙ meets.ring y.ring
        ∙ get_or-map_read (λ (s : Receiving). s.ring) ys a y y.ring ys_within y_is

    pub same_from : x.from ≡ y.from
    same_from = ap (λ (s : Sending). s.from) x_is ∙ (out b x xs_within).0 ∙ sym (ap (λ (s : Receiving). s.from) y_is ∙ (into a y ys_within).0)

    pub same_to : x.to ≡ y.to
    same_to = ap (λ (s : Sending). s.to) x_is ∙ (out b x xs_within).1 ∙ sym (ap (λ (s : Receiving). s.to) y_is ∙ (into a y ys_within).1)

    -- once they have met
    module _ (v : Sending) (w : Receiving) (v_ring : v.ring ≡ x.ring) (v_posted : v.posted ≡ x.posted) (v_capacity : v.capacity ≡ x.capacity) (w_ring : w.ring ≡ y.ring) (w_collected : w.collected ≡ y.collected) (whole : v.posted ≡ w.collected ++ w.known) where
      pub outs_kept : out_kept (out_ends a (set xs b v)) ≡ out_kept (out_ends a xs)
      outs_kept = λ i. (record { number = a; rings = map-set_same (λ (s : Sending). s.ring) xs b x v xs_within x_is v_ring i }, map-set_same (λ (s : Sending). s.posted) xs b x v xs_within x_is v_posted i, map-set_same (λ (s : Sending). s.capacity) xs b x v xs_within x_is v_capacity i)

      pub ins_kept : in_kept (in_ends b cursor (set ys a w)) ≡ in_kept (in_ends b cursor ys)
      ins_kept = λ i. (record { number = b; rings = map-set_same (λ (s : Receiving). s.ring) ys a y w ys_within y_is w_ring i }, cursor, map-set_same (λ (s : Receiving). s.collected) ys a y w ys_within y_is w_collected i)

      pub is_whole : LaneIsWhole (out_ends a (set xs b v)) (in_ends b cursor (set ys a w))
      is_whole =
          get_or-map_set_same (λ (s : Sending). s.posted) xs b v [] xs_within
          ∙ whole
          ∙ sym (λ i. get_or-map_set_same (λ (s : Receiving). s.collected) ys a w [] ys_within i ++ get_or-map_set_same (λ (s : Receiving). s.known) ys a w [] ys_within i)

-- two desks of a node
module _ (pairs : List (OutEnds × InEnds)) (node : IsNode (map places pairs)) (d e : ℕ) (p q : OutEnds × InEnds)
    (d_within : d < length pairs) (e_within : e < length pairs) (p_is : p ≡ get_or pairs d p) (q_is : q ≡ get_or pairs e q) where
  within_map : (k : ℕ) → k < length pairs → k < length (map places pairs)
  within_map k l = omega (arith, length-map pairs places)

  pub can_meet : Meets p.0 q.1
  can_meet =
      let p_number : p.0.place.number ≡ d = out_number places pairs node d p d_within p_is in
      let q_number : q.1.place.number ≡ e = in_number places pairs node e q e_within q_is in
      record {
        has_out = omega (arith, q_number, out_lanes places pairs node d p d_within p_is);
        has_into = omega (arith, p_number, in_lanes places pairs node e q e_within q_is);
        ring = λ r. rw (p_number, q_number)
            (sym (ap (λ (x : Place × Place). get_or x.0.rings e r) (get_or-map_read places pairs d p (places p) d_within p_is))
            ∙ node.paired d e (places p) r (within_map d d_within) (within_map e e_within)
            ∙ ap (λ (x : Place × Place). get_or x.1.rings d r) (get_or-map_read places pairs e q (places p) e_within q_is));
      }

-- two ends of a node have met
module _ (pairs : List (OutEnds × InEnds)) (d e : ℕ) (p q : OutEnds × InEnds)
    (d_within : d < length pairs) (e_within : e < length pairs) (o : OutEnds) (i : InEnds)
    (p_is : p ≡ get_or pairs d p) (q_is : q ≡ get_or (set pairs d (o, p.1)) e q)
    (p_number : p.0.place.number ≡ d) (q_number : q.1.place.number ≡ e)
    (outs : out_kept o ≡ out_kept p.0) (ins : in_kept i ≡ in_kept q.1)
    (others : (k : ℕ) → k ≢ p.0.place.number → get_or i.known k [] ≡ get_or q.1.known k []) (whole : LaneIsWhole o i) where
  between : List (OutEnds × InEnds)
  between = set pairs d (o, p.1)

  e_between : e < length between
  unfolding between
  e_between = rw length-set e_within

  pub MeetAt-met : MeetAt pairs (set (set pairs d (o, p.1)) e (q.0, i)) d e
  unfolding between
  MeetAt-met =
      let known : OutEnds × InEnds → List (List Letter) = λ x. x.1.known in
      let collected : OutEnds × InEnds → List (List Letter) = λ x. x.1.collected in
      let posted : OutEnds × InEnds → List (List Letter) = λ x. x.0.posted in
      let unchanged = map-set_same known pairs d p (o, p.1) d_within p_is refl in
      let i_number : i.place.number ≡ e = ap (λ t. t.0.number) ins ∙ q_number in
      let o_number : o.place.number ≡ d = ap (λ t. t.0.number) outs ∙ p_number in
      record {
        kept = map-set_same kept between e q (q.0, i) e_between q_is (λ t. (out_kept q.0, ins t)) ∙ map-set_same kept pairs d p (o, p.1) d_within p_is (λ t. (outs t, in_kept p.1));
        others = λ j k h. ⊎_elim
            (λ (same : j ≡ e).
            let apart : k ≢ d = elim h [ inl n ↦ absurd (n same) | inr n ↦ n ] in
            rw same (ap (λ l. get_or l k []) (get_or-map_set_same known between e (q.0, i) [] e_between)
            ∙ others k (λ w. apart (w ∙ p_number))
            ∙ sym (ap (λ l. get_or l k []) (get_or-map_read known between e q [] e_between q_is))
            ∙ ap (λ m. entry m e k) unchanged))
            (λ (apart : j ≢ e). ap (λ l. get_or l k []) (get_or-map_set_other known between e j (q.0, i) [] apart) ∙ ap (λ m. entry m j k) unchanged)
            (cases_eq j e);
        whole =
            ap (λ m. entry m d e) (map-set_same posted between e q (q.0, i) e_between q_is refl)
            ∙ ap (λ l. get_or l e []) (get_or-map_set_same posted pairs d (o, p.1) [] d_within)
            ∙ (rw (i_number, o_number) at whole)
            ∙ sym (λ t. get_or (get_or-map_set_same collected between e (q.0, i) [] e_between t) d [] ++ get_or (get_or-map_set_same known between e (q.0, i) [] e_between t) d []);
      }

-- a lane that is whole stays so where the ends of another meet
pub WholeAt-kept : (old new : List (OutEnds × InEnds)) (d e i j : ℕ) → MeetAt old new d e → (j ≢ e) ⊎ (i ≢ d) → WholeAt old i j → WholeAt new i j
WholeAt-kept old new d e i j met apart whole =
    ap (λ m. entry m i j) (kept_posted new old met.kept)
    ∙ whole
    ∙ sym (λ t. entry (kept_collected new old met.kept t) j i ++ met.others j i apart t)

-- the two ends of a lane, where their places stay
pub meets_still : (o o' : OutEnds) (i i' : InEnds) → o'.place ≡ o.place → i'.place ≡ i.place → Meets o i → Meets o' i'
meets_still o o' i i' p q m = record {
  has_out = omega (arith, ap (λ (x : Place). x.number) q, ap (λ (x : Place). length x.rings) p, m.has_out);
  has_into = omega (arith, ap (λ (x : Place). x.number) p, ap (λ (x : Place). length x.rings) q, m.has_into);
  ring = λ r. (λ j. get_or (p j).rings (q j).number r) ∙ m.ring r ∙ sym (λ j. get_or (q j).rings (p j).number r);
}
