-- The ends of a lane between two desks of a node look at each other.
use Rattle.std.proofs.Common.{◌≡◌, ◌≢◌, ◌⊎◌, inl, inr, ⊎_elim, ℕ, ◌<◌, ◌≤◌, List, [], ◌++◌, length, map, get_or, set, sym, ap, ◌∙◌, subst, arith}
use Rattle.std.proofs.lemmas.Bool.{cases_eq}
use Rattle.std.proofs.lemmas.List.{get_or-map, get_or-set_same, get_or-set_other, get_or_default, length-map, length-set}
use Rattle.pt_signal.specs.declared.letter.Letter.{Letter}
use Rattle.pt_carrier.specs.Ends.{Place, OutEnds, InEnds}
use Rattle.pt_carrier.specs.Meeting.{HaveMet, Meets, out_kept, in_kept}
use Rattle.pt_signal.proofs.Lists.{get_or-map_read, map-set_same}
use Rattle.pt_carrier.proofs.Lists.{set_parts, set_parts_back, front_read, back_read}
use Rattle.pt_carrier.proofs.Places.{out_number, in_number, out_lanes, in_lanes}
use Rattle.pt_shard.specs.ShardState.{ShardState}
use Rattle.pt_desk.specs.Sight.{Sight}
use Rattle.pt_desk.specs.DeskState.{DeskState, place, posted_to, collected_from}
use Rattle.pt_desk.specs.Meeting.{DesksMeet, MeetsItself}
use Rattle.pt_workers.specs.Desks.{AreDesks, desk_kept}
use Rattle.pt_workers.specs.Looking.{MeetsAt, MetAt}

-- what a look keeps of a desk
abbrev pub Kept : Type 0
Kept = ShardState × Sight × (Place × List (List Letter) × List ℕ) × (Place × ℕ × List (List Letter))

-- of desks that were kept, each was
module _ (new old : List DeskState) (kept : map desk_kept new ≡ map desk_kept old) where
  pub kept_count : length new ≡ length old
  kept_count = sym (length-map new desk_kept) ∙ ap length kept ∙ length-map old desk_kept

  pub kept_at : (d : ℕ) (x : DeskState) → d < length old → desk_kept (get_or new d x) ≡ desk_kept (get_or old d x)
  kept_at d x l =
      sym (get_or-map desk_kept new d x (desk_kept x) (omega (arith, l, kept_count)))
      ∙ ap (λ ks. get_or ks d (desk_kept x)) kept
      ∙ get_or-map desk_kept old d x (desk_kept x) l

  pub kept_shard : (d : ℕ) (x : DeskState) → d < length old → (get_or new d x).shard ≡ (get_or old d x).shard
  kept_shard d x l = ap (λ (k : Kept). k.0) (kept_at d x l)

  pub kept_posted : (d e : ℕ) (x : DeskState) → d < length old → posted_to (get_or new d x) e ≡ posted_to (get_or old d x) e
  kept_posted d e x l = ap (λ (k : Kept). get_or k.2.1 e []) (kept_at d x l)

  pub kept_capacity : (d e : ℕ) (x : DeskState) → d < length old → get_or (get_or new d x).outs.capacity e 0 ≡ get_or (get_or old d x).outs.capacity e 0
  kept_capacity d e x l = ap (λ (k : Kept). get_or k.2.2 e 0) (kept_at d x l)

  pub kept_collected : (d e : ℕ) (x : DeskState) → d < length old → collected_from (get_or new d x) e ≡ collected_from (get_or old d x) e
  kept_collected d e x l = ap (λ (k : Kept). get_or k.3.2 e []) (kept_at d x l)

-- a lane that was met stays so where the ends of another meet
pub met_kept : (d e : ℕ) (old new : List DeskState) → MeetsAt d e old new → (i j : ℕ) → i < length old → j < length old → (i ≢ d) ⊎ (j ≢ e) → MetAt old i j → MetAt new i j
met_kept d e old new meets i j i_in j_in apart met = record {
  whole = λ x.
      kept_posted new old meets.kept i j x i_in ∙ met.whole x
      ∙ sym (λ t. kept_collected new old meets.kept j i x j_in t ++ meets.known i j x apart t);
  seen = λ x.
      omega
      (arith, met.seen x, ap (λ (ls : List Letter). length ls) (kept_collected new old meets.kept j i x j_in), meets.seen i j x apart);
  places = λ x. omega (arith, met.places x, kept_capacity new old meets.kept i j x i_in);
}

-- the desks p and q at places d and e
module _ (desks : List DeskState) (node : AreDesks desks) (d e : ℕ) (p q : DeskState) (d_in : d < length desks) (e_in : e < length desks) (p_is : p ≡ get_or desks d p) (q_is : q ≡ get_or desks e q) where
  p_number : p.outs.place.number ≡ d
  p_number = out_number place desks node.1.node d p d_in p_is

  q_number : q.ins.place.number ≡ e
  q_number = in_number place desks node.1.node e q e_in q_is

  within_map : (k : ℕ) → k < length desks → k < length (map place desks)
  within_map k l = omega (arith, l, length-map desks place)

  pub can_meet : Meets p.outs q.ins
  can_meet = record {
    has_out = omega (arith, e_in, q_number, out_lanes place desks node.1.node d p d_in p_is);
    has_into = omega (arith, d_in, p_number, in_lanes place desks node.1.node e q e_in q_is);
    ring = λ r. rw (p_number, q_number)
        (sym (ap (λ (x : Place × Place). get_or x.0.rings e r) (get_or-map_read place desks d p (place p) d_in p_is))
        ∙ node.1.node.paired d e (place p) r (within_map d d_in) (within_map e e_in)
        ∙ ap (λ (x : Place × Place). get_or x.1.rings d r) (get_or-map_read place desks e q (place p) e_in q_is));
  }

  -- what they know of each other by now
  module _ (o : OutEnds) (i : InEnds) (met : HaveMet p.outs q.ins o i) where
    met_whole : get_or o.posted e [] ≡ get_or i.collected d [] ++ get_or i.known d []
    met_whole =
        let o_number : o.place.number ≡ d = ap (λ (k : Place × List (List Letter) × List ℕ). k.0.number) met.outs ∙ p_number in
        let i_number : i.place.number ≡ e = ap (λ (k : Place × ℕ × List (List Letter)). k.0.number) met.ins ∙ q_number in
        rw (i_number, o_number) at met.whole

    met_seen : length (get_or i.collected d []) ≤ get_or o.seen e 0
    met_seen = rw (p_number, q_number) at met.collected

    met_places : 0 < get_or o.capacity e 0
    met_places = rw q_number at met.places

    outs_kept : (r : DeskState) → r ≡ record p { outs = o } → desk_kept r ≡ desk_kept p
    outs_kept r is = ap desk_kept is ∙ ap (λ (k : Place × List (List Letter) × List ℕ). (p.shard, p.sight, k, in_kept p.ins)) met.outs

    ins_kept : (r : DeskState) → r ≡ record q { ins = i } → desk_kept r ≡ desk_kept q
    ins_kept r is = ap desk_kept is ∙ ap (λ (k : Place × ℕ × List (List Letter)). (q.shard, q.sight, out_kept q.outs, k)) met.ins

-- two desks have met
module _ (desks : List DeskState) (node : AreDesks desks) (d e : ℕ) (p q p' q' : DeskState) (d_in : d < length desks) (e_in : e < length desks) (p_is : p ≡ get_or desks d p) (q_is : q ≡ get_or desks e q) (apart : d ≢ e) (meet : DesksMeet p q p' q') where
  new : List DeskState
  new = set (set desks d p') e q'

  at_e : (x : DeskState) → get_or new e x ≡ q'
  unfolding new
  at_e x = get_or-set_same (set desks d p') e q' x (rw length-set e_in)

  at_d : (x : DeskState) → get_or new d x ≡ p'
  unfolding new
  at_d x = get_or-set_other (set desks d p') e d q' x apart ∙ get_or-set_same desks d p' x d_in

  at_else : (k : ℕ) (x : DeskState) → k ≢ d → k ≢ e → get_or new k x ≡ get_or desks k x
  unfolding new
  at_else k x not_d not_e = get_or-set_other (set desks d p') e k q' x not_e ∙ get_or-set_other desks d k p' x not_d

  p_at : (x : DeskState) → get_or desks d x ≡ p
  p_at x = sym (p_is ∙ get_or_default desks d p x d_in)

  q_at : (x : DeskState) → get_or desks e x ≡ q
  q_at x = sym (q_is ∙ get_or_default desks e q x e_in)

  posted_at : (x : DeskState) → (get_or new d x).outs ≡ p'.outs
  posted_at x = ap (λ (z : DeskState). z.outs) (at_d x)

  got_at : (x : DeskState) → (get_or new e x).ins ≡ q'.ins
  got_at x = ap (λ (z : DeskState). z.ins) (at_e x)

  -- the ends that did not look
  ins_same : (k : ℕ) (x : DeskState) → k ≢ e → (get_or new k x).ins ≡ (get_or desks k x).ins
  ins_same k x not_e =
      ⊎_elim
      (λ (here : k ≡ d). subst (λ j. (get_or new j x).ins ≡ (get_or desks j x).ins) (sym here)
      (ap (λ (z : DeskState). z.ins) (at_d x) ∙ ap (λ (z : DeskState). z.ins) meet.from_kept ∙ sym (ap (λ (z : DeskState). z.ins) (p_at x))))
      (λ (not_d : k ≢ d). ap (λ (z : DeskState). z.ins) (at_else k x not_d not_e))
      (cases_eq k d)

  outs_same : (k : ℕ) (x : DeskState) → k ≢ d → (get_or new k x).outs ≡ (get_or desks k x).outs
  outs_same k x not_d =
      ⊎_elim
      (λ (here : k ≡ e). subst (λ j. (get_or new j x).outs ≡ (get_or desks j x).outs) (sym here)
      (ap (λ (z : DeskState). z.outs) (at_e x) ∙ ap (λ (z : DeskState). z.outs) meet.to_kept ∙ sym (ap (λ (z : DeskState). z.outs) (q_at x))))
      (λ (not_e : k ≢ e). ap (λ (z : DeskState). z.outs) (at_else k x not_d not_e))
      (cases_eq k e)

  pub two_meet : MeetsAt d e desks (set (set desks d p') e q')
  unfolding new
  two_meet = record {
    kept =
        map-set_same desk_kept (set desks d p') e q q' (rw length-set e_in) (q_is ∙ sym (get_or-set_other desks d e p' q (λ w. apart (sym w))))
        (ins_kept desks node d e p q d_in e_in p_is q_is p'.outs q'.ins meet.met q' meet.to_kept)
        ∙ map-set_same desk_kept desks d p p' d_in p_is (outs_kept desks node d e p q d_in e_in p_is q_is p'.outs q'.ins meet.met p' meet.from_kept);
    here = record {
      whole = λ x.
          ap (λ (z : OutEnds). get_or z.posted e []) (posted_at x) ∙ met_whole desks node d e p q d_in e_in p_is q_is p'.outs q'.ins meet.met
          ∙ sym (ap (λ (z : InEnds). get_or z.collected d [] ++ get_or z.known d []) (got_at x));
      seen = λ x.
          omega (
            arith,
            met_seen desks node d e p q d_in e_in p_is q_is p'.outs q'.ins meet.met,
            ap (λ (z : InEnds). length (get_or z.collected d [])) (got_at x),
            ap (λ (z : OutEnds). get_or z.seen e 0) (posted_at x),
          );
      places = λ x. omega (arith, met_places desks node d e p q d_in e_in p_is q_is p'.outs q'.ins meet.met, ap (λ (z : OutEnds). get_or z.capacity e 0) (posted_at x));
    };
    known = λ i k x h.
        ⊎_elim
        (λ (here : k ≡ e).
        let not_d : i ≢ d = elim h [ inl n ↦ n | inr n ↦ absurd (n here) ] in
        subst (λ j. get_or (get_or new j x).ins.known i [] ≡ get_or (get_or desks j x).ins.known i []) (sym here)
        (ap (λ (z : InEnds). get_or z.known i []) (got_at x)
        ∙ meet.met.known i (λ w. not_d (w ∙ p_number desks node d e p q d_in e_in p_is q_is))
        ∙ sym (ap (λ (z : DeskState). get_or z.ins.known i []) (q_at x))))
        (λ (not_e : k ≢ e). ap (λ (z : InEnds). get_or z.known i []) (ins_same k x not_e))
        (cases_eq k e);
    seen = λ i k x h.
        ⊎_elim
        (λ (here : i ≡ d).
        let not_e : k ≢ e = elim h [ inl n ↦ absurd (n here) | inr n ↦ n ] in
        subst (λ j. get_or (get_or new j x).outs.seen k 0 ≡ get_or (get_or desks j x).outs.seen k 0) (sym here)
        (ap (λ (z : OutEnds). get_or z.seen k 0) (posted_at x)
        ∙ meet.met.seen k (λ w. not_e (w ∙ q_number desks node d e p q d_in e_in p_is q_is))
        ∙ sym (ap (λ (z : DeskState). get_or z.outs.seen k 0) (p_at x))))
        (λ (not_d : i ≢ d). ap (λ (z : OutEnds). get_or z.seen k 0) (outs_same i x not_d))
        (cases_eq i d);
  }

-- a desk has met itself
module _ (desks : List DeskState) (node : AreDesks desks) (d : ℕ) (p p' : DeskState) (d_in : d < length desks) (p_is : p ≡ get_or desks d p) (meet : MeetsItself p p') where
  here_at : (x : DeskState) → get_or (set desks d p') d x ≡ p'
  here_at x = get_or-set_same desks d p' x d_in

  was_at : (x : DeskState) → get_or desks d x ≡ p
  was_at x = sym (p_is ∙ get_or_default desks d p x d_in)

  else_at : (k : ℕ) (x : DeskState) → k ≢ d → get_or (set desks d p') k x ≡ get_or desks k x
  else_at k x apart = get_or-set_other desks d k p' x apart

  pub one_meets : MeetsAt d d desks (set desks d p')
  one_meets = record {
    kept = map-set_same desk_kept desks d p p' d_in p_is (ap desk_kept meet.kept ∙ (λ t. (p.shard, p.sight, meet.met.outs t, meet.met.ins t)));
    here = record {
      whole = λ x.
          ap (λ (z : DeskState). get_or z.outs.posted d []) (here_at x) ∙ met_whole desks node d d p p d_in d_in p_is p_is p'.outs p'.ins meet.met
          ∙ sym (ap (λ (z : DeskState). get_or z.ins.collected d [] ++ get_or z.ins.known d []) (here_at x));
      seen = λ x.
          omega (
            arith,
            met_seen desks node d d p p d_in d_in p_is p_is p'.outs p'.ins meet.met,
            ap (λ (z : DeskState). length (get_or z.ins.collected d [])) (here_at x),
            ap (λ (z : DeskState). get_or z.outs.seen d 0) (here_at x),
          );
      places = λ x. omega (arith, met_places desks node d d p p d_in d_in p_is p_is p'.outs p'.ins meet.met, ap (λ (z : DeskState). get_or z.outs.capacity d 0) (here_at x));
    };
    known = λ i k x h.
        ⊎_elim
        (λ (here : k ≡ d).
        let not_d : i ≢ d = elim h [ inl n ↦ n | inr n ↦ absurd (n here) ] in
        subst (λ j. get_or (get_or (set desks d p') j x).ins.known i [] ≡ get_or (get_or desks j x).ins.known i []) (sym here)
        (ap (λ (z : DeskState). get_or z.ins.known i []) (here_at x)
        ∙ meet.met.known i (λ w. not_d (w ∙ p_number desks node d d p p d_in d_in p_is p_is))
        ∙ sym (ap (λ (z : DeskState). get_or z.ins.known i []) (was_at x))))
        (λ (apart : k ≢ d). ap (λ (z : DeskState). get_or z.ins.known i []) (else_at k x apart))
        (cases_eq k d);
    seen = λ i k x h.
        ⊎_elim
        (λ (here : i ≡ d).
        let not_d : k ≢ d = elim h [ inl n ↦ absurd (n here) | inr n ↦ n ] in
        subst (λ j. get_or (get_or (set desks d p') j x).outs.seen k 0 ≡ get_or (get_or desks j x).outs.seen k 0) (sym here)
        (ap (λ (z : DeskState). get_or z.outs.seen k 0) (here_at x)
        ∙ meet.met.seen k (λ w. not_d (w ∙ q_number desks node d d p p d_in d_in p_is p_is))
        ∙ sym (ap (λ (z : DeskState). get_or z.outs.seen k 0) (was_at x))))
        (λ (apart : i ≢ d). ap (λ (z : DeskState). get_or z.outs.seen k 0) (else_at i x apart))
        (cases_eq i d);
  }

-- two desks of a list that is cut at the later one: the earlier is at place `low` of the front, and the later begins the back
module _ (desks front back : List DeskState) (cut : desks ≡ front ++ back) (node : AreDesks desks) (low high : ℕ) (at : length front ≡ high) (below : low < high) (within : high < length desks) (p q : DeskState) (p_is : p ≡ get_or front low p) (q_is : q ≡ get_or back 0 q) where
  low_in : low < length desks
  low_in = omega (arith, below, within)

  p_read : p ≡ get_or desks low p
  p_read = rw cut (front_read front back high at low p below p_is)

  q_read : q ≡ get_or desks high q
  q_read = rw cut (back_read front back high at q q_is)

  apart : low ≢ high
  apart = λ w. omega (arith, below, w)

  -- the look from the earlier to the later
  pub can_meet_up : Meets p.outs q.ins
  can_meet_up = can_meet desks node low high p q low_in within p_read q_read

  pub meet_up : (p' q' : DeskState) → DesksMeet p q p' q' → MeetsAt low high desks (set front low p' ++ set back 0 q')
  meet_up p' q' meet =
      subst (MeetsAt low high desks) (ap (λ (l : List DeskState). set (set l low p') high q') cut ∙ sym (set_parts front back high at low p' q' below))
      (two_meet desks node low high p q p' q' low_in within p_read q_read apart meet)

  -- the look from the later to the earlier
  pub can_meet_down : Meets q.outs p.ins
  can_meet_down = can_meet desks node high low q p within low_in q_read p_read

  pub meet_down : (p' q' : DeskState) → DesksMeet q p q' p' → MeetsAt high low desks (set front low p' ++ set back 0 q')
  meet_down p' q' meet =
      subst (MeetsAt high low desks) (ap (λ (l : List DeskState). set (set l high q') low p') cut ∙ sym (set_parts_back front back high at low p' q' below))
      (two_meet desks node high low q p q' p' within low_in q_read p_read (λ w. apart (sym w)) meet)
