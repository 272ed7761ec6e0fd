-- The load desk by desk: a receipt lowers it, and it is the load of every merge.
use Rattle.std.proofs.Common.{◌≡◌, ℕ, ◌+◌, ◌<◌, ◌≤◌, ◌==◌, ◌&&◌, Bool, true, false, cond, List, [], ◌∷◌, ◌++◌, map, filter, refl, sym, ap, ◌∙◌, subst, subst₂, append-nil, ◌⊎◌, inl, inr, ⊎_elim, arith}
use Rattle.std.proofs.lemmas.Bool.{eqb-true, eq-eqb, ne_eqb, both_ways, cases_lt}
use Rattle.std.proofs.lemmas.List.Elements.{filter-append}
use Rattle.pt_signal.specs.declared.pid.Pid.{Pid}
use Rattle.pt_signal.specs.declared.letter.Letter.{Letter}
use Rattle.pt_signal.specs.Process.{Sent}
use Rattle.pt_events.specs.declared.event.Event.{Event}
use Rattle.pt_events.specs.declared.event.Event.TheVariants.{Born, Came}
use Rattle.pt_events.specs.declared.event.Stamped.{Stamped}
use Rattle.pt_events.specs.History.{Past, Start, life, is_unborn, flying, sent_by}
use Rattle.pt_events.specs.Journal.{Journals, LanesAgree, IsMerge, IsLocal, IsHome, Agrees, events, of_desk, letter, content, posts, gots, in_lane}
use Rattle.pt_events.specs.Locality.{AllHome}
use Rattle.pt_events.specs.Counting.{below}
use Rattle.pt_laws.specs.Load.{weight, weights, size, total_of, pids, IsStart, load, desk_sizes, left_weight, load_by_desk}
use Rattle.pt_laws.specs.Laws.{LanesFly}
use Rattle.pt_laws.specs.LoadLaws.{OldestComes, HasDesks, LoadByDesk}
use Rattle.pt_events.proofs.Local.{life_local}
use Rattle.pt_events.proofs.Homes.{life_home}
use Rattle.pt_laws.proofs.lanes.Load.{one_receipt}
use Rattle.pt_events.proofs.Telling.{all_home}
use Rattle.pt_laws.proofs.Merged.{merged_flies}
use Rattle.pt_laws.proofs.Sums.{below_shift, below_shift_le, below_same, below_zero, below_one, below_at, weigh-append, weigh_sent, weigh_apart}

-- one receipt --------------------------------------------------------------------------

sizes_came : (start : Start) → IsStart start → (past : Past) (l : Letter) (s : Stamped) (e : ℕ) → l.to.shard ≡ e → s.event ≡ Came l.from l.to l.signal
    → desk_sizes start e (s.event ∷ past) + (weights (sent_by start past s.event) + 1) ≤ desk_sizes start e past + weight l.signal
sizes_came start ok past l s e is comes = let h = one_receipt start ok past l.from l.to l.signal in rw (comes, ← is) (omega arith)

module _ (start : Start) (ok : IsStart start) (n d e : ℕ) (l : Letter) (s : Stamped) (journal after : Journals) (over left : ℕ → ℕ → List Letter)
    (r : OldestComes start n d e l s journal after over left) (d_in : d < n) (e_in : e < n) where
  abbrev goes : List Sent
  goes = sent_by start (events (journal e)) s.event

  abbrev to_desk : ℕ → List Letter
  to_desk k = filter (λ r. r.to.shard == k) (map (letter s.stamp) (sent_by start (events (journal e)) s.event))

  size_step : (k : ℕ) → k < n
      → desk_sizes start k (events (after k)) + cond (k == e) (weights (sent_by start (events (journal e)) s.event) + 1) 0
      ≤ desk_sizes start k (events (journal k)) + cond (k == e) (weight l.signal) 0
  size_step k h = go (k == e) refl (r.journals k h)
    where
      go : (b : Bool) → (k == e) ≡ b → after k ≡ cond (k == e) (s ∷ journal k) (journal k)
          → desk_sizes start k (events (after k)) + cond (k == e) (weights (sent_by start (events (journal e)) s.event) + 1) 0
          ≤ desk_sizes start k (events (journal k)) + cond (k == e) (weight l.signal) 0
      go true q j =
          let is : k ≡ e = eqb-true k e q in
          let j1 : after k ≡ s ∷ journal k = rw q at j in
          let z = sizes_came start ok (events (journal e)) l s e r.there r.comes in
          let a : desk_sizes start k (events (after k)) ≡ desk_sizes start e (s.event ∷ events (journal e)) = ap (λ z. desk_sizes start k (events z)) j1 ∙ ap (λ i. desk_sizes start i (s.event ∷ events (journal i))) is in
          let b : desk_sizes start k (events (journal k)) ≡ desk_sizes start e (events (journal e)) = ap (λ i. desk_sizes start i (events (journal i))) is in
          rw q (omega arith)
      go false q j =
          let j1 : after k ≡ journal k = rw q at j in
          let a : desk_sizes start k (events (after k)) ≡ desk_sizes start k (events (journal k)) = ap (λ z. desk_sizes start k (events z)) j1 in
          rw q (omega arith)

  lane_step : (i k : ℕ) → i < n → k < n
      → left_weight (left i k) + cond (i == d) (cond (k == e) (weight l.signal) 0) 0
      ≡ left_weight (over i k) + cond (i == e) (left_weight (filter (λ r. r.to.shard == k) (map (letter s.stamp) (sent_by start (events (journal e)) s.event)))) 0
  lane_step i k hi hk =
      let more : List Letter = filter (λ r. r.to.shard == k) (map (letter s.stamp) (sent_by start (events (journal e)) s.event)) in
      let eq = ap left_weight (r.lanes i k hi hk) ∙ weigh-append (cond ((i == d) && (k == e)) r.rest (over i k)) (cond (i == e) more []) in
      let a = front (i == d) refl (k == e) refl in
      let b = back more (i == e) in
      omega arith
    where
      front : (p : Bool) → (i == d) ≡ p → (q : Bool) → (k == e) ≡ q
          → left_weight (cond ((i == d) && (k == e)) r.rest (over i k)) + cond (i == d) (cond (k == e) (weight l.signal) 0) 0 ≡ left_weight (over i k)
      front true p true q =
          let fw : left_weight (over d e) ≡ weight l.signal + left_weight r.rest = ap left_weight r.oldest in
          let a : left_weight (over i k) ≡ left_weight (over d e) = ap (λ x. left_weight (over x k)) (eqb-true i d p) ∙ ap (λ x. left_weight (over d x)) (eqb-true k e q) in
          rw (p, q) (omega arith)
      front true p false q = rw (p, q) (omega arith)
      front false p c q = rw p (omega arith)

      back : (more : List Letter) (b : Bool) → left_weight (cond b more []) ≡ cond b (left_weight more) 0
      back more true = refl
      back more false = refl

  row_step : (i : ℕ) → i < n
      → below (λ k. left_weight (left i k)) n + cond (i == d) (weight l.signal) 0
      ≡ below (λ k. left_weight (over i k)) n
      + cond (i == e) (below (λ k. left_weight (filter (λ r. r.to.shard == k) (map (letter s.stamp) (sent_by start (events (journal e)) s.event)))) n) 0
  row_step i hi =
      let z = below_shift (λ k. left_weight (over i k)) (λ k. left_weight (left i k)) (λ k. cond (i == d) (cond (k == e) (weight l.signal) 0) 0)
      (λ k. cond (i == e) (left_weight (filter (λ r. r.to.shard == k) (map (letter s.stamp) (sent_by start (events (journal e)) s.event)))) 0) n (λ k hk. lane_step i k hi hk) in
      let a = one (i == d) in
      let b = all (i == e) in
      omega arith
    where
      one : (b : Bool) → below (λ k. cond b (cond (k == e) (weight l.signal) 0) 0) n ≡ cond b (weight l.signal) 0
      one true = below_at e (weight l.signal) n e_in
      one false = below_zero n

      all : (b : Bool)
          → below (λ k. cond b (left_weight (filter (λ r. r.to.shard == k) (map (letter s.stamp) (sent_by start (events (journal e)) s.event)))) 0) n
          ≡ cond b (below (λ k. left_weight (filter (λ r. r.to.shard == k) (map (letter s.stamp) (sent_by start (events (journal e)) s.event)))) n) 0
      all true = refl
      all false = below_zero n

  pub receipt_lowers : load_by_desk start after left n < load_by_desk start journal over n
  receipt_lowers =
      let sw : ℕ = weights (sent_by start (events (journal e)) s.event) in
      let out : ℕ = below (λ k. left_weight (filter (λ r. r.to.shard == k) (map (letter s.stamp) (sent_by start (events (journal e)) s.event)))) n in
      let z = below_shift_le (λ k. desk_sizes start k (events (journal k))) (λ k. desk_sizes start k (events (after k))) (λ k. cond (k == e) (sw + 1) 0) (λ k. cond (k == e) (weight l.signal) 0) n size_step in
      let z1 = below_at e (sw + 1) n e_in in
      let z2 = below_at e (weight l.signal) n e_in in
      let t = below_shift (λ i. below (λ k. left_weight (over i k)) n) (λ i. below (λ k. left_weight (left i k)) n) (λ i. cond (i == d) (weight l.signal) 0) (λ i. cond (i == e) out 0) n row_step in
      let t1 = below_at d (weight l.signal) n d_in in
      let t2 = below_at e out n e_in in
      let u = weigh_apart n (map (letter s.stamp) (sent_by start (events (journal e)) s.event)) in
      let v = weigh_sent s.stamp (sent_by start (events (journal e)) s.event) in
      omega arith

-- sums over desks ------------------------------------------------------------------------

-- a number below n stands in one place of the sum
cell : (x w n : ℕ) → (n ≤ x → w ≡ 0) → below (λ k. cond (x == k) w 0) n ≡ w
cell x w n h = ⊎_elim within beyond (cases_lt x n)
  where
    only : (k : ℕ) → (x == k) ≡ true → k ≡ x
    only k q = sym (eqb-true x k q)

    within : x < n → below (λ k. cond (x == k) w 0) n ≡ w
    within l = below_one (λ k. x == k) x w only (eq-eqb x x refl) n l

    beyond : n ≤ x → below (λ k. cond (x == k) w 0) n ≡ w
    beyond l = below_same (λ k. 0) (λ k. cond (x == k) w 0) n (λ k m. none (x == k)) ∙ below_zero n ∙ sym (h l)
      where
        none : (b : Bool) → cond b w 0 ≡ 0
        none true = h l
        none false = refl

total_filter : (F G : Pid → ℕ) (P : Pid → Bool) → ((p : Pid) → P p ≡ true → G p ≡ F p) → (ps : List Pid) → total_of G (filter P ps) ≡ total_of F (filter P ps)
total_filter F G P h [] = refl
total_filter F G P h (p ∷ ps) = go (P p) refl (total_filter F G P h ps)
  where
    go : (b : Bool) → P p ≡ b → total_of G (filter P ps) ≡ total_of F (filter P ps) → total_of G (cond (P p) (p ∷ filter P ps) (filter P ps)) ≡ total_of F (cond (P p) (p ∷ filter P ps) (filter P ps))
    go true q ih = let a = h p q in rw q (omega arith)
    go false q ih = rw q ih

total_apart : (F : Pid → ℕ) (n : ℕ) → ((p : Pid) → n ≤ p.shard → F p ≡ 0) → (ps : List Pid) → below (λ e. total_of F (filter (λ p. p.shard == e) ps)) n ≡ total_of F ps
total_apart F n h [] = below_zero n
total_apart F n h (p ∷ ps) =
    let one = cell p.shard (F p) n (h p) in
    let ih = total_apart F n h ps in
    let shift = below_shift (λ e. total_of F (filter (λ p. p.shard == e) ps)) (λ e. total_of F (filter (λ p. p.shard == e) (p ∷ ps))) (λ e. 0) (λ e. cond (p.shard == e) (F p) 0) n (λ k h. step k (p.shard == k) refl) in
    let z = below_zero n in
    omega arith
  where
    step : (k : ℕ) (b : Bool) → (p.shard == k) ≡ b → total_of F (filter (λ p. p.shard == k) (p ∷ ps)) + 0 ≡ total_of F (filter (λ p. p.shard == k) ps) + cond (p.shard == k) (F p) 0
    step k true q = rw q (omega arith)
    step k false q = rw q (omega arith)

-- no lane from or to a desk past n has a letter
abbrev Within : ℕ → List Sent → Type 0
Within n ls = (d e : ℕ) → (n ≤ d) ⊎ (n ≤ e) → filter (in_lane d e) ls ≡ []

within_rest : (n : ℕ) (l : Sent) (ls : List Sent) → Within n (l ∷ ls) → Within n ls
within_rest n l ls h d e out = go (in_lane d e l) refl (h d e out)
  where
    go : (b : Bool) → in_lane d e l ≡ b → filter (in_lane d e) (l ∷ ls) ≡ [] → filter (in_lane d e) ls ≡ []
    go true q k = let z : l ∷ filter (in_lane d e) ls ≡ [] = rw q at k in absurd (cc)
    go false q k = rw q at k

within_first : (n : ℕ) (l : Sent) (ls : List Sent) → Within n (l ∷ ls) → (n ≤ l.from.shard) ⊎ (n ≤ l.to.shard) → ⊥
within_first n l ls h out =
    let k = h l.from.shard l.to.shard out in
    let z : l ∷ filter (in_lane l.from.shard l.to.shard) ls ≡ [] = rw (eq-eqb l.from.shard l.from.shard refl, eq-eqb l.to.shard l.to.shard refl) at k in
    absurd (cc)

lanes_apart : (n : ℕ) (ls : List Sent) → Within n ls → below (λ d. below (λ e. weights (filter (in_lane d e) ls)) n) n ≡ weights ls
lanes_apart n [] h = below_same (λ d. 0) (λ d. below (λ e. 0) n) n (λ k h. below_zero n) ∙ below_zero n
lanes_apart n (l ∷ ls) h =
    let one = cell l.from.shard (weight l.signal) n (λ k. absurd (within_first n l ls h (inl k))) in
    let ih = lanes_apart n ls (within_rest n l ls h) in
    let shift = below_shift (λ d. below (λ e. weights (filter (in_lane d e) ls)) n) (λ d. below (λ e. weights (filter (in_lane d e) (l ∷ ls))) n) (λ d. 0) (λ d. cond (l.from.shard == d) (weight l.signal) 0) n
    (λ d k. row d (l.from.shard == d) refl) in
    let z = below_zero n in
    omega arith
  where
    place : (d e : ℕ) (b : Bool) → in_lane d e l ≡ b → weights (filter (in_lane d e) (l ∷ ls)) + 0 ≡ weights (filter (in_lane d e) ls) + cond (in_lane d e l) (weight l.signal) 0
    place d e true q = rw q (omega arith)
    place d e false q = rw q (omega arith)

    row : (d : ℕ) (b : Bool) → (l.from.shard == d) ≡ b
        → below (λ e. weights (filter (in_lane d e) (l ∷ ls))) n + 0 ≡ below (λ e. weights (filter (in_lane d e) ls)) n + cond (l.from.shard == d) (weight l.signal) 0
    row d b q =
        let shift = below_shift (λ e. weights (filter (in_lane d e) ls)) (λ e. weights (filter (in_lane d e) (l ∷ ls))) (λ e. 0) (λ e. cond (in_lane d e l) (weight l.signal) 0) n (λ e k. place d e (in_lane d e l) refl) in
        let z = below_zero n in
        let m = cells b q in
        omega arith
      where
        cells : (b : Bool) → (l.from.shard == d) ≡ b → below (λ e. cond (in_lane d e l) (weight l.signal) 0) n ≡ cond (l.from.shard == d) (weight l.signal) 0
        cells true q = rw q (cell l.to.shard (weight l.signal) n (λ k. absurd (within_first n l ls h (inr k))))
        cells false q = rw q (below_zero n)

-- the pids of one desk -------------------------------------------------------------------

module _ (start : Start) (e : ℕ) where
  pids_home : (merged : List Stamped) → AllHome merged → filter (λ p. p.shard == e) (pids start (events (of_desk e merged))) ≡ filter (λ p. p.shard == e) (pids start (events merged))
  pids_home [] h = refl
  pids_home (s ∷ merged) h = go (s.desk == e) refl (pids_home merged h.1) (λ p k. life_home start p e merged k h.1)
    where
      here : (ev : Event) → IsHome s.desk ev → (s.desk == e) ≡ true
          → filter (λ p. p.shard == e) (pids start (events (of_desk e merged))) ≡ filter (λ p. p.shard == e) (pids start (events merged))
          → ((p : Pid) → p.shard ≡ e → life start (events (of_desk e merged)) p ≡ life start (events merged) p)
          → filter (λ p. p.shard == e) (pids start (ev ∷ events (of_desk e merged))) ≡ filter (λ p. p.shard == e) (pids start (ev ∷ events merged))
      here (Born p parent link) home k ih same =
          filter-append (λ p. p.shard == e) (pids start (events (of_desk e merged))) (cond (is_unborn (life start (events (of_desk e merged)) p)) (p ∷ []) [])
          ∙ ap (λ z. z ++ filter (λ p. p.shard == e) (cond (is_unborn (life start (events (of_desk e merged)) p)) (p ∷ []) [])) ih
          ∙ ap (λ f. filter (λ p. p.shard == e) (pids start (events merged)) ++ filter (λ p. p.shard == e) (cond (is_unborn f) (p ∷ []) [])) (same p (home.0 ∙ eqb-true s.desk e k))
          ∙ sym (filter-append (λ p. p.shard == e) (pids start (events merged)) (cond (is_unborn (life start (events merged) p)) (p ∷ []) []))
      here _ home k ih same = ih

      there : (ev : Event) → IsHome s.desk ev → (s.desk == e) ≡ false
          → filter (λ p. p.shard == e) (pids start (events (of_desk e merged))) ≡ filter (λ p. p.shard == e) (pids start (events merged))
          → filter (λ p. p.shard == e) (pids start (events (of_desk e merged))) ≡ filter (λ p. p.shard == e) (pids start (ev ∷ events merged))
      there (Born p parent link) home k ih =
          ih ∙ sym (append-nil (filter (λ p. p.shard == e) (pids start (events merged))))
          ∙ ap (λ z. filter (λ p. p.shard == e) (pids start (events merged)) ++ z) (sym (gone (is_unborn (life start (events merged) p))))
          ∙ sym (filter-append (λ p. p.shard == e) (pids start (events merged)) (cond (is_unborn (life start (events merged) p)) (p ∷ []) []))
        where
          gone : (b : Bool) → filter (λ p. p.shard == e) (cond b (p ∷ []) []) ≡ []
          gone true = rw (ne_eqb p.shard e (λ q. both_ways (s.desk == e) k (eq-eqb s.desk e (sym home.0 ∙ q)))) refl
          gone false = refl
      there _ home k ih = ih

      go : (b : Bool) → (s.desk == e) ≡ b
          → filter (λ p. p.shard == e) (pids start (events (of_desk e merged))) ≡ filter (λ p. p.shard == e) (pids start (events merged))
          → ((p : Pid) → p.shard ≡ e → life start (events (of_desk e merged)) p ≡ life start (events merged) p)
          → filter (λ p. p.shard == e) (pids start (events (of_desk e (s ∷ merged)))) ≡ filter (λ p. p.shard == e) (pids start (events (s ∷ merged)))
      go true k ih same = rw k (here s.event h.0 k ih same)
      go false k ih same = rw k (there s.event h.0 k ih)

  sizes_home : (merged : List Stamped) → AllHome merged
      → desk_sizes start e (events (of_desk e merged)) ≡ total_of (λ p. size (life start (events merged) p)) (filter (λ p. p.shard == e) (pids start (events merged)))
  sizes_home merged h =
      ap (total_of (λ p. size (life start (events (of_desk e merged)) p))) (pids_home merged h)
      ∙ total_filter (λ p. size (life start (events merged) p)) (λ p. size (life start (events (of_desk e merged)) p)) (λ p. p.shard == e)
      (λ p q. ap size (life_home start p e merged (eqb-true p.shard e q) h)) (pids start (events merged))

-- every merge ------------------------------------------------------------------------------

module _ (start : Start) (n : ℕ) (journal : Journals) (over : ℕ → ℕ → List Letter) (merged : List Stamped)
    (lanes : LanesAgree start journal over) (m : IsMerge journal merged) (has : HasDesks n start journal over) (homes : AllHome merged) (flies : LanesFly start (events merged) over) where
  none_left : (d e : ℕ) → n ≤ d → over d e ≡ []
  none_left d e h = go (gots (journal e) d) (subst (λ j. Agrees (posts start j e) (gots (journal e) d) (over d e)) (has.journals d h) (lanes d e))
    where
      go : (gs : List Letter) → Agrees [] gs (over d e) → over d e ≡ []
      go [] a = sym a
      go (g ∷ gs) a = absurd a

  out_of_lanes : (d e : ℕ) → (n ≤ d) ⊎ (n ≤ e) → filter (in_lane d e) (flying start (events merged)) ≡ []
  out_of_lanes d e (inl h) = flies d e ∙ ap (map content) (none_left d e h)
  out_of_lanes d e (inr h) = flies d e ∙ ap (map content) (has.lanes d e h)

  size_beyond : (p : Pid) → n ≤ p.shard → size (life start (events merged) p) ≡ 0
  size_beyond p h =
      ap size (sym (life_local start p merged homes) ∙ ap (λ j. life start (events j) p) (m.1 p.shard ∙ has.journals p.shard h) ∙ has.begun p h)

  pub merged_load : load_by_desk start journal over n ≡ load start (events merged)
  merged_load =
      let a = below_same (λ e. total_of (λ p. size (life start (events merged) p)) (filter (λ p. p.shard == e) (pids start (events merged)))) (λ e. desk_sizes start e (events (journal e))) n
      (λ e h. ap (λ j. desk_sizes start e (events j)) (sym (m.1 e)) ∙ sizes_home start e merged homes) in
      let b = total_apart (λ p. size (life start (events merged) p)) n size_beyond (pids start (events merged)) in
      let c = below_same (λ d. below (λ e. weights (filter (in_lane d e) (flying start (events merged)))) n) (λ d. below (λ e. left_weight (over d e)) n) n
      (λ d h. below_same (λ e. weights (filter (in_lane d e) (flying start (events merged)))) (λ e. left_weight (over d e)) n (λ e k. ap weights (sym (flies d e)))) in
      let f = lanes_apart n (flying start (events merged)) out_of_lanes in
      omega arith

pub merge_load : LoadByDesk
merge_load start low top n journal over merged l a m has =
    let locals : (d : ℕ) → IsLocal start low top d (of_desk d merged) = λ d. subst (IsLocal start low top d) (sym (m.1 d)) (l d) in
    merged_load start n journal over merged a m has (all_home start low top merged locals)
    (merged_flies start low top merged over m.0 locals (λ d e. subst₂ (λ x y. Agrees (posts start x e) (gots y d) (over d e)) (sym (m.1 d)) (sym (m.1 e)) (a d e)))
