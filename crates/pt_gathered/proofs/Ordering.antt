-- What stays left over while letters come to one desk.
use Rattle.std.proofs.Common.{◌≡◌, ℕ, zero, suc, ◌+◌, ◌<◌, ◌≤◌, ◌==◌, ◌&&◌, Bool, true, false, cond, List, [], ◌∷◌, ◌++◌, length, drop, refl, sym, ap, ◌∙◌, subst, append-nil, arith, get_or, set, le_refl}
use Rattle.std.specs.Prelude.{Err, replicate}
use Rattle.std.proofs.lemmas.List.{length-append, get_or-set_other}
use Rattle.std.proofs.lemmas.Bool.{eqb-true, eq-eqb, ne_eqb, both_ways}
use Rattle.pt_signal.specs.declared.letter.Letter.{Letter}
use Rattle.pt_gathered.specs.Gathered.{GatheredState, begins, box_at, journals, over_in}
use Rattle.pt_shard.specs.declared.stop.Stop.{Stop}
use Rattle.pt_gathered.specs.Settling.{Receives, replies_to, Steps, NothingTo}
use Rattle.pt_gathered.specs.Order.{InTurn, Comes, LaneComes, LaneStops, DeskComes}
use Rattle.pt_gathered.specs.Waits.{KeepsNone, Marks, NonePosted, Waits, posted_in}
use Rattle.pt_gathered.proofs.Posted.{over_none, posted_none}

-- one more in turn
pub more_in_turn : (Does : ℕ → GatheredState → GatheredState → Type 0) (n : ℕ) (old mid new : GatheredState) → InTurn Does n old mid → Does n mid new → InTurn Does (n + 1) old new
more_in_turn Does n old mid new done next = let e : n + 1 ≡ suc n = omega arith in subst (λ k. InTurn Does k old new) (sym e) (mid, done, next)

-- nothing comes to a desk to which nothing is left over
pub nothing_comes : (n e : ℕ) (g : GatheredState) → NothingTo n e g → DeskComes n e g g
nothing_comes zero e g none = refl
nothing_comes (suc n) e g none =
    let empty : over_in g.shards g.lanes n e ≡ [] = none n (omega arith) in
    let lane : LaneComes e n g g = subst (λ xs. Comes n e (length xs) g g) (sym empty) refl in
    (g, nothing_comes n e g (λ d h. none d (omega arith)), lane)

-- the letters between two numbers of which the sender is not e
abbrev pub Same : ℕ → (ℕ → ℕ → Type 0) → GatheredState → GatheredState → Type 0
Same e But old new =
    (i k : ℕ) → i < length old.shards → k < length old.shards → (i ≡ e → ⊥) → (But i k → ⊥) → over_in new.shards new.lanes i k ≡ over_in old.shards old.lanes i k

module _ (d e : ℕ) (l : Letter) (old new : GatheredState) (r : Receives d e l old new) where
  plain : (i k : ℕ) → i < length old.shards → k < length old.shards → (i ≡ e → ⊥)
      → over_in new.shards new.lanes i k ≡ cond ((i == d) && (k == e)) (drop 1 (over_in old.shards old.lanes i k)) (over_in old.shards old.lanes i k)
  plain i k hi hk ne =
      r.left i k hi hk
      ∙ ap (λ b. cond ((i == d) && (k == e)) (drop 1 (over_in old.shards old.lanes i k)) (over_in old.shards old.lanes i k) ++ cond b (replies_to (begins old) old.config.start e l (journals old e) k) []) (ne_eqb i e ne)
      ∙ append-nil (cond ((i == d) && (k == e)) (drop 1 (over_in old.shards old.lanes i k)) (over_in old.shards old.lanes i k))

  one_same : Same e (λ i k. (i ≡ d) × (k ≡ e)) old new
  one_same i k hi hk ne but = plain i k hi hk ne ∙ go (i == d) refl (k == e) refl
    where
      go : (p : Bool) → (i == d) ≡ p → (q : Bool) → (k == e) ≡ q
          → cond ((i == d) && (k == e)) (drop 1 (over_in old.shards old.lanes i k)) (over_in old.shards old.lanes i k) ≡ over_in old.shards old.lanes i k
      go true p true q = absurd (but (eqb-true i d p, eqb-true k e q))
      go true p false q = rw (p, q) refl
      go false p b q = rw p refl

  one_taken : d < length old.shards → e < length old.shards → (d ≡ e → ⊥) → over_in new.shards new.lanes d e ≡ drop 1 (over_in old.shards old.lanes d e)
  one_taken d_in e_in ne = plain d e d_in e_in ne ∙ rw (eq-eqb d d refl, eq-eqb e e refl) refl

pub drop_more : (m : ℕ) (xs : List Letter) → drop 1 (drop m xs) ≡ drop (suc m) xs
drop_more zero xs = refl
drop_more (suc m) [] = refl
drop_more (suc m) (x ∷ xs) = drop_more m xs

drop_all : (xs : List Letter) → drop (length xs) xs ≡ []
drop_all [] = refl
drop_all (x ∷ xs) = drop_all xs

module _ (d e : ℕ) where
  comes_count : (m : ℕ) (old new : GatheredState) → Comes d e m old new → length new.shards ≡ length old.shards
  comes_count zero old new c = ap (λ (g : GatheredState). length g.shards) c
  comes_count (suc m) old new c = c.2.1.count ∙ comes_count m old c.0 c.1

  comes_same : (m : ℕ) (old new : GatheredState) → Comes d e m old new → Same e (λ i k. (i ≡ d) × (k ≡ e)) old new
  comes_same zero old new c i k hi hk ne but = ap (λ (g : GatheredState). over_in g.shards g.lanes i k) c
  comes_same (suc m) old new c i k hi hk ne but =
      let n = comes_count m old c.0 c.1 in
      one_same d e c.2.0 c.0 new c.2.1 i k (omega arith) (omega arith) ne but ∙ comes_same m old c.0 c.1 i k hi hk ne but

  comes_taken : (m : ℕ) (old new : GatheredState) → Comes d e m old new → d < length old.shards → e < length old.shards → (d ≡ e → ⊥)
      → over_in new.shards new.lanes d e ≡ drop m (over_in old.shards old.lanes d e)
  comes_taken zero old new c d_in e_in ne = ap (λ (g : GatheredState). over_in g.shards g.lanes d e) c
  comes_taken (suc m) old new c d_in e_in ne =
      let n = comes_count m old c.0 c.1 in
      one_taken d e c.2.0 c.0 new c.2.1 (omega arith) (omega arith) ne ∙ ap (drop 1) (comes_taken m old c.0 c.1 d_in e_in ne) ∙ drop_more m (over_in old.shards old.lanes d e)

-- the desk e is come to from the desks below n
module _ (e : ℕ) where
  pub desk_count : (n : ℕ) (old new : GatheredState) → DeskComes n e old new → length new.shards ≡ length old.shards
  desk_count zero old new c = ap (λ (g : GatheredState). length g.shards) c
  desk_count (suc n) old new c = comes_count n e (length (over_in c.0.shards c.0.lanes n e)) c.0 new c.2 ∙ desk_count n old c.0 c.1

  -- nothing changes between other desks
  pub desk_same : (n : ℕ) (old new : GatheredState) → DeskComes n e old new → Same e (λ i k. k ≡ e) old new
  desk_same zero old new c i k hi hk ne but = ap (λ (g : GatheredState). over_in g.shards g.lanes i k) c
  desk_same (suc n) old new c i k hi hk ne but =
      let m = desk_count n old c.0 c.1 in
      comes_same n e (length (over_in c.0.shards c.0.lanes n e)) c.0 new c.2 i k (omega arith) (omega arith) ne (λ b. but b.1) ∙ desk_same n old c.0 c.1 i k hi hk ne but

  -- and nothing is left over to it from those
  pub desk_emptied : (n : ℕ) (old new : GatheredState) → DeskComes n e old new → n ≤ length old.shards → e < length old.shards
      → (i : ℕ) → i < n → (i ≡ e → ⊥) → over_in new.shards new.lanes i e ≡ []
  desk_emptied zero old new c n_in e_in i h ne = absurd (omega arith)
  desk_emptied (suc n) old new c n_in e_in i h ne =
      let m = desk_count n old c.0 c.1 in go (i == n) refl (λ less. desk_emptied n old c.0 c.1 (omega arith) e_in i less ne)
    where
      go : (b : Bool) → (i == n) ≡ b → (i < n → over_in c.0.shards c.0.lanes i e ≡ []) → over_in new.shards new.lanes i e ≡ []
      go true q before =
          let is : i ≡ n = eqb-true i n q in
          let m = desk_count n old c.0 c.1 in
          let other : n ≡ e → ⊥ = λ r. ne (is ∙ r) in
          ap (λ j. over_in new.shards new.lanes j e) is
          ∙ comes_taken n e (length (over_in c.0.shards c.0.lanes n e)) c.0 new c.2 (omega arith) (omega arith) other ∙ drop_all (over_in c.0.shards c.0.lanes n e)
      go false q before =
          let m = desk_count n old c.0 c.1 in
          let not_n : i ≡ n → ⊥ = λ r. both_ways (i == n) q (eq-eqb i n r) in
          comes_same n e (length (over_in c.0.shards c.0.lanes n e)) c.0 new c.2 i e (omega arith) (omega arith) ne (λ b. not_n b.0)
          ∙ before (omega (arith, not_n))

-- as many letters as were left over can come
length_drop1 : (xs : List Letter) → length xs ≤ length (drop 1 xs) + 1
length_drop1 [] = omega arith
length_drop1 (x ∷ xs) = omega arith

module _ (d e : ℕ) where
  pub comes_left : (m : ℕ) (old new : GatheredState) → Comes d e m old new → d < length old.shards → e < length old.shards
      → length (over_in old.shards old.lanes d e) ≤ m + length (over_in new.shards new.lanes d e)
  comes_left zero old new c d_in e_in = let a = ap (λ (g : GatheredState). length (over_in g.shards g.lanes d e)) c in omega arith
  comes_left (suc m) old new c d_in e_in =
      let n = comes_count d e m old c.0 c.1 in
      let before = comes_left m old c.0 c.1 d_in e_in in
      let left = c.2.1.left d e (omega arith) (omega arith) in
      let more : List Letter = cond (d == e) (replies_to (begins c.0) c.0.config.start e c.2.0 (journals c.0 e) e) [] in
      let at : over_in new.shards new.lanes d e ≡ drop 1 (over_in c.0.shards c.0.lanes d e) ++ more
      = left ∙ rw (eq-eqb d d refl, eq-eqb e e refl) refl in
      let count = ap length at ∙ length-append (drop 1 (over_in c.0.shards c.0.lanes d e)) more in
      let one = length_drop1 (over_in c.0.shards c.0.lanes d e) in
      omega arith

-- while fewer came than were left over, one is left over
pub one_left : (d e k : ℕ) (old mid : GatheredState) → Comes d e k old mid → d < length old.shards → e < length old.shards
    → k < length (over_in old.shards old.lanes d e) → over_in mid.shards mid.lanes d e ≡ [] → ⊥
one_left d e k old mid comes d_in e_in more none = let left = comes_left d e k old mid comes d_in e_in in absurd (omega (arith, ap length none))

-- one more does not come
pub lane_stops : (d e k : ℕ) (old mid new : GatheredState) (stop : Stop) → Comes d e k old mid → k < length (over_in old.shards old.lanes d e) → Steps d e mid (Err stop) new → LaneStops e d stop old new
lane_stops d e k old mid new stop comes within s =
    subst (LaneStops e d stop old) (sym s.3) (record { count = k; comes = comes; before_end = within; next = s.0; oldest = s.2; refused = s.1 })

-- which desks may have letters left over to them --------------------------------------------

marked : (n e : ℕ) → get_or (replicate n true) e true ≡ true
marked zero zero = refl
marked zero (suc e) = refl
marked (suc n) zero = refl
marked (suc n) (suc e) = marked n e

pub waits_at_first : (n : ℕ) (g : GatheredState) → Waits (replicate n true) g
waits_at_first n g e h off = absurd (both_ways (get_or (replicate n true) e true) off (marked n e))

-- the marks after letters came to desk e, of which those sent on were marked
pub waits_after : (e : ℕ) (old new : GatheredState) (waits after : List Bool) → e < length old.shards → e < length waits → Waits waits old → DeskComes (length old.shards) e old new
    → KeepsNone old new → NonePosted e new → Marks e (length new.shards) new (set waits e false) after → Waits after new
waits_after e old new waits after e_in room before comes keeps none marks k k_in unmarked i i_in =
    go (i == e) refl (k == e) refl
  where
    count : length new.shards ≡ length old.shards
    count = desk_count e (length old.shards) old new comes

    -- what is not marked was not marked before
    was : (k ≡ e → ⊥) → get_or waits k true ≡ false
    was other = sym (get_or-set_other waits e k false true other) ∙ marks.1 k unmarked

    go : (b : Bool) → (i == e) ≡ b → (c : Bool) → (k == e) ≡ c → over_in new.shards new.lanes i k ≡ []
    go true q true p =
        let to : posted_in new.shards new.lanes i k ≡ [] = ap (posted_in new.shards new.lanes i) (eqb-true k e p) ∙ none i i_in in
        over_none new.shards new.lanes i k to (ap (λ j. box_at new.shards j k) (eqb-true i e q) ∙ marks.2 k k_in unmarked)
    go true q false p =
        let not_e : k ≡ e → ⊥ = λ r. both_ways (k == e) p (eq-eqb k e r) in
        let from = before k (omega (arith, k_in, count)) (was not_e) i (omega (arith, i_in, count)) in
        let to = keeps i k (omega (arith, i_in, count)) (omega (arith, k_in, count)) (posted_none old.shards old.lanes i k from) in
        over_none new.shards new.lanes i k to (ap (λ j. box_at new.shards j k) (eqb-true i e q) ∙ marks.2 k k_in unmarked)
    go false q true p =
        let ne : i ≡ e → ⊥ = λ r. both_ways (i == e) q (eq-eqb i e r) in
        ap (over_in new.shards new.lanes i) (eqb-true k e p) ∙ desk_emptied e (length old.shards) old new comes (le_refl (length old.shards)) e_in i (omega (arith, i_in, count)) ne
    go false q false p =
        let ne : i ≡ e → ⊥ = λ r. both_ways (i == e) q (eq-eqb i e r) in
        let not_e : k ≡ e → ⊥ = λ r. both_ways (k == e) p (eq-eqb k e r) in
        desk_same e (length old.shards) old new comes i k (omega (arith, i_in, count)) (omega (arith, k_in, count)) ne not_e
        ∙ before k (omega (arith, k_in, count)) (was not_e) i (omega (arith, i_in, count))
