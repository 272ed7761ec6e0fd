-- What waits are the arrivals at positions that no take took.
use Rattle.std.proofs.Common.{◌≡◌, ℕ, suc, ◌+◌, ◌<◌, ◌≤◌, Bool, true, false, cond, not, eqb, ◌==◌, ◌||◌, List, [], ◌∷◌, ◌++◌, Option, Some, None, map, filter, length, refl, sym, ap, ◌∙◌, subst, ⊎_elim, arith, append-nil, append_assoc, add-zero}
use Rattle.std.specs.Prelude.{Contains, option_to_list}
use Rattle.std.specs.List.{find, enumerate_from}
use Rattle.std.proofs.lemmas.Bool.{eq-eqb, ne_eqb, eqb-false, or_parts}
use Rattle.std.proofs.lemmas.Bool.Decides.{nat_tests}
use Rattle.std.proofs.lemmas.List.{map-append}
use Rattle.std.proofs.lemmas.List.Elements.{filter-append, Contains-append_left, Contains-append_right}
use Rattle.std.proofs.lemmas.List.Folds.{list_any-append}
use Rattle.pt_signal.specs.declared.pid.Pid.{Pid}
use Rattle.pt_signal.specs.declared.item.Item.{Item}
use Rattle.pt_signal.specs.declared.item.Pick.{Pick}
use Rattle.pt_events.specs.declared.event.Event.{Event}
use Rattle.pt_events.specs.declared.event.Event.TheVariants.{Took}
use Rattle.pt_signal.specs.Values.{same_pid, fits, without_first}
use Rattle.pt_events.specs.History.{Past, Start, state, state_of, at_start, arrived, arrived_since, arrives}
use Rattle.pt_laws.specs.Acts.{ActsMayCome}
use Rattle.pt_events.specs.Takes.{taken}
use Rattle.pt_laws.specs.Taken.{TakePlace, is_among_places, free_of, first_fit, take_places, AllDistinct, AllArrivals}
use Rattle.pt_signal.proofs.Same.{same_pid_is}
use Rattle.pt_laws.proofs.living.Since.{element_cases}
use Rattle.pt_laws.proofs.order.Taken.{untaken, take_first, arrivals, left_waiting, takes as takes_mark, waits, waiting-append, all_untaken, take_first_waiting}

-- the items from position n on, but for those at the places
abbrev free_from : List TakePlace → ℕ → List Item → List TakePlace
free_from ps n items = filter (λ e. not (is_among_places e.0 ps)) (enumerate_from n items)

abbrev items_at : List TakePlace → List Item
items_at es = map (λ e. e.1) es

among-append : (n : ℕ) (xs ys : List TakePlace) → is_among_places n (xs ++ ys) ≡ (is_among_places n xs || is_among_places n ys)
among-append n xs ys = list_any-append (λ (e : TakePlace). n == e.0) xs ys

enumerate-append : (n : ℕ) (xs ys : List Item) → enumerate_from n (xs ++ ys) ≡ enumerate_from n xs ++ enumerate_from (n + length xs) ys
enumerate-append n [] ys = rw add-zero refl
enumerate-append n (x ∷ xs) ys =
    let place : (n + 1) + length xs ≡ n + suc (length xs) = omega arith in
    ap (λ z. (n, x) ∷ z) (enumerate-append (n + 1) xs ys ∙ ap (λ k. enumerate_from (n + 1) xs ++ enumerate_from k ys) place)

items_enumerated : (n : ℕ) (xs : List Item) → items_at (enumerate_from n xs) ≡ xs
items_enumerated n [] = refl
items_enumerated n (x ∷ xs) = ap (λ z. x ∷ z) (items_enumerated (n + 1) xs)

-- places below a position ----------------------------------------------------------------------------

abbrev AllBelow : ℕ → List TakePlace → Type 0
AllBelow n [] = Unit {0}
AllBelow n (e ∷ es) = (e.0 < n) × AllBelow n es

AllBelow-more : (n k : ℕ) (es : List TakePlace) → n ≤ k → AllBelow n es → AllBelow k es
AllBelow-more n k [] le h = tt
AllBelow-more n k (e ∷ es) le h = let lt = h.0 in (omega arith, AllBelow-more n k es le h.1)

not_among : (n : ℕ) (es : List TakePlace) → AllBelow n es → is_among_places n es ≡ false
not_among n [] h = refl
not_among n (e ∷ es) h =
    let lt = h.0 in
    let rest = not_among n es h.1 in
    let differs : eqb n e.0 ≡ false = grind (arith, nat_tests) in rw (differs, rest) refl

-- none of the later positions is a place
all_later : (n : ℕ) (ps : List TakePlace) (xs : List Item) → AllBelow n ps → free_from ps n xs ≡ enumerate_from n xs
all_later n ps [] h = refl
all_later n ps (x ∷ xs) h = rw (not_among n ps h) (ap (λ z. (n, x) ∷ z) (all_later (n + 1) ps xs (AllBelow-more n (n + 1) ps (omega arith) h)))

-- a place before the first position does not matter
place_before : (n : ℕ) (ps : List TakePlace) (e : TakePlace) (xs : List Item) → e.0 < n → free_from (ps ++ e ∷ []) n xs ≡ free_from ps n xs
place_before n ps e [] h = refl
place_before n ps e (x ∷ xs) h =
    let differs : eqb n e.0 ≡ false = grind (arith, nat_tests) in
    rw (among-append n ps (e ∷ []), differs) (go (is_among_places n ps) (place_before (n + 1) ps e xs (omega arith)))
  where
    go : (b : Bool) → free_from (ps ++ e ∷ []) (n + 1) xs ≡ free_from ps (n + 1) xs
        → cond (not (b || (false || false))) ((n, x) ∷ free_from (ps ++ e ∷ []) (n + 1) xs) (free_from (ps ++ e ∷ []) (n + 1) xs) ≡ cond (not b) ((n, x) ∷ free_from ps (n + 1) xs) (free_from ps (n + 1) xs)
    go true ih = ih
    go false ih = ap (λ z. (n, x) ∷ z) ih

-- what is found -------------------------------------------------------------------------------------

module _ (t : Item → Bool) where
  -- a place that is found is at one of the positions, at none of the places, and its item passes
  pub record Found (n : ℕ) (ps : List TakePlace) (xs : List Item) (e : TakePlace) : Type 0 where
    pub from : n ≤ e.0
    pub free : is_among_places e.0 ps ≡ false
    pub there : Contains (enumerate_from n xs) e

  found : (n : ℕ) (ps : List TakePlace) (xs : List Item) (e : TakePlace) → find (λ (e : TakePlace). t e.1) (free_from ps n xs) ≡ Some e → Found n ps xs e
  found n ps [] e h = absurd (cc)
  found n ps (x ∷ xs) e h = go (is_among_places n ps) refl (t x) refl h (found (n + 1) ps xs e)
    where
      later : Found (n + 1) ps xs e → Found n ps (x ∷ xs) e
      later f = let le = f.from in record { from = omega arith; free = f.free; there = Contains-append_right ((n, x) ∷ []) (enumerate_from (n + 1) xs) e f.there }

      here : is_among_places n ps ≡ false → (n, x) ≡ e → Found n ps (x ∷ xs) e
      here a k = record {
        from = subst (λ (z : TakePlace). n ≤ z.0) k (omega arith);
        free = subst (λ (z : TakePlace). is_among_places z.0 ps ≡ false) k a;
        there = (0, omega arith, k);
      }

      go : (a : Bool) → is_among_places n ps ≡ a → (b : Bool) → t x ≡ b → find (λ (e : TakePlace). t e.1) (free_from ps n (x ∷ xs)) ≡ Some e
          → (find (λ (e : TakePlace). t e.1) (free_from ps (n + 1) xs) ≡ Some e → Found (n + 1) ps xs e) → Found n ps (x ∷ xs) e
      go true a b f h ih = let k : find (λ (e : TakePlace). t e.1) (free_from ps (n + 1) xs) ≡ Some e = rw a at h in later (ih k)
      go false a true f h ih = let v : TakePlace = (n, x) in let k : Some v ≡ Some e = rw (a, f) at h in let k2 : v ≡ e = cc in here a k2
      go false a false f h ih = let k : find (λ (e : TakePlace). t e.1) (free_from ps (n + 1) xs) ≡ Some e = rw (a, f) at h in later (ih k)

  late : (k n : ℕ) (ps : List TakePlace) (xs : List Item) → k < n → (o : Option TakePlace) → find (λ (e : TakePlace). t e.1) (free_from ps n xs) ≡ o → is_among_places k (option_to_list o) ≡ false
  late k n ps xs lt None h = refl
  late k n ps xs lt (Some e) h =
      let le = (found n ps xs e h).from in
      let differs : eqb k e.0 ≡ false = grind (arith, nat_tests) in rw differs refl

  -- without the first that passes
  pub takes : (n : ℕ) (ps : List TakePlace) (xs : List Item)
      → items_at (free_from (ps ++ option_to_list (find (λ (e : TakePlace). t e.1) (free_from ps n xs))) n xs) ≡ without_first t (items_at (free_from ps n xs))
  takes n ps [] = refl
  takes n ps (x ∷ xs) = go (is_among_places n ps) refl (t x) refl (takes (n + 1) ps xs)
    where
      go : (a : Bool) → is_among_places n ps ≡ a → (b : Bool) → t x ≡ b
          → items_at (free_from (ps ++ option_to_list (find (λ (e : TakePlace). t e.1) (free_from ps (n + 1) xs))) (n + 1) xs) ≡ without_first t (items_at (free_from ps (n + 1) xs))
          → items_at (free_from (ps ++ option_to_list (find (λ (e : TakePlace). t e.1) (free_from ps n (x ∷ xs)))) n (x ∷ xs)) ≡ without_first t (items_at (free_from ps n (x ∷ xs)))
      go true a b f ih =
          ap (λ o. items_at (free_from (ps ++ option_to_list o) n (x ∷ xs))) same ∙ gone (option_to_list (find (λ (e : TakePlace). t e.1) (free_from ps (n + 1) xs))) ∙ ih ∙ sym after
        where
          same : find (λ (e : TakePlace). t e.1) (free_from ps n (x ∷ xs)) ≡ find (λ (e : TakePlace). t e.1) (free_from ps (n + 1) xs)
          same = rw a refl

          gone : (new : List TakePlace) → items_at (free_from (ps ++ new) n (x ∷ xs)) ≡ items_at (free_from (ps ++ new) (n + 1) xs)
          gone new = rw (among-append n ps new, a) refl

          after : without_first t (items_at (free_from ps n (x ∷ xs))) ≡ without_first t (items_at (free_from ps (n + 1) xs))
          after = rw a refl
      go false a true f ih =
          ap (λ o. items_at (free_from (ps ++ option_to_list o) n (x ∷ xs))) here ∙ gone ∙ ap items_at (place_before (n + 1) ps (n, x) xs (omega arith)) ∙ sym after
        where
          here : find (λ (e : TakePlace). t e.1) (free_from ps n (x ∷ xs)) ≡ Some (n, x)
          here = rw (a, f) refl

          gone : items_at (free_from (ps ++ (n, x) ∷ []) n (x ∷ xs)) ≡ items_at (free_from (ps ++ (n, x) ∷ []) (n + 1) xs)
          gone = rw (among-append n ps ((n, x) ∷ []), a, eq-eqb n n refl) refl

          after : without_first t (items_at (free_from ps n (x ∷ xs))) ≡ items_at (free_from ps (n + 1) xs)
          after = rw (a, f) refl
      go false a false f ih =
          ap (λ o. items_at (free_from (ps ++ option_to_list o) n (x ∷ xs))) same ∙ stays (option_to_list (find (λ (e : TakePlace). t e.1) (free_from ps (n + 1) xs))) (late n (n + 1) ps xs (omega arith) (find (λ (e : TakePlace). t e.1) (free_from ps (n + 1) xs)) refl)
          ∙ ap (λ z. x ∷ z) ih ∙ sym after
        where
          same : find (λ (e : TakePlace). t e.1) (free_from ps n (x ∷ xs)) ≡ find (λ (e : TakePlace). t e.1) (free_from ps (n + 1) xs)
          same = rw (a, f) refl

          stays : (new : List TakePlace) → is_among_places n new ≡ false → items_at (free_from (ps ++ new) n (x ∷ xs)) ≡ x ∷ items_at (free_from (ps ++ new) (n + 1) xs)
          stays new e = rw (among-append n ps new, a, e) refl

          after : without_first t (items_at (free_from ps n (x ∷ xs))) ≡ x ∷ without_first t (items_at (free_from ps (n + 1) xs))
          after = rw (a, f) refl

-- one more arrival ----------------------------------------------------------------------------------

all_in_range : (items : List Item) (ps : List TakePlace) → AllArrivals items ps → AllBelow (length items) ps
all_in_range items [] h = tt
all_in_range items (e ∷ ps) h = (in_range h.0, all_in_range items ps h.1)
  where
    below : (n : ℕ) (xs : List Item) (e : TakePlace) → Contains (enumerate_from n xs) e → e.0 < n + length xs
    below n [] e h = let lt = h.1 in absurd (omega arith)
    below n (x ∷ xs) e h = ⊎_elim (λ k. let same : n ≡ e.0 = ap (λ z. z.0) k in omega arith) (λ k. let lt = below (n + 1) xs e k in omega arith) (element_cases (n, x) (enumerate_from (n + 1) xs) e h)

    in_range : Contains (enumerate_from 0 items) e → e.0 < length items
    in_range h = let lt = below 0 items e h in omega arith

grow_arrivals : (items new : List Item) (ps : List TakePlace) → AllArrivals items ps → AllArrivals (items ++ new) ps
grow_arrivals items new [] h = tt
grow_arrivals items new (e ∷ ps) h =
    (subst (λ es. Contains es e) (sym (enumerate-append 0 items new)) (Contains-append_left (enumerate_from 0 items) (enumerate_from (0 + length items) new) e h.0), grow_arrivals items new ps h.1)

grow_waiting : (items new : List Item) (ps : List TakePlace) → AllArrivals items ps → items_at (free_of ps (items ++ new)) ≡ items_at (free_of ps items) ++ new
grow_waiting items new ps h =
    ap (λ es. items_at (filter (λ e. not (is_among_places e.0 ps)) es)) (enumerate-append 0 items new)
    ∙ ap items_at (filter-append (λ (e : TakePlace). not (is_among_places e.0 ps)) (enumerate_from 0 items) (enumerate_from (0 + length items) new))
    ∙ map-append (λ (e : TakePlace). e.1) (free_of ps items) (free_from ps (0 + length items) new)
    ∙ ap (λ z. items_at (free_of ps items) ++ z)
    (ap items_at (all_later (0 + length items) ps new (AllBelow-more (length items) (0 + length items) ps (omega arith) (all_in_range items ps h))) ∙ items_enumerated (0 + length items) new)

-- one more take -------------------------------------------------------------------------------------

distinct_push : (ps : List TakePlace) (e : TakePlace) → AllDistinct ps → is_among_places e.0 ps ≡ false → AllDistinct (ps ++ e ∷ [])
distinct_push [] e h n = (refl, tt)
distinct_push (d ∷ ps) e h n =
    let q = or_parts (e.0 == d.0) (is_among_places e.0 ps) n in
    (among-append d.0 ps (e ∷ []) ∙ rw (h.0, ne_sym e.0 d.0 q.0) refl, distinct_push ps e h.1 q.1)
  where
    ne_sym : (a b : ℕ) → (a == b) ≡ false → (b == a) ≡ false
    ne_sym a b h = ne_eqb b a (λ k. eqb-false a b h (sym k))

arrivals_push : (items : List Item) (ps : List TakePlace) (e : TakePlace) → AllArrivals items ps → Contains (enumerate_from 0 items) e → AllArrivals items (ps ++ e ∷ [])
arrivals_push items [] e h c = (c, tt)
arrivals_push items (d ∷ ps) e h c = (h.0, arrivals_push items ps e h.1 c)

-- the first waiting item that fits is the item at the place
find_item : (t : Item → Bool) (es : List TakePlace) (i : Item) → find t (items_at es) ≡ Some i → (e : TakePlace) × (find (λ (e : TakePlace). t e.1) es ≡ Some e) × (e.1 ≡ i)
find_item t [] i h = absurd (cc)
find_item t (e ∷ es) i h = go (t e.1) refl h (find_item t es i)
  where
    go : (b : Bool) → t e.1 ≡ b → find t (items_at (e ∷ es)) ≡ Some i → (find t (items_at es) ≡ Some i → (d : TakePlace) × (find (λ (e : TakePlace). t e.1) es ≡ Some d) × (d.1 ≡ i))
        → (d : TakePlace) × (find (λ (e : TakePlace). t e.1) (e ∷ es) ≡ Some d) × (d.1 ≡ i)
    go true f h ih = let k : Some e.1 ≡ Some i = rw f at h in let k2 : e.1 ≡ i = cc in (e, rw f refl, k2)
    go false f h ih = let k : find t (items_at es) ≡ Some i = rw f at h in let r = ih k in (r.0, rw f r.1, r.2)

pub record Placed (items : List Item) (ps : List TakePlace) (took : List Item) (waiting : List Item) : Type 0 where
  pub took_there : took ≡ items_at ps
  pub arrivals : AllArrivals items ps
  pub distinct : AllDistinct ps
  pub waits : waiting ≡ items_at (free_of ps items)

arrive : (items new : List Item) (ps : List TakePlace) (took waiting : List Item) → Placed items ps took waiting → Placed (items ++ new) ps (took ++ []) (waiting ++ new)
arrive items new ps took waiting h = record {
  took_there = append-nil took ∙ h.took_there;
  arrivals = grow_arrivals items new ps h.arrivals;
  distinct = h.distinct;
  waits = ap (λ z. z ++ new) h.waits ∙ sym (grow_waiting items new ps h.arrivals);
}

take_one : (k : Pick) (i : Item) (items : List Item) (ps : List TakePlace) (took waiting : List Item) → find (fits k) waiting ≡ Some i → Placed items ps took waiting
    → Placed items (ps ++ first_fit k (free_of ps items)) (took ++ i ∷ []) (without_first (fits k) waiting)
take_one k i items ps took waiting f h =
    let r = find_item (fits k) (free_of ps items) i (rw (← h.waits) f) in
    let g = found (fits k) 0 ps items r.0 r.1 in
    let one : first_fit k (free_of ps items) ≡ r.0 ∷ [] = ap option_to_list r.1 in
    record {
      took_there = ap (λ z. z ++ i ∷ []) h.took_there ∙ ap (λ z. items_at ps ++ z ∷ []) (sym r.2) ∙ sym (map-append (λ (e : TakePlace). e.1) ps (r.0 ∷ [])) ∙ ap (λ z. items_at (ps ++ z)) (sym one);
      arrivals = subst (λ z. AllArrivals items (ps ++ z)) (sym one) (arrivals_push items ps r.0 h.arrivals g.there);
      distinct = subst (λ z. AllDistinct (ps ++ z)) (sym one) (distinct_push ps r.0 h.distinct g.free);
      waits = ap (without_first (fits k)) h.waits ∙ sym (takes (fits k) 0 ps items);
    }

-- event by event -------------------------------------------------------------------------------------

module _ (start : Start) (p : Pid) where
  -- what p's waiting items are after an event
  abbrev next_waiting : Past → Event → List Item
  next_waiting past e = left_waiting (takes_mark p e (arrivals start past p)) ++ arrives start past p e

  waits_next : (past : Past) (e : Event) → ActsMayCome start (e ∷ past) → (state start (e ∷ past) p).waiting ≡ next_waiting past e
  waits_next past e h =
      sym (waits start p (e ∷ past) h)
      ∙ waiting-append (takes_mark p e (arrivals start past p)) (map untaken (arrives start past p e))
      ∙ ap (λ z. left_waiting (takes_mark p e (arrivals start past p)) ++ z) (all_untaken (arrives start past p e))

  arrived_next : (past : Past) (e : Event) → arrived start (e ∷ past) p ≡ arrived start past p ++ arrives start past p e
  arrived_next past e = sym (append_assoc (state_of (at_start start p)).waiting (arrived_since start past p) (arrives start past p e))

  abbrev IsPlaced : Past → Type 0
  IsPlaced past = Placed (arrived start past p) (take_places start p past) (taken past p) (state start past p).waiting

  -- an event that takes nothing
  arrive_next : (past : Past) (e : Event) → ActsMayCome start (e ∷ past) → left_waiting (takes_mark p e (arrivals start past p)) ≡ left_waiting (arrivals start past p) → IsPlaced past
      → Placed (arrived start (e ∷ past) p) (take_places start p past) (taken past p ++ []) (state start (e ∷ past) p).waiting
  arrive_next past e h same ih =
      subst (λ w. Placed (arrived start (e ∷ past) p) (take_places start p past) (taken past p ++ []) w)
      (ap (λ z. z ++ arrives start past p e) (sym (same ∙ waits start p past h.1)) ∙ sym (waits_next past e h))
      (subst (λ i. Placed i (take_places start p past) (taken past p ++ []) ((state start past p).waiting ++ arrives start past p e)) (sym (arrived_next past e))
      (arrive (arrived start past p) (arrives start past p e) (take_places start p past) (taken past p) (state start past p).waiting ih))

  take_next : (past : Past) (q : Pid) (k : Pick) (i : Item) → (b : Bool) → same_pid p q ≡ b → (b ≡ true → find (fits k) (state start past p).waiting ≡ Some i) → IsPlaced past
      → Placed (arrived start past p) (take_places start p past ++ cond b (first_fit k (free_of (take_places start p past) (arrived start past p))) []) (taken past p ++ cond b (i ∷ []) []) (cond b (without_first (fits k) (state start past p).waiting) (state start past p).waiting)
  take_next past q k i true e f ih = take_one k i (arrived start past p) (take_places start p past) (taken past p) (state start past p).waiting (f refl) ih
  take_next past q k i false e f ih =
      subst (λ ps. Placed (arrived start past p) ps (taken past p ++ []) (state start past p).waiting) (sym (append-nil (take_places start p past)))
      (subst (λ l. Placed (arrived start past p) (take_places start p past) l (state start past p).waiting) (sym (append-nil (taken past p))) ih)

  pub placed : (past : Past) → ActsMayCome start past → IsPlaced past
  placed [] h = record {
    took_there = refl;
    arrivals = tt;
    distinct = tt;
    waits = sym (ap (λ es. items_at es) (all_later 0 [] (arrived start [] p) tt) ∙ items_enumerated 0 (arrived start [] p) ∙ append-nil (state_of (at_start start p)).waiting);
  }
  placed (Took q k i ∷ past) h =
      subst (λ w. Placed (arrived start (Took q k i ∷ past) p) (take_places start p (Took q k i ∷ past)) (taken (Took q k i ∷ past) p) w) (sym waiting)
      (subst (λ l. Placed l (take_places start p (Took q k i ∷ past)) (taken (Took q k i ∷ past) p) (cond (same_pid p q) (without_first (fits k) (state start past p).waiting) (state start past p).waiting))
      (sym (arrived_next past (Took q k i) ∙ append-nil (arrived start past p)))
      (take_next past q k i (same_pid p q) refl (λ e. rw (same_pid_is p q e) h.0.1) (placed past h.1)))
    where
      waiting : (state start (Took q k i ∷ past) p).waiting ≡ cond (same_pid p q) (without_first (fits k) (state start past p).waiting) (state start past p).waiting
      waiting = waits_next past (Took q k i) h ∙ append-nil (left_waiting (takes_mark p (Took q k i) (arrivals start past p))) ∙ go (same_pid p q)
        where
          go : (b : Bool) → left_waiting (cond b (take_first k (arrivals start past p)) (arrivals start past p)) ≡ cond b (without_first (fits k) (state start past p).waiting) (state start past p).waiting
          go true = take_first_waiting k (arrivals start past p) ∙ ap (without_first (fits k)) (waits start p past h.1)
          go false = waits start p past h.1
  placed (e ∷ past) h = arrive_next past e h refl (placed past h.1)
