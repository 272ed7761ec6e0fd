-- The places of processes in a list, and the columns of those that a block names.
use Rattle.std.proofs.Common.{◌≡◌, ℕ, zero, suc, ◌+◌, ◌-◌, ◌<◌, ◌≤◌, Bool, true, false, not, cond, ◌||◌, List, [], ◌∷◌, ◌++◌, length, map, take, drop, get_or, Some, None, refl, ap, sym, subst, ◌∙◌, add-one, append_assoc, append-nil, lt-ltb, le-ltb, ltb-true, ltb-false, arith}
use Rattle.std.specs.Prelude.{◌==◌, nat_lt, position, slice_get, unwrap_or, All}
use Rattle.std.specs.List.{list_any, flat_map, position_or_len, AllByRecursion}
use Rattle.std.specs.List.Sorted.{IsNonDecreasing, IsPermutation}
use Rattle.std.proofs.Math.Seq.{drop-cons}
use Rattle.std.proofs.Math.Bool.{or-false}
use Rattle.std.proofs.lemmas.Bool.{both_ways, eqb-true, eqb-false, eq-eqb, ne_eqb}
use Rattle.std.proofs.lemmas.List.{drop_all, take_all}
use Rattle.std.proofs.lemmas.List.Folds.{list_any-append, list_any_none, list_any_at, list_any_more}
use Rattle.std.proofs.lemmas.List.Sorted.{All-permutation, list_any-IsPermutation}
use Rattle.std.proofs.lemmas.List.Sums.{fails_before_first}
use Rattle.pt_signal.specs.declared.pid.Pid.{Pid}
use Rattle.pt_signal.specs.Values.{same_pid}
use Rattle.pt_events.specs.declared.event.Stamped.{Stamped}
use Rattle.pt_chart.specs.declared.layout.Column.{Column}
use Rattle.pt_chart.specs.declared.part.Part.{Part}
use Rattle.pt_chart.specs.declared.part.Part.TheVariants.{Name}
use Rattle.pt_chart.specs.Chart.{named_columns}
use Rattle.pt_chart.specs.Drawing.{each_numbered, is_in_block, name_in, starts_desk}
use Rattle.pt_chart.specs.Mentioning.{places_from, places_of, ArePlaces, AreNamed}
use Rattle.pt_chart.specs.Receiving.{QueuedRows, rows_queued, RowIsQueued}
use Rattle.pt_chart.proofs.Arrivals.{same_pid_turned}
use Rattle.pt_chart.proofs.Mentioning.{noted_one}
use Rattle.pt_chart.proofs.Numbering.{next, one_more_at}

-- the places of each ---------------------------------------------------------------------------------

-- what is queued, and the places from one on, are all places
abbrev pub ArePlacesTo : List Pid → ℕ → QueuedRows → Type 0
ArePlacesTo ps at queued = (p : Pid) → rows_queued queued p ++ places_from at p (drop at ps) ≡ places_of p ps

pub places_next : (ps : List Pid) (at : ℕ) (d : Pid) (old new : QueuedRows) → at < length ps → ArePlacesTo ps at old
    → RowIsQueued (get_or ps at d) (rows_queued old (get_or ps at d) ++ at ∷ []) old new → ArePlacesTo ps (at + 1) new
places_next ps at d old new h before more p =
    ap (λ z. z ++ places_from (at + 1) p (drop (at + 1) ps)) (noted_one q at old new more p)
    ∙ by (same_pid p q) (places_from (at + 1) p (drop (at + 1) ps)) ∙ ap (λ z. rows_queued old p ++ z) (sym here) ∙ before p
  where
    q : Pid
    q = get_or ps at d

    here : places_from at p (drop at ps) ≡ cond (same_pid p (get_or ps at d)) (at ∷ places_from (at + 1) p (drop (at + 1) ps)) (places_from (at + 1) p (drop (at + 1) ps))
    here =
        ap (places_from at p) (drop-cons ps at d h)
        ∙ ap (λ k. cond (same_pid p (get_or ps at d)) (at ∷ places_from (at + 1) p (drop k ps)) (places_from (at + 1) p (drop k ps))) (sym (add-one at))

    by : (t : Bool) (rest : List ℕ) → (rows_queued old p ++ cond (t || false) (at ∷ []) []) ++ rest ≡ rows_queued old p ++ cond t (at ∷ rest) rest
    by true rest = append_assoc (rows_queued old p) (at ∷ []) rest
    by false rest = ap (λ z. z ++ rest) (append-nil (rows_queued old p))

pub places_all : (ps : List Pid) (at : ℕ) (queued : QueuedRows) → length ps ≤ at → ArePlacesTo ps at queued → ArePlaces ps queued
places_all ps at queued h are p =
    sym (append-nil (rows_queued queued p)) ∙ ap (λ qs. rows_queued queued p ++ places_from at p qs) (sym (drop_all at ps h)) ∙ are p

first_from : (at : ℕ) (p : Pid) (ps : List Pid) → slice_get (places_from at p ps) 0 ≡ cond (nat_lt (position_or_len (same_pid p) ps) (length ps)) (Some (at + position_or_len (same_pid p) ps)) None
first_from at p [] = refl
first_from at p (q ∷ ps) = by (first_from (at + 1) p ps) (same_pid p q)
  where
    step : (t : Bool) (n : ℕ) → nat_lt n (length ps) ≡ t → cond t (Some (at + 1 + n)) None ≡ cond (nat_lt (1 + n) (length (q ∷ ps))) (Some (at + (1 + n))) None
    step true n e =
        let less : n < length ps = ltb-true n (length ps) e in
        let same : at + 1 + n ≡ at + (1 + n) = omega arith in
        let more : nat_lt (1 + n) (length (q ∷ ps)) ≡ true = lt-ltb (1 + n) (length (q ∷ ps)) (omega (arith, less)) in
        rw more (ap (λ k. Some k) same)
    step false n e =
        let most : length ps ≤ n = ltb-false n (length ps) e in
        let more : nat_lt (1 + n) (length (q ∷ ps)) ≡ false = le-ltb (1 + n) (length (q ∷ ps)) (omega (arith, most)) in
        rw more refl

    by : slice_get (places_from (at + 1) p ps) 0 ≡ cond (nat_lt (position_or_len (same_pid p) ps) (length ps)) (Some (at + 1 + position_or_len (same_pid p) ps)) None → (t : Bool)
        → slice_get (cond t (at ∷ places_from (at + 1) p ps) (places_from (at + 1) p ps)) 0
        ≡ cond (nat_lt (cond (not t) (1 + position_or_len (same_pid p) ps) 0) (length (q ∷ ps))) (Some (at + cond (not t) (1 + position_or_len (same_pid p) ps) 0)) None
    by rest true =
        let same : at ≡ at + 0 = omega arith in
        let here : nat_lt 0 (length (q ∷ ps)) ≡ true = lt-ltb 0 (length (q ∷ ps)) (omega arith) in
        rw here (ap (λ k. Some k) same)
    by rest false = rest ∙ step (nat_lt (position_or_len (same_pid p) ps) (length ps)) (position_or_len (same_pid p) ps) refl

pub first_place : (p : Pid) (ps : List Pid) → slice_get (places_of p ps) 0 ≡ position (same_pid p) ps
first_place p ps =
    let same : 0 + position_or_len (same_pid p) ps ≡ position_or_len (same_pid p) ps = omega arith in
    first_from 0 p ps ∙ ap (λ k. cond (nat_lt (position_or_len (same_pid p) ps) (length ps)) (Some k) None) same

-- a column is that of a process, and so is its place
prefix_of : {X Y : Type 0} (f : Y → Bool) (g : X → Y) (xs : List X) → position_or_len f (map g xs) ≡ position_or_len (λ x. f (g x)) xs
prefix_of f g [] = refl
prefix_of f g (x ∷ xs) = ap (λ n. cond (not (f (g x))) (1 + n) 0) (prefix_of f g xs)

length_of : {X Y : Type 0} (g : X → Y) (xs : List X) → length (map g xs) ≡ length xs
length_of g [] = refl
length_of g (x ∷ xs) = ap suc (length_of g xs)

pub position_of : {X Y : Type 0} (f : Y → Bool) (g : X → Y) (xs : List X) → position f (map g xs) ≡ position (λ x. f (g x)) xs
position_of f g xs =
    ap (λ n. cond (nat_lt n (length (map g xs))) (Some n) None) (prefix_of f g xs)
    ∙ ap (λ n. cond (nat_lt (position_or_len (λ x. f (g x)) xs) n) (Some (position_or_len (λ x. f (g x)) xs)) None) (length_of g xs)

at_of : {X Y : Type 0} (g : X → Y) (xs : List X) (k : ℕ) (d : X) → get_or (map g xs) k (g d) ≡ g (get_or xs k d)
at_of g [] k d = refl
at_of g (x ∷ xs) zero d = refl
at_of g (x ∷ xs) (suc k) d = at_of g xs k d

-- the columns that a block names ----------------------------------------------------------------------

not_there : (p : Pid) (ps : List Pid) (at i : ℕ) → i < at → list_any (λ (j : ℕ). j == i) (places_from at p ps) ≡ false
not_there p [] at i h = refl
not_there p (q ∷ ps) at i h = by (not_there p ps (at + 1) i (omega (arith, h))) (same_pid p q)
  where
    by : list_any (λ (j : ℕ). j == i) (places_from (at + 1) p ps) ≡ false → (t : Bool) → list_any (λ (j : ℕ). j == i) (cond t (at ∷ places_from (at + 1) p ps) (places_from (at + 1) p ps)) ≡ false
    by rest true = let other : (at == i) ≡ false = ne_eqb at i (λ e. omega (arith, h, e)) in rw other rest
    by rest false = rest

any_place : (p : Pid) (ps : List Pid) (at k : ℕ) (d : Pid) → k < length ps → list_any (λ (j : ℕ). j == at + k) (places_from at p ps) ≡ same_pid p (get_or ps k d)
any_place p [] at k d h = absurd (omega (arith, h))
any_place p (q ∷ ps) at zero d h = by (same_pid p q)
  where
    by : (t : Bool) → list_any (λ (j : ℕ). j == at + 0) (cond t (at ∷ places_from (at + 1) p ps) (places_from (at + 1) p ps)) ≡ t
    by true = let same : (at == at + 0) ≡ true = eq-eqb at (at + 0) (omega arith) in rw same refl
    by false = not_there p ps (at + 1) (at + 0) (omega arith)
any_place p (q ∷ ps) at (suc k) d h =
    let same : at + suc k ≡ at + 1 + k = omega arith in
    by (ap (λ i. list_any (λ (j : ℕ). j == i) (places_from (at + 1) p ps)) same ∙ any_place p ps (at + 1) k d (omega (arith, h))) (same_pid p q)
  where
    by : list_any (λ (j : ℕ). j == at + suc k) (places_from (at + 1) p ps) ≡ same_pid p (get_or ps k d) → (t : Bool) → list_any (λ (j : ℕ). j == at + suc k) (cond t (at ∷ places_from (at + 1) p ps) (places_from (at + 1) p ps)) ≡ same_pid p (get_or ps k d)
    by rest true = let other : (at == at + suc k) ≡ false = ne_eqb at (at + suc k) (λ e. omega (arith, e)) in rw other rest
    by rest false = rest

places_within : (p : Pid) (ps : List Pid) (at most : ℕ) → at + length ps ≤ most → AllByRecursion (λ (k : ℕ). k < most) (places_from at p ps)
places_within p [] at most h = tt
places_within p (q ∷ ps) at most h = by (places_within p ps (at + 1) most (omega (arith, h))) (same_pid p q)
  where
    by : AllByRecursion (λ (k : ℕ). k < most) (places_from (at + 1) p ps) → (t : Bool) → AllByRecursion (λ (k : ℕ). k < most) (cond t (at ∷ places_from (at + 1) p ps) (places_from (at + 1) p ps))
    by rest true = (omega (arith, h), rest)
    by rest false = rest

each_append : (Holds : ℕ → Type 0) (xs ys : List ℕ) → AllByRecursion Holds xs → AllByRecursion Holds ys → AllByRecursion Holds (xs ++ ys)
each_append Holds [] ys h k = k
each_append Holds (x ∷ xs) ys h k = (h.0, each_append Holds xs ys h.1 k)

each_flat : {X : Type 0} (Holds : ℕ → Type 0) (f : X → List ℕ) → ((x : X) → AllByRecursion Holds (f x)) → (xs : List X) → AllByRecursion Holds (flat_map f xs)
each_flat Holds f h [] = tt
each_flat Holds f h (x ∷ xs) = each_append Holds (f x) (flat_map f xs) (h x) (each_flat Holds f h xs)

all_given : (Holds : ℕ → Type 0) (xs : List ℕ) → AllByRecursion Holds xs → All Holds xs
all_given Holds [] h k d lt = absurd (omega (arith, lt))
all_given Holds (x ∷ xs) h zero d lt = h.0
all_given Holds (x ∷ xs) h (suc k) d lt = all_given Holds xs h.1 k d (omega (arith, lt))

any_flat : {X : Type 0} (test : ℕ → Bool) (f : X → List ℕ) (xs : List X) → list_any test (flat_map f xs) ≡ list_any (λ x. list_any test (f x)) xs
any_flat test f [] = refl
any_flat test f (x ∷ xs) = list_any-append test (f x) (flat_map f xs) ∙ ap (λ b. list_any test (f x) || b) (any_flat test f xs)

any_same : {X : Type 0} (f g : X → Bool) → ((x : X) → f x ≡ g x) → (xs : List X) → list_any f xs ≡ list_any g xs
any_same f g h [] = refl
any_same f g h (x ∷ xs) = ap (λ b. b || list_any f xs) (h x) ∙ ap (λ b. g x || b) (any_same f g h xs)

-- the columns of those that an event names, and of those that a block does
abbrev pub event_columns : List Pid → Stamped → List ℕ
event_columns ps s = flat_map (λ (p : Pid). places_of p ps) (named_columns s.event)

pub block_named : (block : List Stamped) (ps : List Pid) → AreNamed block ps (flat_map (event_columns ps) block)
block_named block ps = record {
  within =
      let most : 0 + length ps ≤ length ps = omega arith in
      all_given (λ (k : ℕ). k < length ps) (flat_map (event_columns ps) block)
      (each_flat (λ (k : ℕ). k < length ps) (event_columns ps)
      (λ (s : Stamped). each_flat (λ (k : ℕ). k < length ps) (λ (p : Pid). places_of p ps) (λ (p : Pid). places_within p ps 0 (length ps) most) (named_columns s.event)) block);
  each = λ k d h.
      let same : 0 + k ≡ k = omega arith in
      let one = λ (p : Pid). subst (λ (i : ℕ). list_any (λ (j : ℕ). j == i) (places_of p ps) ≡ same_pid p (get_or ps k d)) same (any_place p ps 0 k d h) ∙ same_pid_turned p (get_or ps k d) in
      any_flat (λ (j : ℕ). j == k) (event_columns ps) block
      ∙ any_same (λ (s : Stamped). list_any (λ (j : ℕ). j == k) (event_columns ps s)) (λ (s : Stamped). list_any (same_pid (get_or ps k d)) (named_columns s.event))
      (λ (s : Stamped). any_flat (λ (j : ℕ). j == k) (λ (p : Pid). places_of p ps) (named_columns s.event)
      ∙ any_same (λ (p : Pid). list_any (λ (j : ℕ). j == k) (places_of p ps)) (same_pid (get_or ps k d)) one (named_columns s.event)) block;
}

flat_next : {X : Type 0} (f : X → List ℕ) (xs : List X) (i : ℕ) (d : X) → i < length xs → flat_map f (take (suc i) xs) ≡ flat_map f (take i xs) ++ f (get_or xs i d)
flat_next f [] i d h = absurd (omega (arith, h))
flat_next f (x ∷ xs) zero d h = append-nil (f x)
flat_next f (x ∷ xs) (suc i) d h = ap (λ z. f x ++ z) (flat_next f xs i d (omega (arith, h))) ∙ sym (append_assoc (f x) (flat_map f (take i xs)) (f (get_or xs i d)))

pub flat_more : {X : Type 0} (f : X → List ℕ) (xs : List X) (i : ℕ) (d : X) → i < length xs → flat_map f (take (i + 1) xs) ≡ flat_map f (take i xs) ++ f (get_or xs i d)
flat_more f xs i d h = let e : i + 1 ≡ suc i = omega arith in ap (λ k. flat_map f (take k xs)) e ∙ flat_next f xs i d h

-- they stay the same in another order
pub named_moved : (block : List Stamped) (ps : List Pid) (xs ys : List ℕ) → IsPermutation xs ys → AreNamed block ps xs → AreNamed block ps ys
named_moved block ps xs ys moved are = record {
  within = All-permutation (λ (k : ℕ). k < length ps) xs ys moved are.within;
  each = λ k d h. sym (list_any-IsPermutation (λ (j : ℕ). j == k) xs ys moved) ∙ are.each k d h;
}

-- their names -----------------------------------------------------------------------------------------

-- where nothing is drawn of some columns, they may as well not be there
gap : (f : ℕ → Column → List Part) (cs : List Column) (d : Column) (n from : ℕ) → from + n ≤ length cs → ((k : ℕ) → from ≤ k → k < from + n → f k (get_or cs k d) ≡ [])
    → each_numbered f (take (from + n) cs) ≡ each_numbered f (take from cs)
gap f cs d zero from h empty = let e : from + 0 ≡ from = omega arith in ap (λ k. each_numbered f (take k cs)) e
gap f cs d (suc n) from h empty =
    let e : from + suc n ≡ from + n + 1 = omega arith in
    ap (λ k. each_numbered f (take k cs)) e ∙ sym (next f cs (from + n) d (omega (arith, h)))
    ∙ ap (λ z. each_numbered f (take (from + n) cs) ++ z) (empty (from + n) (omega arith) (omega arith)) ∙ append-nil (each_numbered f (take (from + n) cs))
    ∙ gap f cs d n from (omega (arith, h)) (λ k low high. empty k low (omega (arith, high)))

any_default : (xs : List ℕ) (k d e : ℕ) → k < length xs → get_or xs k d ≡ get_or xs k e
any_default [] k d e h = absurd (omega (arith, h))
any_default (x ∷ xs) zero d e h = refl
any_default (x ∷ xs) (suc k) d e h = any_default xs k d e (omega (arith, h))

module _ (block : List Stamped) (row : ℕ) (cs : List Column) (named : List ℕ) (are : AreNamed block (map (λ (c : Column). c.pid) cs) named) (d : Column) where
  abbrev drawn : ℕ → Column → List Part
  drawn = name_in block row

  -- a column that is not listed is not named
  unlisted : (k : ℕ) → k < length cs → All (λ (j : ℕ). (j == k) ≡ false) named → drawn k (get_or cs k d) ≡ []
  unlisted k h others =
      let within : k < length (map (λ (c : Column). c.pid) cs) = let e = length_of (λ (c : Column). c.pid) cs in omega (arith, h, e) in
      let said : list_any (λ (j : ℕ). j == k) named ≡ is_in_block block (get_or cs k d).pid = are.each k d.pid within ∙ ap (is_in_block block) (at_of (λ (c : Column). c.pid) cs k d) in
      ap (λ b. cond b (Name row k (get_or cs k d).pid ∷ []) []) (sym said ∙ list_any_none (λ (j : ℕ). j == k) named others)

  -- what is listed is within the columns, and named
  pub listed_within : (at : ℕ) → at < length named → get_or named at 0 < length cs
  listed_within at h = let e = length_of (λ (c : Column). c.pid) cs in let w = are.within at 0 h in omega (arith, w, e)

  listed_named : (at k : ℕ) → at < length named → k ≡ get_or named at 0 → drawn k (get_or cs k d) ≡ Name row k (get_or cs k d).pid ∷ []
  listed_named at k h is =
      let within : k < length (map (λ (c : Column). c.pid) cs) = let w = are.within at 0 h in omega (arith, w, is) in
      let said : list_any (λ (j : ℕ). j == k) named ≡ is_in_block block (get_or cs k d).pid = are.each k d.pid within ∙ ap (is_in_block block) (at_of (λ (c : Column). c.pid) cs k d) in
      ap (λ b. cond b (Name row k (get_or cs k d).pid ∷ []) []) (sym said ∙ list_any_at (λ (j : ℕ). j == k) named at 0 h (eq-eqb (get_or named at 0) k (sym is)))

  -- the next column that is listed comes after those that are drawn
  pub names_next : (at behind k : ℕ) (start before after : List Part) → IsNonDecreasing named → at < length named → k ≡ get_or named at 0 → behind ≤ k → ((j : ℕ) → j < at → get_or named j 0 < behind)
      → before ≡ start ++ each_numbered drawn (take behind cs) → after ≡ before ++ Name row k (get_or cs k d).pid ∷ [] → after ≡ start ++ each_numbered drawn (take (k + 1) cs)
  names_next at behind k start before after sorted h is low left b a =
      let within : k < length cs = let w = listed_within at h in omega (arith, w, is) in
      let far : behind + (k - behind) ≡ k = omega (arith, low) in
      let empty : (i : ℕ) → behind ≤ i → i < behind + (k - behind) → drawn i (get_or cs i d) ≡ [] =
      λ i from to. unlisted i (omega (arith, to, far, within))
      (λ j e lt. ne_eqb (get_or named j e) i (λ same. unequal at behind k i j e sorted h is left from (omega (arith, to, far)) lt same))
      in
      let skipped : each_numbered drawn (take k cs) ≡ each_numbered drawn (take behind cs) =
      subst (λ (i : ℕ). each_numbered drawn (take i cs) ≡ each_numbered drawn (take behind cs)) far (gap drawn cs d (k - behind) behind (omega (arith, far, within)) empty)
      in
      one_more_at drawn start before after cs k d within (b ∙ ap (λ z. start ++ z) (sym skipped)) (a ∙ ap (λ z. before ++ z) (sym (listed_named at k h is)))
    where
      unequal : (at behind k i j e : ℕ) → IsNonDecreasing named → at < length named → k ≡ get_or named at 0 → ((j : ℕ) → j < at → get_or named j 0 < behind)
          → behind ≤ i → i < k → j < length named → get_or named j e ≡ i → ⊥
      unequal at behind k i j e sorted h is left from to lt same = by (nat_lt j at) refl
        where
          given : get_or named j 0 ≡ i
          given = any_default named j 0 e lt ∙ same

          by : (t : Bool) → nat_lt j at ≡ t → ⊥
          by true f = let l = left j (ltb-true j at f) in omega (arith, l, from, given)
          by false f = let s = sorted at j 0 (ltb-false j at f) lt in omega (arith, s, is, to, given)

  -- behind the last one that is listed nothing is drawn
  names_all : (at behind : ℕ) (start before : List Part) → length named ≤ at → behind ≤ length cs → ((j : ℕ) → j < at → get_or named j 0 < behind)
      → before ≡ start ++ each_numbered drawn (take behind cs) → before ≡ start ++ each_numbered drawn cs
  names_all at behind start before h most left b =
      let far : behind + (length cs - behind) ≡ length cs = omega (arith, most) in
      let empty : (i : ℕ) → behind ≤ i → i < behind + (length cs - behind) → drawn i (get_or cs i d) ≡ [] =
      λ i from to. unlisted i (omega (arith, to, far))
      (λ j e lt. ne_eqb (get_or named j e) i (λ same. let l = left j (omega (arith, lt, h)) in let given = any_default named j 0 e lt in omega (arith, l, given, same, from)))
      in
      let skipped : each_numbered drawn (take (length cs) cs) ≡ each_numbered drawn (take behind cs) =
      subst (λ (i : ℕ). each_numbered drawn (take i cs) ≡ each_numbered drawn (take behind cs)) far (gap drawn cs d (length cs - behind) behind (omega (arith, far)) empty)
      in
      let whole : take (length cs) cs ≡ cs = take_all (length cs) cs (omega arith) in
      b ∙ ap (λ z. start ++ z) (sym skipped ∙ ap (each_numbered drawn) whole)

pub names_end : (block : List Stamped) (row : ℕ) (cs : List Column) (named : List ℕ) → AreNamed block (map (λ (c : Column). c.pid) cs) named → (at behind : ℕ) (start before : List Part) → length named ≤ at → behind ≤ length cs
    → ((j : ℕ) → j < at → get_or named j 0 < behind) → before ≡ start ++ each_numbered (name_in block row) (take behind cs) → before ≡ start ++ each_numbered (name_in block row) cs
names_end block row [] named are at behind start before h most left b =
    let nothing : behind ≡ 0 = omega (arith, most) in
    b ∙ ap (λ k. start ++ each_numbered (name_in block row) (take k [])) nothing
names_end block row (c ∷ cs) named are at behind start before h most left b = names_all block row (c ∷ cs) named are c at behind start before h most left b

-- the first column of a desk --------------------------------------------------------------------------

first_at : {X : Type 0} (f : X → Bool) (xs : List X) (k : ℕ) (d : X) → k < length xs → f (get_or xs k d) ≡ true → (position_or_len f xs == k) ≡ not (list_any f (take k xs))
first_at f [] k d h passes = absurd (omega (arith, h))
first_at f (x ∷ xs) zero d h passes = ap (λ b. cond (not b) (1 + position_or_len f xs) 0 == 0) passes
first_at f (x ∷ xs) (suc k) d h passes = by (first_at f xs k d (omega (arith, h)) passes) (f x)
  where
    next_one : (t : Bool) (n : ℕ) → (n == k) ≡ t → (1 + n == suc k) ≡ t
    next_one true n e = let same : n ≡ k = eqb-true n k e in eq-eqb (1 + n) (suc k) (omega (arith, same))
    next_one false n e = let other : n ≡ k → ⊥ = eqb-false n k e in ne_eqb (1 + n) (suc k) (λ same. other (omega (arith, same)))

    by : (position_or_len f xs == k) ≡ not (list_any f (take k xs)) → (t : Bool) → (cond (not t) (1 + position_or_len f xs) 0 == suc k) ≡ not (t || list_any f (take k xs))
    by rest true = ne_eqb 0 (suc k) (λ e. omega (arith, e))
    by rest false = next_one (position_or_len f xs == k) (position_or_len f xs) refl ∙ rest

pub begins_desk : (cs : List Column) (k : ℕ) (d : Column) (desk : ℕ) → k < length cs → desk ≡ (get_or cs k d).pid.shard → starts_desk cs k desk ≡ not (list_any (λ (c : Column). c.pid.shard == desk) (take k cs))
begins_desk cs k d desk h is =
    ap (λ b. unwrap_or (cond b (Some (position_or_len test cs)) None) 0 == k) there ∙ first_at test cs k d h passes
  where
    test : Column → Bool
    test c = c.pid.shard == desk

    passes : test (get_or cs k d) ≡ true
    passes = eq-eqb (get_or cs k d).pid.shard desk (sym is)

    there : nat_lt (position_or_len test cs) (length cs) ≡ true
    there = by (nat_lt (position_or_len test cs) (length cs)) refl
      where
        by : (t : Bool) → nat_lt (position_or_len test cs) (length cs) ≡ t → t ≡ true
        by true e = refl
        by false e =
            let most : length cs ≤ position_or_len test cs = ltb-false (position_or_len test cs) (length cs) e in
            absurd (both_ways (test (get_or cs k d)) (fails_before_first test cs k d (omega (arith, h, most))) passes)

-- the desks of the first columns are these
abbrev pub AreDesks : List Column → List ℕ → Type 0
AreDesks cs desks = (n : ℕ) → list_any (λ (m : ℕ). n == m) desks ≡ list_any (λ (c : Column). c.pid.shard == n) cs

pub desks_next : (cs : List Column) (k : ℕ) (d : Column) (desk : ℕ) (old new : List ℕ) → k < length cs → desk ≡ (get_or cs k d).pid.shard → AreDesks (take k cs) old
    → new ≡ cond (list_any (λ (m : ℕ). desk == m) old) old (old ++ desk ∷ []) → AreDesks (take (k + 1) cs) new
desks_next cs k d desk old new h is before after n =
    ap (list_any (λ (m : ℕ). n == m)) after ∙ by (list_any (λ (m : ℕ). desk == m) old) refl
    ∙ ap (λ b. b || (n == desk)) (before n) ∙ ap (λ b. list_any (λ (c : Column). c.pid.shard == n) (take k cs) || b) turned
    ∙ sym (list_any_more (λ (c : Column). c.pid.shard == n) cs k d h)
  where
    turned : (n == desk) ≡ ((get_or cs k d).pid.shard == n)
    turned = go (n == desk) refl
      where
        go : (t : Bool) → (n == desk) ≡ t → t ≡ ((get_or cs k d).pid.shard == n)
        go true e = let same : n ≡ desk = eqb-true n desk e in sym (eq-eqb (get_or cs k d).pid.shard n (sym (same ∙ is)))
        go false e = let other : n ≡ desk → ⊥ = eqb-false n desk e in sym (ne_eqb (get_or cs k d).pid.shard n (λ same. other (sym (is ∙ same))))

    by : (t : Bool) → list_any (λ (m : ℕ). desk == m) old ≡ t → list_any (λ (m : ℕ). n == m) (cond t old (old ++ desk ∷ [])) ≡ (list_any (λ (m : ℕ). n == m) old || (n == desk))
    by true e = go (n == desk) refl
      where
        go : (t : Bool) → (n == desk) ≡ t → list_any (λ (m : ℕ). n == m) old ≡ (list_any (λ (m : ℕ). n == m) old || t)
        go true f =
            let same : n ≡ desk = eqb-true n desk f in
            let there : list_any (λ (m : ℕ). n == m) old ≡ true = subst (λ (z : ℕ). list_any (λ (m : ℕ). z == m) old ≡ true) (sym same) e in
            rw there refl
        go false f = sym (or-false (list_any (λ (m : ℕ). n == m) old))
    by false e = list_any-append (λ (m : ℕ). n == m) old (desk ∷ []) ∙ ap (λ b. list_any (λ (m : ℕ). n == m) old || b) (or-false (n == desk))
