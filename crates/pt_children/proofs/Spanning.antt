-- The first and the last child of a kind.
use Rattle.std.proofs.Common.{◌≡◌, ◌⊎◌, inl, inr, ℕ, zero, suc, ◌+◌, ◌-◌, ◌<◌, ◌≤◌, Bool, true, false, cond, ◌&&◌, ◌||◌, not, List, [], ◌∷◌, ◌++◌, length, slice_get, slice_set, get_or, Option, Some, None, is_some, refl, sym, ap, subst, ◌∙◌, arith}
use Rattle.std.specs.Prelude.{nat_le, nat_lt, position}
use Rattle.std.specs.List.{list_all, position_or_len}
use Rattle.std.proofs.lemmas.Bool.{cases_lt, lt-ltb, le-ltb}
use Rattle.std.proofs.lemmas.List.{length-set}
use Rattle.std.proofs.lemmas.List.Sums.{position_or_len_is}
use Rattle.std.proofs.lemmas.Option.{slice_get_within, slice_get-get_or, get_or_from_slice_get}
use Rattle.pt_signal.specs.declared.pid.Pid.{Pid}
use Rattle.pt_children.specs.declared.children.Child.{Child}
use Rattle.pt_children.specs.declared.children.Shutdown.{Shutdown}
use Rattle.pt_children.specs.declared.spans.Kind.TheVariants.{Alive, Unwanted, Coming, Missing, Over}
use Rattle.pt_children.specs.declared.spans.Span.{Span}
use Rattle.pt_children.specs.declared.spans.Spans.{Spans}
use Rattle.pt_children.specs.Children.{is_missing, last_alive, leaving, leaving_in, or_before, revived, revive_in}
use Rattle.pt_children.specs.Spans.{AreSpans, AreSpansBut, AreIn, AreInBut, IsSpan, IsThere, NoneBetween, Outside, first_in, is_kind, last_in}
use Rattle.pt_children.specs.Trying.{earlier, failed_at, first_failed, tried_at, tried_in}
use Rattle.pt_children.proofs.Cases.{by_cases}
use Rattle.pt_children.proofs.Wanting.{set_other}

pub at_most : (a b : ℕ) → nat_le a b ≡ true → a ≤ b
at_most a b h = grind (arith, h)

more : (a b : ℕ) → nat_le a b ≡ false → b < a
more a b h = grind (arith, h)

-- where there is no such place, each is outside
everywhere : (s : Span) (j : ℕ) → s.end ≤ s.first → Outside s j
everywhere s j empty = elim (cases_lt j s.first) [
  | inl l ↦ inl l
  | inr g ↦ inr (omega (arith, g, empty))
]

and_true : (a b : Bool) → a ≡ true → b ≡ true → (a && b) ≡ true
and_true true b h k = k
and_true false b h k = absurd (cc)

and_false : (a b : Bool) → b ≡ false → (a && b) ≡ false
and_false true b h = h
and_false false b h = refl

pub push_other : (xs : List Child) (v : Child) (j : ℕ) (x : Child) → (j ≡ length xs → ⊥) → slice_get (xs ++ v ∷ []) j ≡ Some x → slice_get xs j ≡ Some x
push_other [] v zero x apart at = absurd (apart refl)
push_other [] v (suc j) x apart at = absurd (cc)
push_other (y ∷ xs) v zero x apart at = at
push_other (y ∷ xs) v (suc j) x apart at = push_other xs v j x (λ e. apart (omega (arith, e))) at

-- the first one -------------------------------------------------------------------------------

module _ (is : Child → Bool) where
  pub position_here : (xs : List Child) (i : ℕ) (c : Child) → slice_get xs i ≡ Some c → is c ≡ true → ((j : ℕ) (x : Child) → j < i → slice_get xs j ≡ Some x → is x ≡ false) → position is xs ≡ Some i
  position_here xs i c at here before =
      let within = slice_get_within xs i c at in
      let place : position_or_len is xs ≡ i = position_or_len_is is xs i c (omega (arith, within)) (λ k l. before k (get_or xs k c) l (slice_get-get_or xs k c (omega (arith, l, within)))) (λ k. ap is (get_or_from_slice_get xs i c c at) ∙ here) in
      let inside : nat_lt i (length xs) ≡ true = lt-ltb i (length xs) within in
      rw place (rw inside refl)

  pub position_nowhere : (xs : List Child) → ((j : ℕ) (x : Child) → slice_get xs j ≡ Some x → is x ≡ false) → position is xs ≡ None
  position_nowhere [] none = refl
  position_nowhere (y ∷ xs) none =
      let place : position_or_len is (y ∷ xs) ≡ length (y ∷ xs) = position_or_len_is is (y ∷ xs) (length (y ∷ xs)) y (omega arith) (λ k l. none k (get_or (y ∷ xs) k y) (slice_get-get_or (y ∷ xs) k y l)) (λ k. absurd (omega (arith, k))) in
      let outside : nat_lt (length (y ∷ xs)) (length (y ∷ xs)) ≡ false = le-ltb (length (y ∷ xs)) (length (y ∷ xs)) (omega arith) in
      rw place (rw outside refl)

  none_all : (xs : List Child) → ((j : ℕ) (x : Child) → slice_get xs j ≡ Some x → is x ≡ false) → list_all (λ (c : Child). not (is c)) xs ≡ true
  none_all [] none = refl
  none_all (y ∷ xs) none = and_true (not (is y)) (list_all (λ (c : Child). not (is c)) xs) (ap not (none 0 y refl)) (none_all xs (λ j x at. none (suc j) x at))

  one_not_all : (xs : List Child) (i : ℕ) (c : Child) → slice_get xs i ≡ Some c → is c ≡ true → list_all (λ (c : Child). not (is c)) xs ≡ false
  one_not_all [] i c at here = absurd (cc)
  one_not_all (y ∷ xs) zero c at here =
      let same : y ≡ c = cc in
      ap (λ (b : Bool). not b && list_all (λ (c : Child). not (is c)) xs) (ap is same ∙ here)
  one_not_all (y ∷ xs) (suc i) c at here = and_false (not (is y)) (list_all (λ (c : Child). not (is c)) xs) (one_not_all xs i c at here)

  module _ (s : Span) (xs : List Child) (span : IsSpan is s xs) where
    pub none_in : s.end ≤ s.first → (j : ℕ) (x : Child) → slice_get xs j ≡ Some x → is x ≡ false
    none_in empty j x at = span.holds.others j x (everywhere s j empty) at

    pub first_is : first_in s ≡ position is xs
    first_is = by_cases (nat_le s.end s.first)
        (λ empty. ap (λ (b : Bool). cond b None (Some s.first)) empty ∙ sym (position_nowhere xs (none_in (at_most s.end s.first empty))))
        (λ some.
        let t = span.first (more s.end s.first some) in
        ap (λ (b : Bool). cond b None (Some s.first)) some ∙ sym (position_here xs s.first t.0 t.1 t.2 (λ j x l at. span.holds.others j x (inl l) at)))

    pub all_is : nat_le s.end s.first ≡ list_all (λ (c : Child). not (is c)) xs
    all_is = by_cases (nat_le s.end s.first)
        (λ empty. empty ∙ sym (none_all xs (none_in (at_most s.end s.first empty))))
        (λ some. let t = span.first (more s.end s.first some) in some ∙ sym (one_not_all xs s.first t.0 t.1 t.2))

  -- how the places change ---------------------------------------------------------------------------

  -- the places become fewer, as long as no child of the kind is at those that go
  pub tight_is : (s t : Span) (xs : List Child) → AreIn is s xs → s.first ≤ t.first → NoneBetween is s.first t.first xs → (t.first < s.end → IsThere is t.first xs) → t.first ≤ t.end → t.end ≤ s.end → NoneBetween is t.end s.end xs
      → (t.first < t.end → IsThere is (t.end - 1) xs) → IsSpan is t xs
  tight_is s t xs h from before first ordered to behind last = record {
    holds = record { ordered = ordered; within = omega (arith, to, h.within); others = out };
    first = λ l. first (omega (arith, l, to));
    last = last;
  }
    where
      out : (j : ℕ) (x : Child) → Outside t j → slice_get xs j ≡ Some x → is x ≡ false
      out j x o at = elim o [
        | inl l ↦ elim (cases_lt j s.first) [
          | inl b ↦ h.others j x (inl b) at
          | inr g ↦ before j x g l at
        ]
        | inr g ↦ elim (cases_lt j s.end) [
          | inl b ↦ behind j x g b at
          | inr past ↦ h.others j x (inr past) at
        ]
      ]

  module _ (s : Span) (at : ℕ) (xs : List Child) (but : AreInBut is s at xs) where
    -- the child at the place is not of the kind
    pub but_not : (c : Child) → slice_get xs at ≡ Some c → is c ≡ false → AreIn is s xs
    but_not c here not_it = record { ordered = but.ordered; within = but.within; others = out }
      where
        out : (j : ℕ) (x : Child) → Outside s j → slice_get xs j ≡ Some x → is x ≡ false
        out j x o there = elim (cases_lt j at) [
          | inl l ↦ but.others j x (λ e. omega (arith, e, l)) o there
          | inr g ↦ elim (cases_lt at j) [
            | inl l ↦ but.others j x (λ e. omega (arith, e, l)) o there
            | inr k ↦ (
                let e : j ≡ at = omega (arith, g, k) in
                let same : Some x ≡ Some c = sym there ∙ (ap (slice_get xs) e ∙ here) in
                let child : x ≡ c = cc in
                ap is child ∙ not_it
                )
          ]
        ]

    -- or it is in the places, too
    pub but_in : (t : Span) → at < length xs → t.first ≤ at → at < t.end → ((n : ℕ) → s.end ≤ n → at < n → t.end ≤ n) → ((j : ℕ) → Outside t j → Outside s j) → AreIn is t xs
    but_in t here from to within outside = record {
      ordered = omega (arith, from, to);
      within = within (length xs) but.within here;
      others = λ j x o there. but.others j x (apart j o) (outside j o) there;
    }
      where
        apart : (j : ℕ) → Outside t j → j ≡ at → ⊥
        apart j o e = elim o [
          | inl l ↦ omega (arith, l, e, from)
          | inr g ↦ omega (arith, g, e, to)
        ]

  pub set_but : (s : Span) (xs : List Child) (at : ℕ) (v : Child) → IsSpan is s xs → AreInBut is s at (slice_set xs at v)
  set_but s xs at v span = record {
    ordered = span.holds.ordered;
    within = let l = length-set xs at v in let w = span.holds.within in omega (arith, l, w);
    others = λ j x apart o there. span.holds.others j x o (set_other xs at j v x apart there);
  }

  pub push_but : (s : Span) (xs : List Child) (v : Child) → IsSpan is s xs → AreInBut is s (length xs) (xs ++ v ∷ [])
  push_but s xs v span = record {
    ordered = span.holds.ordered;
    within = let w = span.holds.within in let l = longer xs v in omega (arith, w, l);
    others = λ j x apart o there. span.holds.others j x o (push_other xs v j x apart there);
  }
    where
      longer : (ys : List Child) (v : Child) → length ys ≤ length (ys ++ v ∷ [])
      longer [] v = omega arith
      longer (y ∷ ys) v = let l = longer ys v in omega (arith, l)

-- the same of each kind
pub set_buts : (s : Spans) (xs : List Child) (at : ℕ) (v : Child) → AreSpans s xs → AreSpansBut s at (slice_set xs at v)
set_buts s xs at v h = record {
  alive = set_but (is_kind Alive) s.alive xs at v h.alive;
  unwanted = set_but (is_kind Unwanted) s.unwanted xs at v h.unwanted;
  coming = set_but (is_kind Coming) s.coming xs at v h.coming;
  missing = set_but (is_kind Missing) s.missing xs at v h.missing;
  over = set_but (is_kind Over) s.over xs at v h.over;
}

pub push_buts : (s : Spans) (xs : List Child) (v : Child) → AreSpans s xs → AreSpansBut s (length xs) (xs ++ v ∷ [])
push_buts s xs v h = record {
  alive = push_but (is_kind Alive) s.alive xs v h.alive;
  unwanted = push_but (is_kind Unwanted) s.unwanted xs v h.unwanted;
  coming = push_but (is_kind Coming) s.coming xs v h.coming;
  missing = push_but (is_kind Missing) s.missing xs v h.missing;
  over = push_but (is_kind Over) s.over xs v h.over;
}

-- the last one that is to end -----------------------------------------------------------------------

last_here : (xs : List Child) (first n p : ℕ) (r : Pid × Shutdown) → p < n → leaving_in (nat_le first p) (slice_get xs p) ≡ Some r → ((j : ℕ) → p < j → leaving_in (nat_le first j) (slice_get xs j) ≡ None) → last_alive xs first n ≡ Some r
last_here xs first zero p r l here behind = absurd (omega (arith, l))
last_here xs first (suc n) p r l here behind = elim (cases_lt p n) [
  | inl below ↦ ap (λ (o : Option (Pid × Shutdown)). or_before o (last_alive xs first n)) (behind n below) ∙ last_here xs first n p r below here behind
  | inr above ↦ (
      let e : p ≡ n = omega (arith, l, above) in
      ap (λ (o : Option (Pid × Shutdown)). or_before o (last_alive xs first n)) (subst (λ (k : ℕ). leaving_in (nat_le first k) (slice_get xs k) ≡ Some r) e here)
      )
]

last_none : (xs : List Child) (first n : ℕ) → ((j : ℕ) → leaving_in (nat_le first j) (slice_get xs j) ≡ None) → last_alive xs first n ≡ None
last_none xs first zero none = refl
last_none xs first (suc n) none = ap (λ (o : Option (Pid × Shutdown)). or_before o (last_alive xs first n)) (none n) ∙ last_none xs first n none

-- one with a process has a way to end, and one without has none
leaves : (c : Child) → is_some c.pid ≡ true → (r : Pid × Shutdown) × (leaving c ≡ Some r)
leaves c alive = go c.pid refl alive
  where
    go : (o : Option Pid) → c.pid ≡ o → is_some o ≡ true → (r : Pid × Shutdown) × (leaving c ≡ Some r)
    go None e h = absurd (cc)
    go (Some p) e h = ((p, c.shutdown), rw e refl)

stays : (c : Child) → is_some c.pid ≡ false → leaving c ≡ None
stays c dead = go c.pid refl dead
  where
    go : (o : Option Pid) → c.pid ≡ o → is_some o ≡ false → leaving c ≡ None
    go None e h = rw e refl
    go (Some p) e h = absurd (cc)

cond_none : {A : Type 0} (b : Bool) (o : Option A) → o ≡ None → cond b o None ≡ None
cond_none true o is = is
cond_none false o is = refl

dead_in : (b : Bool) (o : Option Child) → ((c : Child) → o ≡ Some c → is_some c.pid ≡ false) → leaving_in b o ≡ None
dead_in b None dead = refl
dead_in b (Some c) dead = cond_none (b || not c.wanted) (leaving c) (stays c (dead c refl))

-- one that is wanted is not to end by itself
wanted_in : (o : Option Child) → ((c : Child) → o ≡ Some c → (is_some c.pid && not c.wanted) ≡ false) → leaving_in false o ≡ None
wanted_in None quiet = refl
wanted_in (Some c) quiet = go c.wanted (quiet c refl)
  where
    go : (w : Bool) → (is_some c.pid && not w) ≡ false → cond (not w) (leaving c) None ≡ None
    go true h = refl
    go false h = stays c (first_false (is_some c.pid) h)
      where
        first_false : (a : Bool) → (a && true) ≡ false → a ≡ false
        first_false true h = absurd (cc)
        first_false false h = refl

in_last : (from : ℕ) (s : Span) (p : ℕ) → last_in from s ≡ Some p → (s.first < s.end) × (from < s.end) × (p ≡ s.end - 1)
in_last from s p h = by_cases (nat_lt s.first s.end)
    (λ a. by_cases (nat_lt from s.end)
    (λ b.
    let e : Some (s.end - 1) ≡ Some p = sym (ap (λ (x : Bool). cond (x && nat_lt from s.end) (Some (s.end - 1)) None) a ∙ ap (λ (x : Bool). cond x (Some (s.end - 1)) None) b) ∙ h in
    let same : s.end - 1 ≡ p = cc in
    (grind (arith, a), grind (arith, b), sym same))
    (λ b. let bad : None ≡ Some p = sym (ap (λ (x : Bool). cond (x && nat_lt from s.end) (Some (s.end - 1)) None) a ∙ ap (λ (x : Bool). cond x (Some (s.end - 1)) None) b) ∙ h in absurd (cc)))
    (λ a. let bad : None ≡ Some p = sym (ap (λ (x : Bool). cond (x && nat_lt from s.end) (Some (s.end - 1)) None) a) ∙ h in absurd (cc))

not_last : (from : ℕ) (s : Span) → last_in from s ≡ None → (s.end ≤ s.first) ⊎ (s.end ≤ from)
not_last from s h = by_cases (nat_lt s.first s.end)
    (λ a. by_cases (nat_lt from s.end)
    (λ b. let bad : Some (s.end - 1) ≡ None = sym (ap (λ (x : Bool). cond (x && nat_lt from s.end) (Some (s.end - 1)) None) a ∙ ap (λ (x : Bool). cond x (Some (s.end - 1)) None) b) ∙ h in absurd (cc))
    (λ b. inr (grind (arith, b))))
    (λ a. inl (grind (arith, a)))

pub last_within : (is : Child → Bool) (from : ℕ) (s : Span) (xs : List Child) (p : ℕ) → IsSpan is s xs → last_in from s ≡ Some p → p < length xs
last_within is from s xs p span h =
    let t = in_last from s p h in
    let l = t.0 in
    let e = t.2 in
    omega (arith, l, e, span.holds.within)

module _ (s : Spans) (xs : List Child) (first : ℕ) (spans : AreSpans s xs) where
  -- one stands there with a process, from the place on from which all are to end
  pub last_of_all : (p : ℕ) (c : Child) → last_in first s.alive ≡ Some p → slice_get xs p ≡ Some c → leaving c ≡ last_alive xs first (length xs)
  last_of_all p c is at =
      let in_it = in_last first s.alive p is in
      let t = spans.alive.last in_it.0 in
      let same : Some t.0 ≡ Some c = sym t.1 ∙ (ap (slice_get xs) (sym in_it.2) ∙ at) in
      let child : t.0 ≡ c = cc in
      let alive : is_some c.pid ≡ true = ap (λ (x : Child). is_some x.pid) (sym child) ∙ t.2 in
      let r = leaves c alive in
      let late : nat_le first p ≡ true = let e = in_it.2 in let l = in_it.1 in grind (arith, e, l) in
      r.1 ∙ sym (last_here xs first (length xs) p r.0 (slice_get_within xs p c at)
      (ap (leaving_in (nat_le first p)) at ∙ (ap (λ (b : Bool). cond (b || not c.wanted) (leaving c) None) late ∙ r.1))
      (λ j l. dead_in (nat_le first j) (slice_get xs j) (λ x there. spans.alive.holds.others j x (inr (let e = in_it.2 in omega (arith, e, l))) there)))

  -- none has a process from there on
  quiet : last_in first s.alive ≡ None → (j : ℕ) (x : Child) → nat_le first j ≡ true → slice_get xs j ≡ Some x → is_some x.pid ≡ false
  quiet is j x late at = elim (not_last first s.alive is) [
    | inl empty ↦ spans.alive.holds.others j x (everywhere s.alive j empty) at
    | inr before ↦ spans.alive.holds.others j x (inr (let l = at_most first j late in omega (arith, before, l))) at
  ]

  quiet_in : last_in first s.alive ≡ None → (j : ℕ) → ((x : Child) → slice_get xs j ≡ Some x → (is_some x.pid && not x.wanted) ≡ false) → leaving_in (nat_le first j) (slice_get xs j) ≡ None
  quiet_in is j wanted = by_cases (nat_le first j)
      (λ late. dead_in (nat_le first j) (slice_get xs j) (λ x there. quiet is j x late there))
      (λ early. ap (λ (b : Bool). leaving_in b (slice_get xs j)) early ∙ wanted_in (slice_get xs j) wanted)

  pub last_unwanted : (p : ℕ) (c : Child) → last_in first s.alive ≡ None → last_in 0 s.unwanted ≡ Some p → slice_get xs p ≡ Some c → leaving c ≡ last_alive xs first (length xs)
  last_unwanted p c is there at =
      let in_it = in_last 0 s.unwanted p there in
      let t = spans.unwanted.last in_it.0 in
      let same : Some t.0 ≡ Some c = sym t.1 ∙ (ap (slice_get xs) (sym in_it.2) ∙ at) in
      let child : t.0 ≡ c = cc in
      let of_it : (is_some c.pid && not c.wanted) ≡ true = ap (λ (x : Child). is_some x.pid && not x.wanted) (sym child) ∙ t.2 in
      let parts = both (is_some c.pid) (not c.wanted) of_it in
      let r = leaves c parts.0 in
      r.1 ∙ sym (last_here xs first (length xs) p r.0 (slice_get_within xs p c at)
      (ap (leaving_in (nat_le first p)) at ∙ (ap (λ (b : Bool). cond b (leaving c) None) (or_true (nat_le first p) (not c.wanted) parts.1) ∙ r.1))
      (λ j l. quiet_in is j (λ x here. spans.unwanted.holds.others j x (inr (let e = in_it.2 in omega (arith, e, l))) here)))
    where
      both : (a b : Bool) → (a && b) ≡ true → (a ≡ true) × (b ≡ true)
      both true b h = (refl, h)
      both false b h = absurd (cc)

      or_true : (a b : Bool) → b ≡ true → (a || b) ≡ true
      or_true true b h = refl
      or_true false b h = h

  pub no_last : last_in first s.alive ≡ None → last_in 0 s.unwanted ≡ None → None ≡ last_alive xs first (length xs)
  no_last is there =
      let empty : s.unwanted.end ≤ s.unwanted.first = elim (not_last 0 s.unwanted there) [
        | inl e ↦ e
        | inr z ↦ omega (arith, z)
      ] in
      sym (last_none xs first (length xs) (λ j. quiet_in is j (λ x here. spans.unwanted.holds.others j x (everywhere s.unwanted j empty) here)))

-- the first one that failed -------------------------------------------------------------------------

untried : (o : Option Child) → ((x : Child) → o ≡ Some x → is_missing x ≡ false) → tried_in o ≡ None
untried None none = refl
untried (Some c) none = ap (λ (b : Bool). cond b (failed_at c.trial) None) (none c refl)

pub failed_more : (xs : List Child) (n k : ℕ) → NoneBetween is_missing n k xs → n ≤ k → first_failed xs k ≡ first_failed xs n
failed_more xs n zero none l = ap (first_failed xs) (let e : 0 ≡ n = omega (arith, l) in e)
failed_more xs n (suc k) none l = elim (cases_lt k n) [
  | inl less ↦ ap (first_failed xs) (let e : suc k ≡ n = omega (arith, l, less) in e)
  | inr more ↦ ap (earlier (first_failed xs k) k) (untried (slice_get xs k) (λ x at. none k x more (omega arith) at))
      ∙ failed_more xs n k (λ j x a b at. none j x a (omega (arith, b)) at) more
]

pub failed_next : (xs : List Child) (n : ℕ) (c : Child) (first r : Option (ℕ × ℕ)) → first ≡ first_failed xs n → slice_get xs n ≡ Some c → r ≡ earlier first n (tried_at c) → r ≡ first_failed xs (n + 1)
failed_next xs n c first r is at one =
    let e : suc n ≡ n + 1 = omega arith in
    one ∙ (ap (λ (b : Option (ℕ × ℕ)). earlier b n (tried_at c)) is ∙ (ap (λ (o : Option Child). earlier (first_failed xs n) n (tried_in o)) (sym at) ∙ ap (first_failed xs) e))

-- those that are to live again ------------------------------------------------------------------------

pub revived_before : (xs : List Child) (first n : ℕ) → n ≤ first → revived xs first n ≡ xs
revived_before xs first zero l = refl
revived_before xs first (suc n) l =
    let early : nat_le first n ≡ false = grind (arith, l) in
    ap (λ (b : Bool). cond b (revive_in (slice_get (revived xs first n) n) n (revived xs first n)) (revived xs first n)) early
    ∙ revived_before xs first n (omega (arith, l))
