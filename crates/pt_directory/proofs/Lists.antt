-- Lists of deaths, and lists read by `get_elem?`.
use Rattle.std.proofs.Common.{◌≡◌, ◌≢◌, ◌⊎◌, ℕ, zero, suc, ◌+◌, ◌-◌, ◌<◌, ◌≤◌, Bool, true, false, ◌&&◌, cond, eqb, true≢false, List, [], ◌∷◌, ◌++◌, filter, length, set, get_or, Some, refl, sym, ap, ◌∙◌, subst, inl, inr, ⊎_elim, arith, le_refl, eqb-true, eq-eqb, ne_eqb}
use mathlib.Core.Option.{some, some-ne-none, some-injective}
use lib.ListN.{get_elem?}
use Rattle.atomic_table.proofs.Lists.{at_longer, set_else}
use Rattle.pt_directory.specs.declared.view.Read.{Read}
use Rattle.pt_directory.specs.declared.view.Death.{Death}
use Rattle.pt_directory.specs.declared.view.View.{View}
use Rattle.pt_directory.specs.Views.{new_read, is_at, deaths_at, last_version, last_stamp, Rises, HasDeath, up_from, stamp_last, times_among, homes_of, fresh_view}

module _ {A : Type 0} where
  pub at_append : (xs ys : List A) (k : ℕ) (a : A) → get_elem? (xs ++ ys) k ≡ some a → (get_elem? xs k ≡ some a) ⊎ ((j : ℕ) × (get_elem? ys j ≡ some a) × (k ≡ length xs + j))
  at_append [] ys k a e = inr (k, e, omega arith)
  at_append (x ∷ xs) ys zero a e = inl e
  at_append (x ∷ xs) ys (suc k) a e = ⊎_elim inl (λ t. let q = t.2 in inr (t.0, t.1, omega arith)) (at_append xs ys k a e)

  pub at_behind : (xs ys : List A) (j : ℕ) (a : A) → get_elem? ys j ≡ some a → (k : ℕ) × (get_elem? (xs ++ ys) k ≡ some a)
  at_behind [] ys j a e = (j, e)
  at_behind (x ∷ xs) ys j a e = let t = at_behind xs ys j a e in (suc t.0, t.1)

  pub at_single : (x a : A) (k : ℕ) → get_elem? (x ∷ []) k ≡ some a → x ≡ a
  at_single x a zero e = some-injective x a e
  at_single x a (suc k) e = absurd (some-ne-none a (sym e))

  pub at_nothing : (a : A) (k : ℕ) → get_elem? {A = A} [] k ≡ some a → ⊥
  at_nothing a k e = some-ne-none a (sym e)

-- a number that is not lowered
pub set_grows : (l : List ℕ) (i n j : ℕ) → get_or l i 0 ≤ n → get_or l j 0 ≤ get_or (set l i n) j 0
set_grows [] i n j h = le_refl 0
set_grows (x ∷ xs) zero n zero h = h
set_grows (x ∷ xs) zero n (suc j) h = le_refl (get_or xs j 0)
set_grows (x ∷ xs) (suc i) n zero h = le_refl x
set_grows (x ∷ xs) (suc i) n (suc j) h = set_grows xs i n j h

pub last_version-push : (es : List Death) (e : Death) → last_version (es ++ e ∷ []) ≡ e.version
last_version-push [] e = refl
last_version-push (x ∷ []) e = refl
last_version-push (x ∷ y ∷ xs) e = last_version-push (y ∷ xs) e

pub last_stamp-push : (es : List Death) (e : Death) → last_stamp (es ++ e ∷ []) ≡ e.stamp
last_stamp-push [] e = refl
last_stamp-push (x ∷ []) e = refl
last_stamp-push (x ∷ y ∷ xs) e = last_stamp-push (y ∷ xs) e

pub Rises-push : (es : List Death) (e : Death) → Rises es → last_version es < e.version → last_stamp es ≤ e.stamp → Rises (es ++ e ∷ [])
Rises-push [] e r v s = tt
Rises-push (x ∷ []) e r v s = (v, s, tt)
Rises-push (x ∷ y ∷ xs) e r v s = (r.0, r.1, Rises-push (y ∷ xs) e r.2 v s)

-- a front of what rises is not above the whole
pub last_stamp-front : (es fs : List Death) → Rises (es ++ fs) → last_stamp es ≤ last_stamp (es ++ fs)
last_stamp-front [] fs r = omega arith
last_stamp-front (x ∷ []) [] r = le_refl x.stamp
last_stamp-front (x ∷ []) (y ∷ ys) r = let h = last_stamp-front (y ∷ []) ys r.2 in let g = r.1 in omega arith
last_stamp-front (x ∷ y ∷ xs) fs r = last_stamp-front (y ∷ xs) fs r.2

pub last_version-front : (es fs : List Death) → Rises (es ++ fs) → last_version es ≤ last_version (es ++ fs)
last_version-front [] fs r = omega arith
last_version-front (x ∷ []) [] r = le_refl x.version
last_version-front (x ∷ []) (y ∷ ys) r = let h = last_version-front (y ∷ []) ys r.2 in let g = r.0 in omega arith
last_version-front (x ∷ y ∷ xs) fs r = last_version-front (y ∷ xs) fs r.2

pub up_to_last : (es : List Death) (k : ℕ) (e : Death) → Rises es → get_elem? es k ≡ some e → (e.version ≤ last_version es) × (e.stamp ≤ last_stamp es)
up_to_last [] k e r at = absurd (some-ne-none e (sym at))
up_to_last (x ∷ []) k e r at = let is = at_single x e k at in (subst (λ (z : Death). z.version ≤ x.version) is (le_refl x.version), subst (λ (z : Death). z.stamp ≤ x.stamp) is (le_refl x.stamp))
up_to_last (x ∷ y ∷ xs) zero e r at =
    let is : x ≡ e = some-injective x e at in
    let h = up_to_last (y ∷ xs) zero y r.2 refl in
    let a = r.0 in let b = r.1 in
    let p : x.version ≤ last_version (y ∷ xs) = omega (arith, h.0) in
    let q : x.stamp ≤ last_stamp (y ∷ xs) = omega (arith, h.1) in
    (subst (λ (z : Death). z.version ≤ last_version (y ∷ xs)) is p, subst (λ (z : Death). z.stamp ≤ last_stamp (y ∷ xs)) is q)
up_to_last (x ∷ y ∷ xs) (suc k) e r at = up_to_last (y ∷ xs) k e r.2 at

-- the first of what rises is below each that follows, and its stamp not above
rises_first : (x : Death) (xs : List Death) (j : ℕ) (e : Death) → Rises (x ∷ xs) → get_elem? xs j ≡ some e → (x.version < e.version) × (x.stamp ≤ e.stamp)
rises_first x [] j e r at = absurd (some-ne-none e (sym at))
rises_first x (y ∷ ys) zero e r at = subst (λ (z : Death). (x.version < z.version) × (x.stamp ≤ z.stamp)) (some-injective y e at) (r.0, r.1)
rises_first x (y ∷ ys) (suc j) e r at =
    let h = rises_first y ys j e r.2 at in
    let a = r.0 in
    let b = r.1 in (omega (arith, h.0), omega (arith, h.1))

rises_rest : (x : Death) (xs : List Death) → Rises (x ∷ xs) → Rises xs
rises_rest x [] r = tt
rises_rest x (y ∷ ys) r = r.2

-- of two among what rises, the one of no greater version has no greater stamp
pub rises_both : (ds : List Death) (i j : ℕ) (d e : Death) → Rises ds → get_elem? ds i ≡ some d → get_elem? ds j ≡ some e → d.version ≤ e.version → d.stamp ≤ e.stamp
rises_both [] i j d e r at there low = absurd (some-ne-none d (sym at))
rises_both (x ∷ xs) zero zero d e r at there low = subst (λ (z : Death). d.stamp ≤ z.stamp) (sym (some-injective x d at) ∙ some-injective x e there) (le_refl d.stamp)
rises_both (x ∷ xs) zero (suc j) d e r at there low =
    let h = (rises_first x xs j e r there).1 in
    let is : x.stamp ≡ d.stamp = ap (λ (z : Death). z.stamp) (some-injective x d at) in omega arith
rises_both (x ∷ xs) (suc i) zero d e r at there low =
    let h = (rises_first x xs i d r at).0 in
    let is : x.version ≡ e.version = ap (λ (z : Death). z.version) (some-injective x e there) in absurd (omega arith)
rises_both (x ∷ xs) (suc i) (suc j) d e r at there low = rises_both xs i j d e (rises_rest x xs r) at there low

pub Rises-front : (es fs : List Death) → Rises (es ++ fs) → Rises es
Rises-front [] fs r = tt
Rises-front (x ∷ []) fs r = tt
Rises-front (x ∷ y ∷ xs) fs r = (r.0, r.1, Rises-front (y ∷ xs) fs r.2)

-- the last end is there
pub has_last : (es : List Death) → 0 < last_version es → (t : ℕ) × HasDeath es (last_version es) t
has_last [] h = absurd (omega arith)
has_last (x ∷ []) h = (x.stamp, (0, x, refl, refl, le_refl x.stamp))
has_last (x ∷ y ∷ xs) h = let t = has_last (y ∷ xs) h in (t.0, (suc t.1.0, t.1.1, t.1.2, t.1.3, t.1.4))

pub HasDeath-longer : (es fs : List Death) (v t : ℕ) → HasDeath es v t → HasDeath (es ++ fs) v t
HasDeath-longer es fs v t h = (h.0, h.1, at_longer es fs h.0 h.1 h.2, h.3, h.4)

-- a death of this slot stands among the deaths of this slot
pub among : (es : List Death) (k : ℕ) (e : Death) (shard slot : ℕ) → get_elem? es k ≡ some e → is_at shard slot e ≡ true → (j : ℕ) × (get_elem? (deaths_at shard slot es) j ≡ some e)
among [] k e d s at is = absurd (some-ne-none e (sym at))
among (x ∷ xs) zero e d s at is =
    let same : x ≡ e = some-injective x e at in
    let test : is_at d s x ≡ true = ap (is_at d s) same ∙ is in
    (0, subst (λ (b : Bool). get_elem? (cond b (x ∷ deaths_at d s xs) (deaths_at d s xs)) 0 ≡ some e) (sym test) at)
among (x ∷ xs) (suc k) e d s at is =
    let t = among xs k e d s at is in
    elim (is_at d s x) as (λ (b : Bool). (j : ℕ) × (get_elem? (cond b (x ∷ deaths_at d s xs) (deaths_at d s xs)) j ≡ some e)) [ true ↦ (suc t.0, t.1) | false ↦ t ]

from_cond : (b : Bool) (x : Death) (xs ys : List Death) (e : Death) (d s j : ℕ) → is_at d s x ≡ b
    → ((i : ℕ) → get_elem? ys i ≡ some e → (k : ℕ) × (get_elem? xs k ≡ some e) × (is_at d s e ≡ true))
    → get_elem? (cond b (x ∷ ys) ys) j ≡ some e → (k : ℕ) × (get_elem? (x ∷ xs) k ≡ some e) × (is_at d s e ≡ true)
from_cond true x xs ys e d s zero is more at = (0, at, sym (ap (is_at d s) (some-injective x e at)) ∙ is)
from_cond true x xs ys e d s (suc j) is more at = let t = more j at in (suc t.0, t.1, t.2)
from_cond false x xs ys e d s j is more at = let t = more j at in (suc t.0, t.1, t.2)

-- what stands among the deaths of a slot is one of the deaths, of that slot
pub from_among : (es : List Death) (j : ℕ) (e : Death) (shard slot : ℕ) → get_elem? (deaths_at shard slot es) j ≡ some e → (k : ℕ) × (get_elem? es k ≡ some e) × (is_at shard slot e ≡ true)
from_among [] j e d s at = absurd (some-ne-none e (sym at))
from_among (x ∷ xs) j e d s at = from_cond (is_at d s x) x xs (deaths_at d s xs) e d s j refl (λ i h. from_among xs i e d s h) at

skip_cond : (b c : Bool) (x : Death) (ys : List Death) → (b ≡ true → ⊥) → ys ≡ [] → cond (b && c) (x ∷ ys) ys ≡ []
skip_cond true c x ys off is = absurd (off refl)
skip_cond false c x ys off is = is

-- where no end is of this slot
pub none_at : (es : List Death) (shard slot : ℕ) → ((k : ℕ) (e : Death) → get_elem? es k ≡ some e → e.shard ≡ shard → ⊥) → deaths_at shard slot es ≡ []
none_at [] d s h = refl
none_at (x ∷ xs) d s h = skip_cond (eqb x.shard d) (eqb x.slot s) x (deaths_at d s xs) (λ is. h 0 x refl (eqb-true x.shard d is)) (none_at xs d s (λ k e at. h (suc k) e at))

pub at_up_from : (a n k d : ℕ) → get_elem? (up_from a n) k ≡ some d → d ≡ a + k
at_up_from a zero k d at = absurd (some-ne-none d (sym at))
at_up_from a (suc n) zero d at = let is = some-injective a d at in omega arith
at_up_from a (suc n) (suc k) d at = let h = at_up_from (suc a) n k d at in omega arith

pub stamp_last-push : (rs : List Read) (s : ℕ) (r : Read) → stamp_last s (rs ++ r ∷ []) ≡ rs ++ new_read r.shard r.slot r.version (Some s) ∷ []
stamp_last-push [] s r = refl
stamp_last-push (x ∷ []) s r = refl
stamp_last-push (x ∷ y ∷ rs) s r = ap (λ l. x ∷ l) (stamp_last-push (y ∷ rs) s r)

pub is_at-true : (e : Death) (shard slot : ℕ) → e.shard ≡ shard → e.slot ≡ slot → is_at shard slot e ≡ true
is_at-true e d s h g = subst (λ (b : Bool). b && eqb e.slot s ≡ true) (sym (eq-eqb e.shard d h)) (eq-eqb e.slot s g)

and_parts : (b c : Bool) → b && c ≡ true → (b ≡ true) × (c ≡ true)
and_parts true c h = (refl, h)
and_parts false c h = absurd (true≢false (sym h))

pub true-is_at : (e : Death) (shard slot : ℕ) → is_at shard slot e ≡ true → (e.shard ≡ shard) × (e.slot ≡ slot)
true-is_at e d s h = let t = and_parts (eqb e.shard d) (eqb e.slot s) h in (eqb-true e.shard d t.0, eqb-true e.slot s t.1)

-- the homes of a desk

pub times-append : (x : ℕ) (xs ys : List ℕ) → times_among x (xs ++ ys) ≡ times_among x xs + times_among x ys
times-append x [] ys = omega arith
times-append x (y ∷ xs) ys = let h = times-append x xs ys in omega arith

pub times_there : (x : ℕ) (xs : List ℕ) (k : ℕ) → get_elem? xs k ≡ some x → 1 ≤ times_among x xs
times_there x [] k at = absurd (some-ne-none x (sym at))
times_there x (y ∷ xs) zero at = let is : eqb y x ≡ true = eq-eqb y x (some-injective y x at) in let one : cond {A = ℕ} (eqb y x) 1 0 ≡ 1 = ap (λ (b : Bool). cond {A = ℕ} b 1 0) is in omega arith
times_there x (y ∷ xs) (suc k) at = let h = times_there x xs k at in omega arith

times_below : (x a n : ℕ) → x < a → times_among x (up_from a n) ≡ 0
times_below x a zero h = refl
times_below x a (suc n) h = let r = times_below x (suc a) n (omega arith) in let off : eqb a x ≡ false = ne_eqb a x (λ e. let is : a ≡ x = e in absurd (omega arith)) in let none : cond {A = ℕ} (eqb a x) 1 0 ≡ 0 = ap (λ (b : Bool). cond {A = ℕ} b 1 0) off in omega arith

times_cond : (b : Bool) (m : ℕ) → m ≤ 1 → (b ≡ true → m ≡ 0) → cond b 1 0 + m ≤ 1
times_cond true m h g = let z = g refl in omega arith
times_cond false m h g = omega arith

pub times-up_from : (x a n : ℕ) → times_among x (up_from a n) ≤ 1
times-up_from x a zero = omega arith
times-up_from x a (suc n) = times_cond (eqb a x) (times_among x (up_from (suc a) n)) (times-up_from x (suc a) n) (λ is. let same : a ≡ x = eqb-true a x is in times_below x (suc a) n (omega arith))

pub homes_of-set : (x : ℕ) (l : List View) (i : ℕ) (v w : View) → get_elem? l i ≡ some v → homes_of x (set l i w) + times_among x v.homes ≡ homes_of x l + times_among x w.homes
homes_of-set x [] i v w e = absurd (some-ne-none v (sym e))
homes_of-set x (u ∷ us) zero v w e = let is : times_among x u.homes ≡ times_among x v.homes = ap (λ (m : View). times_among x m.homes) (some-injective u v e) in omega arith
homes_of-set x (u ∷ us) (suc i) v w e = let r = homes_of-set x us i v w e in omega arith

pub homes_of-push : (x : ℕ) (l : List View) (w : View) → homes_of x (l ++ w ∷ []) ≡ homes_of x l + times_among x w.homes
homes_of-push x [] w = omega arith
homes_of-push x (u ∷ us) w = let r = homes_of-push x us w in omega arith

pub seats_there : (x : ℕ) (l : List View) (i : ℕ) (v : View) → get_elem? l i ≡ some v → times_among x v.homes ≤ homes_of x l
seats_there x [] i v e = absurd (some-ne-none v (sym e))
seats_there x (u ∷ us) zero v e = let is : times_among x u.homes ≡ times_among x v.homes = ap (λ (m : View). times_among x m.homes) (some-injective u v e) in omega arith
seats_there x (u ∷ us) (suc i) v e = let r = seats_there x us i v e in omega arith

pub two_seats : (x : ℕ) (l : List View) (i j : ℕ) (v w : View) → get_elem? l i ≡ some v → get_elem? l j ≡ some w → j ≢ i → times_among x v.homes + times_among x w.homes ≤ homes_of x l
two_seats x l i j v w at there apart =
    let a = homes_of-set x l i v (fresh_view []) at in
    let b = seats_there x (set l i (fresh_view [])) j w (set_else l i j (fresh_view []) apart ∙ there) in
    omega arith

pub up_from-cons : (k n : ℕ) → k < n → up_from k (n - k) ≡ k ∷ up_from (k + 1) (n - (k + 1))
up_from-cons k n h = let e : n - k ≡ suc (n - (k + 1)) = omega arith in let f : suc k ≡ k + 1 = omega arith in ap (up_from k) e ∙ ap (λ (z : ℕ). k ∷ up_from z (n - (k + 1))) f

up_from-last : (a n : ℕ) → up_from a (suc n) ≡ up_from a n ++ (a + n) ∷ []
up_from-last a zero = let e : a ≡ a + 0 = omega arith in ap (λ (z : ℕ). z ∷ []) e
up_from-last a (suc n) = let e : suc a + n ≡ a + suc n = omega arith in ap (λ l. a ∷ l) (up_from-last (suc a) n) ∙ ap (λ (z : ℕ). a ∷ (up_from (suc a) n ++ z ∷ [])) e

pub up_from-push : (n : ℕ) → up_from 0 (n + 1) ≡ up_from 0 n ++ n ∷ []
up_from-push n = let e : n + 1 ≡ suc n = omega arith in let f : 0 + n ≡ n = omega arith in ap (up_from 0) e ∙ up_from-last 0 n ∙ ap (λ (z : ℕ). up_from 0 n ++ z ∷ []) f

-- what a test leaves

module _ {A : Type 0} (P : A → Bool) where
  -- one of what passed was there, and passes
  pub from_filter : (xs : List A) (k : ℕ) (x : A) → get_elem? (filter P xs) k ≡ some x → (j : ℕ) × (get_elem? xs j ≡ some x) × (P x ≡ true)
  from_filter [] k x at = absurd (some-ne-none x (sym at))
  from_filter (y ∷ ys) k x at = go (P y) refl k at (λ i. from_filter ys i x)
    where
      go : (b : Bool) → P y ≡ b → (k : ℕ) → get_elem? (cond b (y ∷ filter P ys) (filter P ys)) k ≡ some x
          → ((i : ℕ) → get_elem? (filter P ys) i ≡ some x → (j : ℕ) × (get_elem? ys j ≡ some x) × (P x ≡ true)) → (j : ℕ) × (get_elem? (y ∷ ys) j ≡ some x) × (P x ≡ true)
      go true e zero at more = (0, at, sym (ap P (some-injective y x at)) ∙ e)
      go true e (suc k) at more = let t = more k at in (suc t.0, t.1, t.2)
      go false e k at more = let t = more k at in (suc t.0, t.1, t.2)

-- what a test leaves, after another that all these pass
pub filter_kept : (P Q : Death → Bool) (ds : List Death) → ((d : Death) → Q d ≡ true → P d ≡ true) → filter Q (filter P ds) ≡ filter Q ds
filter_kept P Q [] pass = refl
filter_kept P Q (d ∷ ds) pass = go (P d) refl (Q d) refl (filter_kept P Q ds pass)
  where
    go : (b : Bool) → P d ≡ b → (c : Bool) → Q d ≡ c → filter Q (filter P ds) ≡ filter Q ds → filter Q (cond b (d ∷ filter P ds) (filter P ds)) ≡ cond c (d ∷ filter Q ds) (filter Q ds)
    go true e c f rest = ap (λ (z : Bool). cond z (d ∷ filter Q (filter P ds)) (filter Q (filter P ds))) f ∙ ap (λ l. cond c (d ∷ l) l) rest
    go false e true f rest = absurd (true≢false (sym (pass d f) ∙ e))
    go false e false f rest = rest

-- the deaths of a slot, after a test that they all pass
pub deaths_kept : (P : Death → Bool) (x y : ℕ) (ds : List Death) → ((d : Death) → is_at x y d ≡ true → P d ≡ true) → deaths_at x y (filter P ds) ≡ deaths_at x y ds
deaths_kept P x y ds pass = filter_kept P (is_at x y) ds pass

-- what holds of each death, and of none, holds of the last stamp
pub last_stamp_up_to : (n : ℕ) (ds : List Death) → ((k : ℕ) (d : Death) → get_elem? ds k ≡ some d → d.stamp ≤ n) → last_stamp ds ≤ n
last_stamp_up_to n [] h = omega arith
last_stamp_up_to n (d ∷ []) h = h 0 d refl
last_stamp_up_to n (d ∷ e ∷ ds) h = last_stamp_up_to n (e ∷ ds) (λ k z at. h (suc k) z at)
