-- Lives by slot and version.
use Rattle.std.proofs.Common.{◌≡◌, ℕ, zero, suc, ◌+◌, ◌-◌, ◌<◌, ◌≤◌, ◌==◌, ◌&&◌, Bool, true, false, cond, Option, Some, None, List, [], ◌∷◌, ◌++◌, length, set, get_or, slice_get, refl, ap, sym, ◌∙◌, subst, arith}
use Rattle.std.proofs.lemmas.Bool.{eqb-true, eq-eqb, eqb-false, ne_eqb}
use Rattle.std.specs.Option.{option_map}
use Rattle.pt_accounts.specs.LifeState.{LifeState}
use Rattle.pt_accounts.specs.Table.{Slots, of_version, slot_at, life_at}

zero_suc : (j : ℕ) → (0 == suc j) ≡ false
zero_suc j = ne_eqb 0 (suc j) (λ e. omega arith)

suc_zero : (j : ℕ) → (suc j == 0) ≡ false
suc_zero j = ne_eqb (suc j) 0 (λ e. omega arith)

suc_suc : (i j : ℕ) → (suc i == suc j) ≡ (i == j)
suc_suc i j = go (i == j) refl
  where
    go : (b : Bool) → (i == j) ≡ b → (suc i == suc j) ≡ (i == j)
    go true e = let k : i ≡ j = eqb-true i j e in rw (e, eq-eqb (suc i) (suc j) (ap suc k)) refl
    go false e = rw (e, ne_eqb (suc i) (suc j) (λ h. eqb-false i j e (omega arith))) refl

slice_get-set : {X : Type 0} (xs : List X) (i j : ℕ) (y : X) → i < length xs → slice_get (set xs i y) j ≡ cond (i == j) (Some y) (slice_get xs j)
slice_get-set [] i j y h = absurd (omega arith)
slice_get-set (x ∷ xs) zero zero y h = refl
slice_get-set (x ∷ xs) zero (suc j) y h = rw zero_suc refl
slice_get-set (x ∷ xs) (suc i) zero y h = rw suc_zero refl
slice_get-set (x ∷ xs) (suc i) (suc j) y h = rw suc_suc (slice_get-set xs i j y (omega arith))

pub slice_get-here : {X : Type 0} (xs : List X) (i : ℕ) (d : X) → i < length xs → slice_get xs i ≡ Some (get_or xs i d)
slice_get-here [] i d h = absurd (omega arith)
slice_get-here (x ∷ xs) zero d h = refl
slice_get-here (x ∷ xs) (suc i) d h = slice_get-here xs i d (omega arith)

pub slice_get-past : {X : Type 0} (xs : List X) (i : ℕ) → length xs ≤ i → slice_get xs i ≡ None
slice_get-past [] i h = refl
slice_get-past (x ∷ xs) zero h = absurd (omega arith)
slice_get-past (x ∷ xs) (suc i) h = slice_get-past xs i (omega arith)

pub slice_get-push : {X : Type 0} (xs : List X) (y : X) (i : ℕ) → slice_get (xs ++ y ∷ []) i ≡ cond (length xs == i) (Some y) (slice_get xs i)
slice_get-push [] y zero = refl
slice_get-push [] y (suc i) = rw zero_suc refl
slice_get-push (x ∷ xs) y zero = rw suc_zero refl
slice_get-push (x ∷ xs) y (suc i) = rw suc_suc (slice_get-push xs y i)

-- the version is one of the slot's
pub seen_version : (xs : List LifeState) (version : ℕ) (f : LifeState → LifeState) (x y : LifeState) → (version ≡ 0 → ⊥) → version - 1 < length xs
    → x ≡ get_or xs (version - 1) x → y ≡ f x
    → (v : ℕ) → of_version (set xs (version - 1) y) v ≡ cond (version == v) (option_map f (of_version xs v)) (of_version xs v)
seen_version xs zero f x y n h e k v = absurd (n refl)
seen_version xs (suc i) f x y n h e k zero = rw suc_zero refl
seen_version xs (suc i) f x y n h e k (suc j) =
    let l : i < length xs = omega arith in
    let n : suc i - 1 ≡ i = omega arith in
    let a : x ≡ get_or xs i x = rw n at e in
    rw (n, suc_suc) (slice_get-set xs i j y l ∙ go (i == j) refl a)
  where
    go : (b : Bool) → (i == j) ≡ b → x ≡ get_or xs i x → cond (i == j) (Some y) (slice_get xs j) ≡ cond (i == j) (option_map f (slice_get xs j)) (slice_get xs j)
    go false m a = rw m refl
    go true m a =
        let same : i ≡ j = eqb-true i j m in
        let here : slice_get xs j ≡ Some x = subst (λ z. slice_get xs z ≡ Some x) same (slice_get-here xs i x (omega arith) ∙ ap Some (sym a)) in
        rw (m, here, k) refl

-- it is not
pub unseen_version : (xs : List LifeState) (version : ℕ) (f : LifeState → LifeState) → (version ≡ 0 → ⊥) → length xs ≤ version - 1
    → (v : ℕ) → of_version xs v ≡ cond (version == v) (option_map f (of_version xs v)) (of_version xs v)
unseen_version xs zero f n h v = absurd (n refl)
unseen_version xs (suc i) f n h zero = rw suc_zero refl
unseen_version xs (suc i) f n h (suc j) = rw suc_suc (go (i == j) refl)
  where
    go : (b : Bool) → (i == j) ≡ b → slice_get xs j ≡ cond (i == j) (option_map f (slice_get xs j)) (slice_get xs j)
    go false m = rw m refl
    go true m =
        let same : i ≡ j = eqb-true i j m in
        let none : slice_get xs j ≡ None = slice_get-past xs j (omega arith) in
        rw (m, none) refl

pub slot_at-set : (slots : Slots) (i s : ℕ) (lives : List LifeState) → i < length slots → slot_at (set slots i lives) s ≡ cond (i == s) lives (slot_at slots s)
slot_at-set [] i s lives h = absurd (omega arith)
slot_at-set (l ∷ slots) zero zero lives h = refl
slot_at-set (l ∷ slots) zero (suc s) lives h = rw zero_suc refl
slot_at-set (l ∷ slots) (suc i) zero lives h = rw suc_zero refl
slot_at-set (l ∷ slots) (suc i) (suc s) lives h = rw suc_suc (slot_at-set slots i s lives (omega arith))

pub slot_at-past : (slots : Slots) (s : ℕ) → length slots ≤ s → slot_at slots s ≡ []
slot_at-past [] s h = refl
slot_at-past (l ∷ slots) zero h = absurd (omega arith)
slot_at-past (l ∷ slots) (suc s) h = slot_at-past slots s (omega arith)

none_of_none : (v : ℕ) → of_version [] v ≡ None
none_of_none zero = refl
none_of_none (suc v) = refl

get_or-any : {X : Type 0} (xs : List X) (i : ℕ) (c d : X) → i < length xs → get_or xs i c ≡ get_or xs i d
get_or-any [] i c d h = absurd (omega arith)
get_or-any (x ∷ xs) zero c d h = refl
get_or-any (x ∷ xs) (suc i) c d h = get_or-any xs i c d (omega arith)

-- the slot is one of the table's, and its lives are changed in one version
pub at_changed : (slots : Slots) (i w : ℕ) (old new : List LifeState) (f : Option LifeState → Option LifeState) → i < length slots → old ≡ slot_at slots i
    → ((v : ℕ) → of_version new v ≡ cond (w == v) (f (of_version old v)) (of_version old v))
    → (s v : ℕ) → life_at (set slots i new) s v ≡ cond ((i == s) && (w == v)) (f (life_at slots s v)) (life_at slots s v)
at_changed slots i w old new f h e k s v = ap (λ z. of_version z v) (slot_at-set slots i s new h) ∙ go (i == s) refl
  where
    go : (b : Bool) → (i == s) ≡ b → of_version (cond (i == s) new (slot_at slots s)) v ≡ cond ((i == s) && (w == v)) (f (life_at slots s v)) (life_at slots s v)
    go false m = rw m refl
    go true m =
        let same : i ≡ s = eqb-true i s m in
        let here : slot_at slots s ≡ old = subst (λ z. slot_at slots z ≡ old) same (sym e) in
        rw (m, here) (k v)

-- the next version of a slot
pub version_push : (lives : List LifeState) (l : LifeState) (w : ℕ) → w ≡ length lives + 1
    → (v : ℕ) → of_version (lives ++ l ∷ []) v ≡ cond (w == v) (Some l) (of_version lives v)
version_push lives l zero e v = absurd (omega arith)
version_push lives l (suc w) e zero = rw suc_zero refl
version_push lives l (suc w) e (suc v) = let k : w ≡ length lives = omega arith in rw (suc_suc, k) (slice_get-push lives l v)
