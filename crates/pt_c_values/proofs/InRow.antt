-- Handles in a row: what they have, before one of them changes and after.
use Rattle.std.proofs.Common.{◌≡◌, ℕ, ◌+◌, ◌≤◌, ◌<◌, ◌-◌, Bool, true, false, List, [], ◌∷◌, ◌++◌, Option, Some, None, length, map, set, get_or, refl, sym, ap, ◌∙◌, arith}
use Rattle.std.specs.Prelude.{replicate, is_some, IsSome, cond}
use Rattle.std.specs.Option.{option_map}
use mir.Val.{bool_byte}
use Rattle.std.proofs.lemmas.List.{set-append_right, append_assoc, length-append, length-map, length-replicate, get_or-map, map-set, replicate_more}
use Rattle.pt_c_values.specs.Places.{HandlePlace, value_behind, values, had, full}

module _ {X : Type 0} where
  pub set_at : (pre : List X) (x : X) (post : List X) (k : ℕ) (y : X) → length pre ≡ k → set (pre ++ x ∷ post) k y ≡ pre ++ y ∷ post
  set_at pre x post k y is =
      set-append_right pre (x ∷ post) k k y is (omega arith) ∙ ap (λ n. pre ++ set (x ∷ post) n y) (let e : k - k ≡ 0 = omega arith in e)

  pub get_at : (pre : List X) (x : X) (post : List X) (k : ℕ) (d : X) → length pre ≡ k → get_or (pre ++ x ∷ post) k d ≡ x
  get_at [] x post k d is = ap (λ n. get_or (x ∷ post) n d) (sym is)
  get_at (y ∷ pre) x post k d is = ap (λ n. get_or (y ∷ (pre ++ x ∷ post)) n d) (sym is) ∙ get_at pre x post (length pre) d refl

  pub last_of : (xs : List X) (n : ℕ) → length xs ≡ n + 1 → (pre : List X) × (x : X) × (xs ≡ pre ++ x ∷ []) × (length pre ≡ n)
  last_of [] n is = absurd (omega (arith, is))
  last_of (x ∷ []) n is = ([], x, refl, omega (arith, is))
  last_of (x ∷ y ∷ ys) n is = let r = last_of (y ∷ ys) (n - 1) (omega (arith, is)) in (x ∷ r.0, r.1, ap (λ zs. x ∷ zs) r.2, omega (arith, is, r.3))

  pub first_of : (xs : List X) → 0 < length xs → (x : X) × (rest : List X) × (xs ≡ x ∷ rest)
  first_of [] is = absurd (omega (arith, is))
  first_of (x ∷ xs) is = (x, xs, refl)

pub byte_is : (b : Bool) → bool_byte b ≡ cond b 1 0
byte_is true = refl
byte_is false = refl

pub one_at_most : (b : Bool) → cond b 1 0 ≤ 1
one_at_most true = omega arith
one_at_most false = omega arith

module _ {A B : Type 0} (f : A → B) where
  pub some_from : (o : Option A) (b : B) → option_map f o ≡ Some b → IsSome o
  some_from (Some a) b is = search
  some_from None b is = absurd (cc is)

  pub told_by : (o : Option A) (a : A) (b : B) → o ≡ Some a → option_map f o ≡ Some b → f a ≡ b
  told_by o a b is told = some_same (f a) b (sym (ap (option_map f) is) ∙ told)
    where
      some_same : (x y : B) → Some x ≡ Some y → x ≡ y
      some_same x y e = cc e

module _ {S : Type 0} where
  had_length : (o : Option S) (rest : List S) → length (had o rest) ≡ length rest + cond (is_some o) 1 0
  had_length (Some s) rest = omega arith
  had_length None rest = omega arith

  pub values_snoc : (seen : List (HandlePlace S)) (p : HandlePlace S) → length (values (seen ++ p ∷ [])) ≡ length (values seen) + cond (is_some (value_behind p)) 1 0
  values_snoc [] p = had_length (value_behind p) []
  values_snoc (q ∷ seen) p =
      omega (arith, had_length (value_behind q) (values (seen ++ p ∷ [])), had_length (value_behind q) (values seen), values_snoc seen p)

  pub values_few : (places : List (HandlePlace S)) → length (values places) ≤ length places
  values_few [] = omega arith
  values_few (p ∷ places) = few (value_behind p) (values_few places)
    where
      few : (o : Option S) → length (values places) ≤ length places → length (had o (values places)) ≤ length (p ∷ places)
      few (Some s) h = omega (arith, h)
      few None h = omega (arith, h)

  -- where all of them have something, the first has
  pub first_value : (p : HandlePlace S) (places : List (HandlePlace S)) → length (values (p ∷ places)) ≡ length (p ∷ places) → (s : S) × (value_behind p ≡ Some s)
  first_value p places all = one (value_behind p) refl
    where
      one : (o : Option S) → value_behind p ≡ o → (s : S) × (value_behind p ≡ Some s)
      one (Some s) is = (s, is)
      one None is = absurd (omega (arith, values_few places, sym (ap (λ o. length (had o (values places))) is) ∙ all))

module _ {H S : Type 0} (st : H → HandlePlace S) where
  -- the last of those that are not filled yet gets s
  pub filled_more :
      (hs : List H) (pre : List (HandlePlace S)) (done rest whole : List S) (s : S) (h : H) (k : ℕ)
      → map st hs ≡ pre ++ map full done → (rest ++ s ∷ []) ++ done ≡ whole → length pre ≡ length rest + 1 → k ≡ length rest → st h ≡ full s
      → (pre' : List (HandlePlace S)) × (done' : List S) × (map st (set hs k h) ≡ pre' ++ map full done') × (rest ++ done' ≡ whole) × (length pre' ≡ length rest)
  filled_more hs pre done rest whole s h k are is long at new =
      let l = last_of pre (length rest) long in
      let split : map st hs ≡ l.0 ++ l.1 ∷ map full done = are ∙ ap (λ z. z ++ map full done) l.2 ∙ append_assoc l.0 (l.1 ∷ []) (map full done) in (
        l.0,
        s ∷ done,
        map-set st hs k h ∙ ap (λ z. set z k (st h)) split ∙ set_at l.0 l.1 (map full done) k (st h) (l.3 ∙ sym at) ∙ ap (λ z. l.0 ++ z ∷ map full done) new,
        sym (append_assoc rest (s ∷ []) done) ∙ is,
        l.3,
      )

  -- the handle at k is the first of the rest
  pub at_first :
      (hs : List H) (pre rest : List (HandlePlace S)) (k : ℕ) (h : H)
      → map st hs ≡ pre ++ rest → length pre ≡ k → k < length hs → h ≡ get_or hs k h
      → (rest' : List (HandlePlace S)) × (rest ≡ st h ∷ rest')
  at_first hs pre rest k h are long within is =
      let count : length hs ≡ length pre + length rest = sym (length-map hs st) ∙ ap length are ∙ length-append pre rest in
      let f = first_of rest (omega (arith, count, long, within)) in
      let here : st h ≡ f.0 =
      ap st is ∙ sym (get_or-map st hs k h (st h) within) ∙ ap (λ z. get_or z k (st h)) (are ∙ ap (λ z. pre ++ z) f.2) ∙ get_at pre f.0 f.1 k (st h) long in
      (f.1, f.2 ∙ ap (λ z. z ∷ f.1) (sym here))

  -- it is changed, and all others stay
  pub changed :
      (hs : List H) (pre rest : List (HandlePlace S)) (k : ℕ) (h : H)
      → map st hs ≡ pre ++ rest → length pre ≡ k → k < length hs → h ≡ get_or hs k h
      → (rest' : List (HandlePlace S)) × (rest ≡ st h ∷ rest') × ((h' : H) → map st (set hs k h') ≡ pre ++ st h' ∷ rest')
  changed hs pre rest k h are long within is =
      let f = at_first hs pre rest k h are long within is in (
        f.0,
        f.1,
        λ h'. map-set st hs k h' ∙ ap (λ z. set z k (st h')) (are ∙ ap (λ z. pre ++ z) f.1) ∙ set_at pre (st h) f.0 k (st h') long,
      )

  pub counted :
      (hs : List H) (whole seen rest : List (HandlePlace S)) (k count : ℕ) (h h' : H)
      → map st hs ≡ whole → whole ≡ seen ++ rest → length seen ≡ k → count ≡ length (values seen) → k < length hs → h ≡ get_or hs k h → st h' ≡ st h
      → (map st (set hs k h') ≡ whole)
      × ((seen' : List (HandlePlace S)) × (rest' : List (HandlePlace S))
      × (whole ≡ seen' ++ rest') × (length seen' ≡ k + 1) × (count + cond (is_some (value_behind (st h))) 1 0 ≡ length (values seen')))
  counted hs whole seen rest k count h h' are split long counts within is same =
      let f = at_first hs seen rest k h (are ∙ split) long within is in
      let whole_is : whole ≡ seen ++ st h ∷ f.0 = split ∙ ap (λ z. seen ++ z) f.1 in (
        map-set st hs k h' ∙ ap (λ z. set z k (st h')) (are ∙ whole_is) ∙ set_at seen (st h) f.0 k (st h') long ∙ ap (λ z. seen ++ z ∷ f.0) same ∙ sym whole_is,
        (
          seen ++ st h ∷ [],
          f.0,
          whole_is ∙ sym (append_assoc seen (st h ∷ []) f.0),
          length-append seen (st h ∷ []) ∙ ap (λ n. n + 1) long,
          ap (λ n. n + cond (is_some (value_behind (st h))) 1 0) counts ∙ sym (values_snoc seen (st h)),
        ),
      )

  pub emptied :
      (hs : List H) (rest : List (HandlePlace S)) (k n : ℕ) (h : H) (list whole : List S)
      → map st hs ≡ replicate k None ++ rest → list ++ values rest ≡ whole → length (values rest) ≡ length rest → k + length rest ≡ n → k < length hs → h ≡ get_or hs k h
      → (s : S) × (value_behind (st h) ≡ Some s)
      × ((h' : H) → st h' ≡ None
      → (rest' : List (HandlePlace S)) × (map st (set hs k h') ≡ replicate (k + 1) None ++ rest') × ((list ++ s ∷ []) ++ values rest' ≡ whole)
      × (length (values rest') ≡ length rest') × (k + 1 + length rest' ≡ n))
  emptied hs rest k n h list whole are split all count within is =
      let long = length-replicate k None in
      let f = at_first hs (replicate k None) rest k h are long within is in
      let rest_is : rest ≡ st h ∷ f.0 = f.1 in
      let first = first_value (st h) f.0 (ap (λ z. length (values z)) (sym rest_is) ∙ all ∙ ap length rest_is) in
      let more : values rest ≡ first.0 ∷ values f.0 = ap values rest_is ∙ ap (λ o. had o (values f.0)) first.1 in (
        first.0,
        first.1,
        λ h' none. (
          f.0,
          map-set st hs k h' ∙ ap (λ z. set z k (st h')) (are ∙ ap (λ z. replicate k None ++ z) rest_is) ∙ set_at (replicate k None) (st h) f.0 k (st h') long ∙ ap (λ z. replicate k None ++ z ∷ f.0) none
              ∙ sym (append_assoc (replicate k None) (None ∷ []) f.0) ∙ ap (λ z. z ++ f.0) (replicate_more k None),
          append_assoc list (first.0 ∷ []) (values f.0) ∙ ap (λ z. list ++ z) (sym more) ∙ split,
          omega (arith, ap length more, all, ap length rest_is),
          omega (arith, ap length rest_is, count),
        ),
      )
