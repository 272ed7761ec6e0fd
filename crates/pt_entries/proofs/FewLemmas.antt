-- Entries in a vector, by the place of the first whose key passes.
use Rattle.std.proofs.Common.{◌≡◌, ℕ, zero, suc, ◌+◌, ◌<◌, ◌≤◌, Bool, true, false, not, cond, ltb, List, [], ◌∷◌, ◌++◌, length, length-append, slice_get, slice_set, position, remove, take, refl, sym, ap, subst, ◌∙◌, arith, Option, Some, None, is_some, unwrap_or}
use Rattle.std.specs.Cmp.{IsEquivalence}
use Rattle.std.specs.List.{find, position_or_len, IsDistinct, AllByRecursion}
use Rattle.std.specs.Option.{option_map}
use Rattle.std.specs.Map.{lookup, remove_entry, set_value, keys_of}
use Rattle.std.proofs.lemmas.Bool.{ltb-true}
use Rattle.std.proofs.lemmas.Bool.Decides.{nat_tests}
use Rattle.std.proofs.lemmas.List.Folds.{find_at}
use Rattle.std.proofs.lemmas.Option.{slice_get_past}
use Rattle.std.proofs.lemmas.List.{map-append}
use Rattle.std.proofs.lemmas.Map.{keys-set_value, length-set_value}
use Rattle.std.proofs.lemmas.Map.Keys.{IsDistinct-push, IsDistinct-head, IsDistinct-tail}
use Rattle.pt_entries.proofs.MapLemmas.{any-keys_of, length-remove_entry}

module _ {K V : Type 0} (test : K → Bool) where
  abbrev of_entry : K × V → Bool
  of_entry e = test e.0

  -- the first entry whose key passes stands at this place
  abbrev pub IsFirstAt : List (K × V) → ℕ → Type 0
  IsFirstAt [] i = ⊥
  IsFirstAt (e ∷ es) zero = test e.0 ≡ true
  IsFirstAt (e ∷ es) (suc i) = (test e.0 ≡ false) × IsFirstAt es i

  first_step : (b : Bool) (e : K × V) (es : List (K × V)) (n : ℕ) → test e.0 ≡ b → cond (not b) (1 + n) 0 < suc (length es) → (n < length es → IsFirstAt es n)
      → IsFirstAt (e ∷ es) (cond (not b) (1 + n) 0)
  first_step true e es n is within below = is
  first_step false e es n is within below =
      let more : suc n ≡ 1 + n = omega arith in
      subst (IsFirstAt (e ∷ es)) more (is, below (omega arith))

  first_within : (es : List (K × V)) → position_or_len of_entry es < length es → IsFirstAt es (position_or_len of_entry es)
  first_within [] within = absurd (omega arith)
  first_within (e ∷ es) within = first_step (test e.0) e es _ refl within (first_within es)

  first_found : (es : List (K × V)) (n i : ℕ) (b : Bool) → ltb n (length es) ≡ b → cond b (Some n) None ≡ Some i → (n < length es → IsFirstAt es n) → IsFirstAt es i
  first_found es n i true lt at first =
      let same : n ≡ i = ap (λ o. unwrap_or o n) at in
      subst (IsFirstAt es) same (first (ltb-true n (length es) lt))
  first_found es n i false lt at first = cc

  pub first_from_position : (es : List (K × V)) (i : ℕ) → position of_entry es ≡ Some i → IsFirstAt es i
  first_from_position es i at = first_found es (position_or_len of_entry es) i _ refl at (first_within es)

  pub first-within : (es : List (K × V)) (i : ℕ) → IsFirstAt es i → i < length es
  first-within [] i h = absurd h
  first-within (e ∷ es) zero h = omega arith
  first-within (e ∷ es) (suc i) h = omega (arith, first-within es i h.1)

  pub first-lookup : (es : List (K × V)) (i : ℕ) (e : K × V) → IsFirstAt es i → slice_get es i ≡ Some e → lookup test es ≡ Some e.1
  first-lookup [] i d h at = absurd h
  first-lookup (e ∷ es) zero d h at = rw h (ap (option_map (λ f. f.1)) at)
  first-lookup (e ∷ es) (suc i) d h at = rw h.0 (first-lookup es i d h.1 at)

  pub first-remove : (es : List (K × V)) (i : ℕ) → IsFirstAt es i → remove_entry test es ≡ remove es i
  first-remove [] i h = absurd h
  first-remove (e ∷ es) zero h = rw h refl
  first-remove (e ∷ es) (suc i) h = rw h.0 (ap (λ fs. e ∷ fs) (first-remove es i h.1))

  pub first-set : (es : List (K × V)) (i : ℕ) (e : K × V) (w : V) → IsFirstAt es i → slice_get es i ≡ Some e → set_value test es w ≡ slice_set es i (e.0, w)
  first-set [] i d w h at = absurd h
  first-set (e ∷ es) zero d w h at = rw h (ap (λ o. ((unwrap_or o e).0, w) ∷ es) at)
  first-set (e ∷ es) (suc i) d w h at = rw h.0 (ap (λ fs. e ∷ fs) (first-set es i d w h.1 at))

  find_step : (b : Bool) (e : K × V) (r : Option (K × V)) → cond b (Some e.1) (option_map (λ f. f.1) r) ≡ option_map (λ f. f.1) (cond b (Some e) r)
  find_step true e r = refl
  find_step false e r = refl

  lookup-find : (es : List (K × V)) → lookup test es ≡ option_map (λ f. f.1) (find of_entry es)
  lookup-find [] = refl
  lookup-find (e ∷ es) = ap (cond (test e.0) (Some e.1)) (lookup-find es) ∙ find_step (test e.0) e _

  none_past : (es : List (K × V)) (n : ℕ) (b : Bool) → ltb n (length es) ≡ b → cond b (Some n) None ≡ None → slice_get es n ≡ None
  none_past es n true lt none = cc
  none_past es n false lt none =
      let past : length es ≤ n = grind (arith, nat_tests) in
      slice_get_past es n past

  pub lookup-no_place : (es : List (K × V)) → position of_entry es ≡ None → lookup test es ≡ None
  lookup-no_place es none =
      lookup-find es ∙ ap (option_map (λ f. f.1)) (find_at of_entry es ∙ none_past es (position_or_len of_entry es) _ refl none)

module _ {K V : Type 0} {eq : K → K → Bool} (laws : IsEquivalence eq) where
  all_at : (P : K → Type 0) (es : List (K × V)) (i : ℕ) (e : K × V) → AllByRecursion P (keys_of es) → slice_get es i ≡ Some e → P e.0
  all_at P [] i e all at = cc
  all_at P (d ∷ es) zero e all at = subst P (ap (λ o. (unwrap_or o d).0) at) all.0
  all_at P (d ∷ es) (suc i) e all at = all_at P es i e all.1 at

  -- before its entry a key is not there
  pub absent_before : (es : List (K × V)) (i : ℕ) (e : K × V) → IsDistinct eq (keys_of es) → slice_get es i ≡ Some e → lookup (eq e.0) (take i es) ≡ None
  absent_before [] i e distinct at = cc
  absent_before (d ∷ es) zero e distinct at = refl
  absent_before (d ∷ es) (suc i) e distinct at =
      let apart : eq e.0 d.0 ≡ false = laws.symm e.0 d.0 ∙ all_at (λ k. eq d.0 k ≡ false) es i e (IsDistinct-head eq d.0 (keys_of es) distinct) at in
      rw apart (absent_before es i e (IsDistinct-tail eq d.0 (keys_of es) distinct) at)

  -- a removal and a new key leave the keys distinct
  all_removed_step : (P : K → Type 0) (b : Bool) (e : K × V) (es rest : List (K × V)) → P e.0 → AllByRecursion P (keys_of es) → AllByRecursion P (keys_of rest) → AllByRecursion P (keys_of (cond b es (e ∷ rest)))
  all_removed_step P true e es rest here all below = all
  all_removed_step P false e es rest here all below = (here, below)

  all_removed : (P : K → Type 0) (test : K → Bool) (es : List (K × V)) → AllByRecursion P (keys_of es) → AllByRecursion P (keys_of (remove_entry test es))
  all_removed P test [] all = tt
  all_removed P test (e ∷ es) all = all_removed_step P (test e.0) e es _ all.0 all.1 (all_removed P test es all.1)

  distinct_removed_step : (b : Bool) (e : K × V) (es rest : List (K × V)) → IsDistinct eq (keys_of (e ∷ es)) → AllByRecursion (λ k. eq e.0 k ≡ false) (keys_of rest) → IsDistinct eq (keys_of rest)
      → IsDistinct eq (keys_of (cond b es (e ∷ rest)))
  unfolding IsDistinct
  distinct_removed_step true e es rest distinct apart below = distinct.1
  distinct_removed_step false e es rest distinct apart below = (apart, below)

  pub IsDistinct-remove_entry : (test : K → Bool) (es : List (K × V)) → IsDistinct eq (keys_of es) → IsDistinct eq (keys_of (remove_entry test es))
  unfolding IsDistinct
  IsDistinct-remove_entry test [] distinct = tt
  IsDistinct-remove_entry test (e ∷ es) distinct =
      distinct_removed_step (test e.0) e es _ distinct (all_removed (λ k. eq e.0 k ≡ false) test es distinct.0) (IsDistinct-remove_entry test es distinct.1)

  pub IsDistinct-added : (es : List (K × V)) (k : K) (v : V) → IsDistinct eq (keys_of es) → lookup (eq k) es ≡ None → IsDistinct eq (keys_of (es ++ (k, v) ∷ []))
  IsDistinct-added es k v distinct none =
      subst (IsDistinct eq) (sym (map-append (λ e. e.0) es ((k, v) ∷ []))) (IsDistinct-push laws (keys_of es) k distinct (sym (any-keys_of (eq k) es) ∙ ap is_some none))

  -- a few that are distinct stay so where one takes a value, and where one goes
  pub set_held : (test : K → Bool) (few new : List (K × V)) (w : V) → new ≡ set_value test few w → (length few ≤ 8) × IsDistinct eq (keys_of few) → (length new ≤ 8) × IsDistinct eq (keys_of new)
  set_held test few new w is held = (
    omega (arith, held.0, ap length is, length-set_value test few w),
    subst (IsDistinct eq) (sym (ap keys_of is ∙ keys-set_value test few w)) held.1,
  )

  pub gone_held : (test : K → Bool) (few new : List (K × V)) → new ≡ remove_entry test few → (length few ≤ 8) × IsDistinct eq (keys_of few) → (length new ≤ 8) × IsDistinct eq (keys_of new)
  gone_held test few new is held = (
    omega (arith, held.0, ap length is, length-remove_entry test few),
    subst (λ es. IsDistinct eq (keys_of es)) (sym is) (IsDistinct-remove_entry test few held.1),
  )

  -- and where one is added
  pub added_held : (few new : List (K × V)) (k : K) (v : V) → new ≡ few ++ (k, v) ∷ [] → length few < 8 → lookup (eq k) few ≡ None → IsDistinct eq (keys_of few) → (length new ≤ 8) × IsDistinct eq (keys_of new)
  added_held few new k v is short none distinct = (
    omega (arith, ap length is, length-append few ((k, v) ∷ [])),
    subst (λ es. IsDistinct eq (keys_of es)) (sym is) (IsDistinct-added few k v distinct none),
  )
