-- The queue has room for all members that do not stand in it.
use Rattle.std.proofs.Common.{◌≡◌, ℕ, zero, suc, ◌+◌, ◌<◌, ◌≤◌, Bool, true, false, cond, List, [], ◌∷◌, length, slice_get, Option, Some, None, Result, Ok, Err, OnErr, refl, sym, ap, ◌∙◌, arith}
use Rattle.std.specs.Prelude.{IsOk, is_err}
use Rattle.std.specs.List.{position, sum_by, swap_remove}
use Rattle.std.specs.Map.{keys_of}
use Rattle.std.specs.Option.{option_map_or}
use Rattle.std.proofs.lemmas.List.Sums.{sum_by-cons, sum_by-swap_remove}
use Rattle.indexmap.specs.IndexMap.{insert_entry, swap_remove_entry}
use Rattle.indexmap.specs.Layout.{set_value_at}
use Rattle.indexmap.proofs.MapLemmas.{Found-position}
use Rattle.pt_signal.specs.declared.pid.Pid.{Pid}
use Rattle.pt_crew.specs.declared.crew.Member.{Member}
use Rattle.pt_crew.specs.Crews.{unmarked}
use Rattle.pt_behaviour.proofs.Cases.{same_some}

abbrev pub bare : {B : Type 0} → Member B → ℕ
bare m = cond m.queued 0 1

pub at_most_one : (b : Bool) → cond b 0 1 ≤ 1
at_most_one true = omega arith
at_most_one false = omega arith

module _ {B : Type 0} where
  pub unmarked_set : (es : List (Pid × Member B)) (i : ℕ) (k : Pid) (v w : Member B) → slice_get es i ≡ Some (k, v) → unmarked (set_value_at es i w) + bare v ≡ unmarked es + bare w
  unmarked_set [] i k v w at = absurd (cc)
  unmarked_set (e ∷ es) zero k v w at =
      let same : e ≡ (k, v) = same_some e (k, v) at in
      let b : bare e.1 ≡ bare v = ap (λ (x : Pid × Member B). bare x.1) same in
      omega (arith, b)
  unmarked_set (e ∷ es) (suc i) k v w at = let ih = unmarked_set es i k v w at in omega (arith, ih)

  pub unmarked_all : (es : List (Pid × Member B)) → unmarked es ≤ length es
  unmarked_all [] = omega arith
  unmarked_all (e ∷ es) = let ih = unmarked_all es in let b = at_most_one e.1.queued in omega (arith, ih, b)

  unmarked_sum : (es : List (Pid × Member B)) → unmarked es ≡ sum_by (λ e. bare e.1) es
  unmarked_sum [] = refl
  unmarked_sum (e ∷ es) = ap (λ n. bare e.1 + n) (unmarked_sum es) ∙ sym (sum_by-cons (λ (x : Pid × Member B). bare x.1) e es)

  pub unmarked_swap : (t : Pid → Bool) (es : List (Pid × Member B)) → unmarked (swap_remove_entry t es) ≤ unmarked es
  unmarked_swap t [] = omega arith
  unmarked_swap t (e ∷ es) = go (position t (keys_of (e ∷ es))) refl
    where
      go : (o : Option ℕ) → position t (keys_of (e ∷ es)) ≡ o → unmarked (option_map_or (λ i. swap_remove (e ∷ es) i e) o (e ∷ es)) ≤ unmarked (e ∷ es)
      go None at = omega arith
      go (Some i) at =
          let within : i < length (e ∷ es) = (Found-position t (e ∷ es) i at).within in
          let sum = sum_by-swap_remove (λ (x : Pid × Member B). bare x.1) (e ∷ es) i e within in
          let before = unmarked_sum (e ∷ es) in
          let after = unmarked_sum (swap_remove (e ∷ es) i e) in
          omega (arith, sum, before, after)

  pub unmarked_insert : (eq : Pid → Pid → Bool) (es : List (Pid × Member B)) (k : Pid) (v : Member B) → v.queued ≡ true → unmarked (insert_entry eq es k v) ≤ unmarked es
  unmarked_insert eq [] k v on = let b : bare v ≡ 0 = ap (λ (x : Bool). cond x 0 1) on in omega (arith, b)
  unmarked_insert eq (e ∷ es) k v on = go (eq k e.0) (unmarked_insert eq es k v on)
    where
      go : (b : Bool) → unmarked (insert_entry eq es k v) ≤ unmarked es → unmarked (cond b ((e.0, v) ∷ es) (e ∷ insert_entry eq es k v)) ≤ unmarked (e ∷ es)
      go true ih = let b : bare v ≡ 0 = ap (λ (x : Bool). cond x 0 1) on in omega (arith, b)
      go false ih = omega (arith, ih)

-- what holds whatever was answered
pub on_err : {A E : Type 0} (P : Type 0) (r : Result A E) → P → OnErr r P
on_err P (Ok a) h = tt
on_err P (Err e) h = h

pub ok_not_err : {A E : Type 0} (r : Result A E) → IsOk r → is_err r ≡ true → ⊥
ok_not_err (Ok a) h e = cc
ok_not_err (Err x) h e = cc

pub on_err_of : {A E : Type 0} (P : Type 0) (r : Result A E) → is_err r ≡ true → OnErr r P → P
on_err_of P (Ok a) e h = absurd (cc)
on_err_of P (Err x) e h = h
