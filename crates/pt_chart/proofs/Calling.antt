-- The first name that is given to a pid stands at the first place of the pid.
use Rattle.std.proofs.Common.{◌≡◌, ℕ, suc, ◌+◌, ◌≤◌, List, [], ◌∷◌, Bool, true, false, not, cond, map, length, get_or, Option, Some, None, refl, ap, sym, ◌∙◌, ltb-false, ltb-true, ◌<◌, arith}
use Rattle.std.specs.Prelude.{nat_lt, position, unwrap_or}
use Rattle.std.specs.List.{position_or_len}
use Rattle.std.specs.Map.{lookup}
use Rattle.std.proofs.lemmas.List.{get_or_past}
use Rattle.pt_signal.specs.declared.pid.Pid.{Pid}
use Rattle.pt_signal.specs.Values.{same_pid}
use Rattle.pt_chart.specs.declared.called.Called.{Called}
use Rattle.pt_chart.specs.Drawing.{called_given, column_name}

abbrev pub nothing : Called
nothing = record { pid = record { shard = 0; slot = 0; version = 0 }; name = record { ref_ptr = (0, 0); now = [] } }

module _ (p : Pid) where
  abbrev is_of : Called → Bool
  is_of c = same_pid p c.pid

  step : (b : Bool) (x : Called) (xs : List Called) (n : ℕ) (r : Option (List ℕ)) → unwrap_or r [] ≡ (get_or xs n nothing).name.now
      → unwrap_or (cond b (Some x.name.now) r) [] ≡ (get_or (x ∷ xs) (cond (not b) (1 + n) 0) nothing).name.now
  step true x xs n r h = refl
  step false x xs n r h = let e : suc n ≡ 1 + n = omega arith in h ∙ ap (λ k. (get_or (x ∷ xs) k nothing).name.now) e

  first : (xs : List Called) → column_name (map called_given xs) p ≡ (get_or xs (position_or_len is_of xs) nothing).name.now
  first [] = refl
  first (x ∷ xs) = step (is_of x) x xs (position_or_len is_of xs) (lookup (same_pid p) (map called_given xs)) (first xs)

  at : (b : Bool) (n k : ℕ) → Some k ≡ cond b (Some n) None → k ≡ n
  at true n k h = cc
  at false n k h = absurd (cc)

  none : (n len : ℕ) → ◌≡◌ {A = Option ℕ} None (cond (nat_lt n len) (Some n) None) → len ≤ n
  none n len h = go (nat_lt n len) refl h
    where
      go : (b : Bool) → nat_lt n len ≡ b → ◌≡◌ {A = Option ℕ} None (cond b (Some n) None) → len ≤ n
      go true e k = absurd (cc)
      go false e k = ltb-false n len e

  pub named_at : (xs : List Called) (k : ℕ) → Some k ≡ position is_of xs → (get_or xs k nothing).name.now ≡ column_name (map called_given xs) p
  named_at xs k h = ap (λ i. (get_or xs i nothing).name.now) (at _ (position_or_len is_of xs) k h) ∙ sym (first xs)

  pub named_nowhere : (xs : List Called) → ◌≡◌ {A = Option ℕ} None (position is_of xs) → ◌≡◌ {A = List ℕ} [] (column_name (map called_given xs) p)
  named_nowhere xs h =
      let n = position_or_len is_of xs in
      sym (first xs ∙ ap (λ c. c.name.now) (get_or_past xs n nothing (none n (length xs) h)))

  pub named_within : (xs : List Called) (k : ℕ) → Some k ≡ position is_of xs → k < length xs
  named_within xs k h = go (nat_lt (position_or_len is_of xs) (length xs)) refl h
    where
      go : (b : Bool) → nat_lt (position_or_len is_of xs) (length xs) ≡ b → Some k ≡ cond b (Some (position_or_len is_of xs)) None → k < length xs
      go true e s = let same = at true (position_or_len is_of xs) k s in let less = ltb-true (position_or_len is_of xs) (length xs) e in omega (arith, same, less)
      go false e s = absurd (cc)
