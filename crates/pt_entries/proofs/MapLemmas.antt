-- Look-ups by key in a list of entries, and what a removal and a write leave.
use Rattle.std.proofs.Common.{◌≡◌, ◌+◌, Bool, true, false, cond, List, [], ◌∷◌, length, refl, ap, ◌∙◌, arith, Option, Some, None, is_some, ◌||◌, if◌then◌else◌}
use Rattle.std.specs.List.{list_any}
use Rattle.std.specs.Map.{lookup, remove_entry, set_value, keys_of}

pub none_from_test : {V : Type 0} (o : Option V) → is_some o ≡ false → o ≡ None
none_from_test None h = refl
none_from_test (Some v) h = cc

any_step : {V : Type 0} (b : Bool) (v : V) (r : Option V) → is_some (cond b (Some v) r) ≡ b || is_some r
any_step true v r = refl
any_step false v r = refl

module _ {K V : Type 0} where
  write_absent_step : (test : K → Bool) (b : Bool) (e : K × V) (es : List (K × V)) (w : V) → cond b (Some e.1) (lookup test es) ≡ None
      → (lookup test es ≡ None → set_value test es w ≡ es) → cond b ((e.0, w) ∷ es) (e ∷ set_value test es w) ≡ e ∷ es
  write_absent_step test true e es w none below = cc
  write_absent_step test false e es w none below = ap (λ fs. e ∷ fs) (below none)

  pub set_value-absent : (test : K → Bool) (es : List (K × V)) (w : V) → lookup test es ≡ None → set_value test es w ≡ es
  set_value-absent test [] w none = refl
  set_value-absent test (e ∷ es) w none = write_absent_step test (test e.0) e es w none (set_value-absent test es w)

  length-remove_step : (b : Bool) (e : K × V) (es rest : List (K × V)) (r : Option V) → length rest + (if is_some r then 1 else 0) ≡ length es
      → length (cond b es (e ∷ rest)) + (if is_some (cond b (Some e.1) r) then 1 else 0) ≡ length (e ∷ es)
  length-remove_step true e es rest r h = omega arith
  length-remove_step false e es rest r h = omega arith

  -- a removal makes the list shorter by what it takes out
  pub length-remove_entry : (test : K → Bool) (es : List (K × V)) → length (remove_entry test es) + (if is_some (lookup test es) then 1 else 0) ≡ length es
  length-remove_entry test [] = refl
  length-remove_entry test (e ∷ es) = length-remove_step (test e.0) e es _ _ (length-remove_entry test es)

  remove_absent_step : (test : K → Bool) (b : Bool) (e : K × V) (es : List (K × V)) → cond b (Some e.1) (lookup test es) ≡ None
      → (lookup test es ≡ None → remove_entry test es ≡ es) → cond b es (e ∷ remove_entry test es) ≡ e ∷ es
  remove_absent_step test true e es none below = cc
  remove_absent_step test false e es none below = ap (λ fs. e ∷ fs) (below none)

  pub remove_entry-absent : (test : K → Bool) (es : List (K × V)) → lookup test es ≡ None → remove_entry test es ≡ es
  remove_entry-absent test [] none = refl
  remove_entry-absent test (e ∷ es) none = remove_absent_step test (test e.0) e es none (remove_entry-absent test es)

  -- a key is found where one passes
  pub any-keys_of : (test : K → Bool) (es : List (K × V)) → is_some (lookup test es) ≡ list_any test (keys_of es)
  any-keys_of test [] = refl
  any-keys_of test (e ∷ es) = any_step (test e.0) e.1 (lookup test es) ∙ ap (λ b. test e.0 || b) (any-keys_of test es)

  pub any-entries : (test : K → Bool) (es : List (K × V)) → list_any (λ e. test e.0) es ≡ list_any test (keys_of es)
  any-entries test [] = refl
  any-entries test (e ∷ es) = ap (λ b. test e.0 || b) (any-entries test es)
