-- Entries with gaps, and what is left of them.
use Rattle.std.proofs.Common.{◌≡◌, ℕ, zero, suc, ◌+◌, ◌-◌, ◌<◌, ◌≤◌, Bool, true, false, cond, List, [], ◌∷◌, ◌++◌, length, drop, slice_get, refl, sym, ap, ◌∙◌, arith, append-nil, length-append, filter, Option, Some, None, Result, Ok, Err, OnErr, IsOk, is_some, unwrap_or, ◌&&◌, ◌||◌}
use Rattle.indexmap.specs.IndexMap.{insert_entry}
use Rattle.std.proofs.lemmas.List.Elements.{filter_map-append}
use Rattle.std.specs.Option.{option_flatten, option_to_list}
use Rattle.std.specs.Cmp.{IsEquivalence}
use Rattle.std.specs.List.{IsDistinct, list_any}
use Rattle.std.specs.Map.{lookup, remove_entry, set_value, keys_of}
use Rattle.std.proofs.lemmas.Map.{lookup-none}
use Rattle.std.proofs.lemmas.Map.Keys.{IsDistinct-tail}
use Rattle.std.proofs.lemmas.Map.Entries.{none_past_head}
use Rattle.pt_entries.specs.Gaps.{present, standing, value_at}
use Rattle.pt_entries.proofs.MapLemmas.{remove_entry-absent}

-- by key ---------------------------------------------------------------------------

module _ {K V : Type 0} {eq : K → K → Bool} (laws : IsEquivalence eq) (key : K) where
  lookup_step : (b : Bool) (k : K) (v : Option V) (es : List (K × Option V)) → eq key k ≡ b → (eq key k ≡ true → lookup (eq key) es ≡ None)
      → lookup (eq key) (present es) ≡ value_at (eq key) es → lookup (eq key) (present ((k, v) ∷ es)) ≡ value_at (eq key) ((k, v) ∷ es)
  lookup_step true k None es is alone below = rw is (below ∙ ap option_flatten (alone is))
  lookup_step true k (Some v) es is alone below = rw is refl
  lookup_step false k None es is alone below = rw is below
  lookup_step false k (Some v) es is alone below = rw is below

  alone_past : (e : K × Option V) (es : List (K × Option V)) → IsDistinct eq (keys_of (e ∷ es)) → eq key e.0 ≡ true → lookup (eq key) es ≡ None
  alone_past e es distinct is = lookup-none (eq key) es (none_past_head laws key e es distinct is)

  -- the entry at a key is what stands at its place
  pub lookup-present : (es : List (K × Option V)) → IsDistinct eq (keys_of es) → lookup (eq key) (present es) ≡ value_at (eq key) es
  lookup-present [] distinct = refl
  lookup-present (e ∷ es) distinct =
      lookup_step (eq key e.0) e.0 e.1 es refl (alone_past e es distinct) (lookup-present es (IsDistinct-tail eq e.0 (keys_of es) distinct))

  gone_step : (b : Bool) (k : K) (v : Option V) (es : List (K × Option V)) → eq key k ≡ b → (eq key k ≡ true → lookup (eq key) (present es) ≡ None)
      → present (set_value (eq key) es None) ≡ remove_entry (eq key) (present es) → present (set_value (eq key) ((k, v) ∷ es) None) ≡ remove_entry (eq key) (present ((k, v) ∷ es))
  gone_step true k None es is alone below = rw is (sym (remove_entry-absent (eq key) (present es) (alone is)))
  gone_step true k (Some v) es is alone below = rw is refl
  gone_step false k None es is alone below = rw is below
  gone_step false k (Some v) es is alone below = rw is (ap (λ fs. (k, v) ∷ fs) below)

  -- a gap in the place of an entry takes it out
  pub present-gone : (es : List (K × Option V)) → IsDistinct eq (keys_of es) → present (set_value (eq key) es None) ≡ remove_entry (eq key) (present es)
  present-gone [] distinct = refl
  present-gone (e ∷ es) distinct =
      let rest = IsDistinct-tail eq e.0 (keys_of es) distinct in
      gone_step (eq key e.0) e.0 e.1 es refl (λ is. lookup-present es rest ∙ ap option_flatten (alone_past e es distinct is)) (present-gone es rest)

module _ {K V : Type 0} (test : K → Bool) where
  written_step : (b : Bool) (k : K) (v : Option V) (es : List (K × Option V)) (w : V) → test k ≡ b → is_some (option_flatten (cond b (Some v) (lookup test es))) ≡ true
      → (is_some (value_at test es) ≡ true → present (set_value test es (Some w)) ≡ set_value test (present es) w)
      → present (set_value test ((k, v) ∷ es) (Some w)) ≡ set_value test (present ((k, v) ∷ es)) w
  written_step true k None es w is there below = cc
  written_step true k (Some v) es w is there below = rw is refl
  written_step false k None es w is there below = rw is (below there)
  written_step false k (Some v) es w is there below = rw is (ap (λ fs. (k, v) ∷ fs) (below there))

  -- an entry that stands takes a value in its place
  pub present-written : (es : List (K × Option V)) (w : V) → is_some (value_at test es) ≡ true → present (set_value test es (Some w)) ≡ set_value test (present es) w
  present-written [] w there = cc
  present-written (e ∷ es) w there = written_step (test e.0) e.0 e.1 es w refl there (present-written es w)

  cleared_step : (b : Bool) (k : K) (v : Option V) (es : List (K × Option V)) → test k ≡ b → option_flatten (cond b (Some v) (lookup test es)) ≡ None
      → (value_at test es ≡ None → present (remove_entry test es) ≡ present es) → present (remove_entry test ((k, v) ∷ es)) ≡ present ((k, v) ∷ es)
  cleared_step true k None es is none below = rw is refl
  cleared_step true k (Some v) es is none below = cc
  cleared_step false k None es is none below = rw is (below none)
  cleared_step false k (Some v) es is none below = rw is (ap (λ fs. (k, v) ∷ fs) (below none))

  -- no entry goes with a gap
  pub present-cleared : (es : List (K × Option V)) → value_at test es ≡ None → present (remove_entry test es) ≡ present es
  present-cleared [] none = refl
  present-cleared (e ∷ es) none = cleared_step (test e.0) e.0 e.1 es refl none (present-cleared es)

-- by place -------------------------------------------------------------------------

module _ {K V : Type 0} where
  pub present-push : (es : List (K × Option V)) (k : K) (v : V) → present (es ++ (k, Some v) ∷ []) ≡ present es ++ (k, v) ∷ []
  present-push es k v = filter_map-append standing es ((k, Some v) ∷ [])

  last_of : (es : List (K × Option V)) (e : K × Option V) → slice_get (es ++ e ∷ []) (length es) ≡ Some e
  last_of [] e = refl
  last_of (d ∷ es) e = last_of es e

  -- no entry goes with a gap that stands last
  pub present-pop : (es rest : List (K × Option V)) (last : Option (K × Option V)) (k : K) → es ≡ rest ++ option_to_list last → slice_get es (length es - 1) ≡ Some (k, None)
      → present rest ≡ present es
  present-pop es rest None k whole at = ap present (sym (whole ∙ append-nil rest))
  present-pop es rest (Some e) k whole at =
      let n : length rest ≡ length es - 1 = omega (arith, ap length whole, length-append rest (e ∷ [])) in
      let gap : e ≡ (k, None) = ap (λ o. unwrap_or o e) (sym (last_of rest e) ∙ ap (λ l. slice_get l (length rest)) (sym whole) ∙ ap (slice_get es) n ∙ at) in
      sym (ap present whole ∙ ap (λ d. present (rest ++ d ∷ [])) gap ∙ filter_map-append standing rest ((k, None) ∷ []) ∙ append-nil (present rest))

  -- to close the gaps changes nothing that is seen
  pub present-closed : (es : List (K × Option V)) → present (filter (λ e. is_some e.1) es) ≡ present es
  present-closed [] = refl
  present-closed ((k, None) ∷ es) = present-closed es
  present-closed ((k, Some v) ∷ es) = ap (λ fs. (k, v) ∷ fs) (present-closed es)

  pub length-closed : (es : List (K × Option V)) → length (filter (λ e. is_some e.1) es) ≡ length (present es)
  length-closed [] = refl
  length-closed ((k, None) ∷ es) = length-closed es
  length-closed ((k, Some v) ∷ es) = ap suc (length-closed es)

  pub length-present : (es : List (K × Option V)) → length (present es) ≤ length es
  length-present [] = omega arith
  length-present ((k, None) ∷ es) = omega (arith, length-present es)
  length-present ((k, Some v) ∷ es) = omega (arith, length-present es)

  -- with no gap, what stands at a place is the entry with that number
  pub row_at : (es : List (K × Option V)) (i : ℕ) (e : K × Option V) → length es ≤ length (present es) → slice_get es i ≡ Some e → standing e ≡ slice_get (present es) i
  row_at [] i e closed at = cc
  row_at ((k, None) ∷ es) i e closed at = absurd (omega (arith, closed, length-present es))
  row_at ((k, Some v) ∷ es) zero e closed at = ap (λ o. standing (unwrap_or o e)) (sym at)
  row_at ((k, Some v) ∷ es) (suc i) e closed at = row_at es i e (omega (arith, closed)) at

  -- what stands from a place on: what stands there, and what stands behind it
  pub present_from : (es : List (K × Option V)) (i : ℕ) (e : K × Option V) → slice_get es i ≡ Some e → present (drop i es) ≡ option_to_list (standing e) ++ present (drop (i + 1) es)
  present_from [] i e at = cc
  present_from ((k, None) ∷ es) zero e at = rw (ap (λ o. unwrap_or o e) (sym at)) refl
  present_from ((k, Some v) ∷ es) zero e at = rw (ap (λ o. unwrap_or o e) (sym at)) refl
  present_from (d ∷ es) (suc i) e at = let more : suc i + 1 ≡ suc (i + 1) = omega arith in rw more (present_from es i e at)

  -- with no gap, a key with no entry has no place
  pub lookup-closed : (test : K → Bool) (es : List (K × Option V)) → length es ≤ length (present es) → lookup test (present es) ≡ None → lookup test es ≡ None
  lookup-closed test [] closed none = refl
  lookup-closed test ((k, None) ∷ es) closed none = absurd (omega (arith, closed, length-present es))
  lookup-closed test ((k, Some v) ∷ es) closed none = closed_step (test k) (lookup test es) (lookup test (present es)) none (lookup-closed test es (omega (arith, closed)))
    where
      closed_step : (b : Bool) (r : Option (Option V)) (s : Option V) → cond b (Some v) s ≡ None → (s ≡ None → r ≡ None) → cond b (Some (Some v)) r ≡ None
      closed_step true r s none below = cc
      closed_step false r s none below = below none

  -- whether there is an entry whose key passes
  pub any-present : (test : K → Bool) (es : List (K × Option V)) → list_any (λ e. is_some e.1 && test e.0) es ≡ list_any test (keys_of (present es))
  any-present test [] = refl
  any-present test ((k, None) ∷ es) = any-present test es
  any-present test ((k, Some v) ∷ es) = ap (λ b. test k || b) (any-present test es)

  pub standing_some : (e : K × Option V) → is_some (standing e) ≡ is_some e.1
  standing_some (k, None) = refl
  standing_some (k, Some v) = refl

  set_step : (eq : K → K → Bool) (b : Bool) (k : K) (e : K × V) (es : List (K × V)) (v : V) → eq k e.0 ≡ b → is_some (cond b (Some e.1) (lookup (eq k) es)) ≡ true
      → (is_some (lookup (eq k) es) ≡ true → insert_entry eq es k v ≡ set_value (eq k) es v) → insert_entry eq (e ∷ es) k v ≡ set_value (eq k) (e ∷ es) v
  set_step eq true k e es v is there below = rw is refl
  set_step eq false k e es v is there below = rw is (ap (λ fs. e ∷ fs) (below there))

  -- a key that has a place keeps it
  pub insert_entry-set : (eq : K → K → Bool) (es : List (K × V)) (k : K) (v : V) → is_some (lookup (eq k) es) ≡ true → insert_entry eq es k v ≡ set_value (eq k) es v
  insert_entry-set eq [] k v there = cc
  insert_entry-set eq (e ∷ es) k v there = set_step eq (eq k e.0) k e es v refl there (insert_entry-set eq es k v)

pub flattened_some : {V : Type 0} (o : Option (Option V)) → is_some (option_flatten o) ≡ true → is_some o ≡ true
flattened_some None h = h
flattened_some (Some v) h = refl

pub ok_from_some : {V T E : Type 0} (r : Result T E) (o : Option V) → OnErr r (o ≡ None) → is_some o ≡ true → IsOk r
ok_from_some (Ok x) o h there = refl
ok_from_some (Err e) o h there = cc

pub some_at : {X : Type 0} (xs : List X) (i : ℕ) → i < length xs → is_some (slice_get xs i) ≡ true
some_at [] i h = absurd (omega arith)
some_at (x ∷ xs) zero h = refl
some_at (x ∷ xs) (suc i) h = some_at xs i (omega arith)
