-- Which signals change the lists of a process, and which leave them as they are.
use Rattle.std.proofs.Common.{◌≡◌, ◌≢◌, ◌+◌, Bool, true, false, cond, not, ◌||◌, List, [], ◌∷◌, ◌++◌, length, filter, refl, sym, ap, ◌∙◌, arith, length-append, Option, Some, None, is_some, unwrap_or, if◌then◌else◌}
use Rattle.std.specs.List.{list_any}
use Rattle.std.specs.Option.{option_to_list}
use Rattle.std.specs.Map.{lookup, remove_entry, set_value}
use Rattle.pt_signal.specs.declared.pid.Pid.{Pid}
use Rattle.pt_signal.specs.declared.ids.LinkId.{LinkId}
use Rattle.pt_signal.specs.declared.ids.Ids.{Ids}
use Rattle.pt_signal.specs.Values.{same_pid}
use Rattle.pt_signal.specs.Process.{held, holds_any, has_id, share_id, without_ids, one_id, ids_of, second_id, enter, enter_at, add_id, cut, cut_at, leave_at}
use Rattle.pt_process.specs.Outcome.{has_two}
use Rattle.pt_entries.proofs.MapLemmas.{length-remove_entry}

module _ {K V : Type 0} (test : K → Bool) where
  set_same_step : (b : Bool) (e : K × V) (es : List (K × V)) (v : V) → cond b (Some e.1) (lookup test es) ≡ Some v
      → (lookup test es ≡ Some v → set_value test es v ≡ es) → cond b ((e.0, v) ∷ es) (e ∷ set_value test es v) ≡ e ∷ es
  set_same_step true e es v h below = ap (λ w. (e.0, w) ∷ es) (sym (ap (λ r. unwrap_or r v) h))
  set_same_step false e es v h below = ap (λ fs. e ∷ fs) (below h)

  -- the value that is there already
  pub set_value-same : (es : List (K × V)) (v : V) → lookup test es ≡ Some v → set_value test es v ≡ es
  set_value-same [] v h = refl
  set_value-same (e ∷ es) v h = set_same_step (test e.0) e es v h (set_value-same es v)

  lookup_set_step : (b : Bool) (k : K) (old : Option V) (v w : V) (es : List (K × V)) → test k ≡ b → (lookup test es ≡ Some v → lookup test (set_value test es w) ≡ Some w)
      → (u : V) → cond b (Some u) (lookup test es) ≡ Some v → lookup test (cond b ((k, w) ∷ es) ((k, u) ∷ set_value test es w)) ≡ Some w
  lookup_set_step true k old v w es t below u h = rw t refl
  lookup_set_step false k old v w es t below u h = rw t (below h)

  lookup-set_value : (es : List (K × V)) (v w : V) → lookup test es ≡ Some v → lookup test (set_value test es w) ≡ Some w
  lookup-set_value [] v w h = cc
  lookup-set_value (e ∷ es) v w h = lookup_set_step (test e.0) e.0 None v w es refl (lookup-set_value es v w) e.1 h

  -- another value makes another list
  pub set_value-other : (es : List (K × V)) (v w : V) → lookup test es ≡ Some v → w ≢ v → set_value test es w ≢ es
  set_value-other es v w h other same =
      other (ap (λ r. unwrap_or r v) (sym (lookup-set_value es v w h) ∙ ap (lookup test) same ∙ h))

  pub remove_entry-other : (es : List (K × V)) → is_some (lookup test es) ≡ true → remove_entry test es ≢ es
  remove_entry-other es h same =
      let n : length (remove_entry test es) + 1 ≡ length es = ap (λ b. length (remove_entry test es) + (if b then 1 else 0)) (sym h) ∙ length-remove_entry test es in
      omega (arith, n, ap length same)

pub longer_other : {X : Type 0} (xs : List X) (x : X) → xs ++ x ∷ [] ≢ xs
longer_other xs x same = omega (arith, ap length same, length-append xs (x ∷ []))

-- ids ----------------------------------------------------------------------------

module _ (one : LinkId) where
  none_of_one : (b : Bool) → b || false ≡ false → ids_of (cond (not b) (one ∷ []) []) ≡ Some (one_id one)
  none_of_one true h = cc
  none_of_one false h = refl

  none_of_two : (b c : Bool) (two : LinkId) → b || (c || false) ≡ false
      → ids_of (cond (not b) (one ∷ cond (not c) (two ∷ []) []) (cond (not c) (two ∷ []) [])) ≡ Some (record { one = one; two = Some two })
  none_of_two true c two h = cc
  none_of_two false true two h = cc
  none_of_two false false two h = refl

  none_named : (test : LinkId → Bool) (two : Option LinkId) → list_any test (one ∷ option_to_list two) ≡ false
      → ids_of (filter (λ i. not (test i)) (one ∷ option_to_list two)) ≡ Some (record { one = one; two = two })
  none_named test None h = none_of_one (test one) h
  none_named test (Some two) h = none_of_two (test one) (test two) two h

  one_of_one : (b : Bool) → b || false ≡ true → ids_of (cond (not b) (one ∷ []) []) ≢ Some (one_id one)
  one_of_one true h = λ e. cc
  one_of_one false h = λ e. cc

  one_of_two : (b c : Bool) (two : LinkId) → b || (c || false) ≡ true
      → ids_of (cond (not b) (one ∷ cond (not c) (two ∷ []) []) (cond (not c) (two ∷ []) [])) ≢ Some (record { one = one; two = Some two })
  one_of_two true true two h = λ e. cc
  one_of_two true false two h = λ e. (let apart : false ≡ true = ap has_two e in cc)
  one_of_two false true two h = λ e. (let apart : false ≡ true = ap has_two e in cc)
  one_of_two false false two h = λ e. cc

  one_named : (test : LinkId → Bool) (two : Option LinkId) → list_any test (one ∷ option_to_list two) ≡ true
      → ids_of (filter (λ i. not (test i)) (one ∷ option_to_list two)) ≢ Some (record { one = one; two = two })
  one_named test None h = one_of_one (test one) h
  one_named test (Some two) h = one_of_two (test one) (test two) two h

-- ids of which none is named all stay
without_ids-none : (named ids : Ids) → share_id ids named ≡ false → without_ids named ids ≡ Some ids
without_ids-none named ids apart = none_named ids.one (has_id named) ids.two apart

without_ids-some : (named ids : Ids) → share_id ids named ≡ true → without_ids named ids ≢ Some ids
without_ids-some named ids share = one_named ids.one (has_id named) ids.two share

second_full : (two : Option LinkId) (i : LinkId) → is_some two ≡ true → second_id two i ≡ two
second_full None i h = cc
second_full (Some two) i h = refl

second_some : (two : Option LinkId) (i : LinkId) → is_some (second_id two i) ≡ true
second_some None i = refl
second_some (Some two) i = refl

-- entries --------------------------------------------------------------------------

enter_full : (r : Option Ids) (q : Pid) (i : LinkId) (links : List (Pid × Ids)) → held links q ≡ r → has_two r ≡ true → enter_at r q i links ≡ links
enter_full None q i links h two = cc
enter_full (Some ids) q i links h two =
    let same : add_id ids i ≡ ids = ap (λ (t : Option LinkId). record { one = ids.one; two = t }) (second_full ids.two i two) in
    ap (set_value (same_pid q) links) same ∙ set_value-same (same_pid q) links ids h

pub enter_same : (q : Pid) (i : LinkId) (links : List (Pid × Ids)) → has_two (held links q) ≡ true → enter q i links ≡ links
enter_same q i links two = enter_full (held links q) q i links refl two

enter_more : (r : Option Ids) (q : Pid) (i : LinkId) (links : List (Pid × Ids)) → held links q ≡ r → has_two r ≡ false → enter_at r q i links ≢ links
enter_more None q i links h two = longer_other links _
enter_more (Some ids) q i links h two =
    set_value-other (same_pid q) links ids (add_id ids i) h (λ e. (let apart : true ≡ false = sym (second_some ids.two i) ∙ ap (λ x. is_some x.two) e ∙ two in cc))

pub enter_other : (q : Pid) (i : LinkId) (links : List (Pid × Ids)) → has_two (held links q) ≡ false → enter q i links ≢ links
enter_other q i links two = enter_more (held links q) q i links refl two

cut_none : (r : Option Ids) (q : Pid) (named : Ids) (links : List (Pid × Ids)) → held links q ≡ r → holds_any r named ≡ false → cut_at r q named links ≡ links
cut_none None q named links h apart = refl
cut_none (Some ids) q named links h apart =
    ap (λ left. leave_at left q links) (without_ids-none named ids apart) ∙ set_value-same (same_pid q) links ids h

pub cut_same : (q : Pid) (named : Ids) (links : List (Pid × Ids)) → holds_any (held links q) named ≡ false → cut q named links ≡ links
cut_same q named links apart = cut_none (held links q) q named links refl apart

leave_other : (left : Option Ids) (q : Pid) (ids : Ids) (links : List (Pid × Ids)) → held links q ≡ Some ids → left ≢ Some ids → leave_at left q links ≢ links
leave_other None q ids links h other = remove_entry-other (same_pid q) links (ap is_some h)
leave_other (Some left) q ids links h other = set_value-other (same_pid q) links ids left h (λ e. other (ap Some e))

cut_some : (r : Option Ids) (q : Pid) (named : Ids) (links : List (Pid × Ids)) → held links q ≡ r → holds_any r named ≡ true → cut_at r q named links ≢ links
cut_some None q named links h share = λ e. cc
cut_some (Some ids) q named links h share = leave_other (without_ids named ids) q ids links h (without_ids-some named ids share)

pub cut_other : (q : Pid) (named : Ids) (links : List (Pid × Ids)) → holds_any (held links q) named ≡ true → cut q named links ≢ links
cut_other q named links share = cut_some (held links q) q named links refl share
