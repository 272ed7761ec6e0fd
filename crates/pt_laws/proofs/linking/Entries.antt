-- Link entries: what is held with a pid after an id enters, after ids leave, after the entry goes.
use Rattle.std.proofs.Common.{◌≡◌, ◌+◌, ◌≤◌, Bool, true, false, cond, List, [], ◌∷◌, ◌++◌, Option, Some, None, refl, sym, ap, ◌∙◌, subst, arith}
use Rattle.std.specs.Map.{lookup, remove_entry, set_value}
use Rattle.pt_signal.specs.declared.pid.Pid.{Pid}
use Rattle.pt_signal.specs.declared.ids.Ids.{Ids}
use Rattle.pt_signal.specs.declared.ids.LinkId.{LinkId}
use Rattle.pt_signal.specs.Values.{same_pid}
use Rattle.pt_signal.specs.Process.{held, enter, enter_at, cut, cut_at, leave_at, without_ids, add_id, one_id}
use Rattle.pt_events.specs.Counting.{one_if, count}
use Rattle.pt_signal.proofs.Same.{same_pid_is, same_pid_refl}
use Rattle.pt_laws.proofs.monitoring.Counts.{count-append, count_removed, count_missing, count_entry_less}

module _ {K X : Type 0} (T : K → Bool) where
  lookup_pushed : (es : List (K × X)) (k : K) (v : X) → lookup T es ≡ None → lookup T (es ++ (k, v) ∷ []) ≡ cond (T k) (Some v) None
  lookup_pushed [] k v h = refl
  lookup_pushed (e ∷ es) k v h = go (T e.0) refl h (lookup_pushed es k v)
    where
      go : (b : Bool) → T e.0 ≡ b → lookup T (e ∷ es) ≡ None → (lookup T es ≡ None → lookup T (es ++ (k, v) ∷ []) ≡ cond (T k) (Some v) None) → lookup T (e ∷ es ++ (k, v) ∷ []) ≡ cond (T k) (Some v) None
      go true f h ih = let a : Some e.1 ≡ None = rw f at h in absurd (cc)
      go false f h ih = let a : lookup T es ≡ None = rw f at h in rw f (ih a)

  lookup_pushed_other : (es : List (K × X)) (k : K) (v : X) → T k ≡ false → lookup T (es ++ (k, v) ∷ []) ≡ lookup T es
  lookup_pushed_other [] k v h = rw h refl
  lookup_pushed_other (e ∷ es) k v h = ap (cond (T e.0) (Some e.1)) (lookup_pushed_other es k v h)

  lookup_set : (es : List (K × X)) (v w : X) → lookup T es ≡ Some v → lookup T (set_value T es w) ≡ Some w
  lookup_set [] v w h = absurd (cc)
  lookup_set (e ∷ es) v w h = go (T e.0) refl h (lookup_set es v w)
    where
      go : (b : Bool) → T e.0 ≡ b → lookup T (e ∷ es) ≡ Some v → (lookup T es ≡ Some v → lookup T (set_value T es w) ≡ Some w) → lookup T (set_value T (e ∷ es) w) ≡ Some w
      go true f h ih = simp f
      go false f h ih = let a : lookup T es ≡ Some v = rw f at h in simp f (ih a)

  lookup_none : (es : List (K × X)) → count (λ e. T e.0) es ≡ 0 → lookup T es ≡ None
  lookup_none [] h = refl
  lookup_none (e ∷ es) h = go (T e.0) refl h (lookup_none es)
    where
      go : (b : Bool) → T e.0 ≡ b → one_if (T e.0) + count (λ e. T e.0) es ≡ 0 → (count (λ e. T e.0) es ≡ 0 → lookup T es ≡ None) → lookup T (e ∷ es) ≡ None
      go true f h ih = let a : 1 + count (λ e. T e.0) es ≡ 0 = rw f at h in absurd (omega arith)
      go false f h ih = let a : 0 + count (λ e. T e.0) es ≡ 0 = rw f at h in rw f (ih (omega arith))

  lookup_removed : (es : List (K × X)) → count (λ e. T e.0) es ≤ 1 → lookup T (remove_entry T es) ≡ None
  lookup_removed es h = let k = count_removed T es in lookup_none (remove_entry T es) (omega arith)

  module _ (S : K → Bool) (apart : (k : K) → S k ≡ true → T k ≡ false) where
    lookup_set_other : (es : List (K × X)) (w : X) → lookup T (set_value S es w) ≡ lookup T es
    lookup_set_other [] w = refl
    lookup_set_other (e ∷ es) w = go (S e.0) refl (lookup_set_other es w)
      where
        go : (b : Bool) → S e.0 ≡ b → lookup T (set_value S es w) ≡ lookup T es → lookup T (set_value S (e ∷ es) w) ≡ lookup T (e ∷ es)
        go true f ih = rw (f, apart e.0 f) refl
        go false f ih = rw f (ap (cond (T e.0) (Some e.1)) ih)

    lookup_removed_other : (es : List (K × X)) → lookup T (remove_entry S es) ≡ lookup T es
    lookup_removed_other [] = refl
    lookup_removed_other (e ∷ es) = go (S e.0) refl (lookup_removed_other es)
      where
        go : (b : Bool) → S e.0 ≡ b → lookup T (remove_entry S es) ≡ lookup T es → lookup T (remove_entry S (e ∷ es)) ≡ lookup T (e ∷ es)
        go true f ih = rw (f, apart e.0 f) refl
        go false f ih = rw f (ap (cond (T e.0) (Some e.1)) ih)

  keys_set : (S : K → Bool) (es : List (K × X)) (w : X) → count (λ e. T e.0) (set_value S es w) ≡ count (λ e. T e.0) es
  keys_set S [] w = refl
  keys_set S (e ∷ es) w = go (S e.0) (keys_set S es w)
    where
      go : (b : Bool) → count (λ e. T e.0) (set_value S es w) ≡ count (λ e. T e.0) es → count (λ e. T e.0) (cond b ((e.0, w) ∷ es) (e ∷ set_value S es w)) ≡ count (λ e. T e.0) (e ∷ es)
      go true ih = refl
      go false ih = omega arith

-- entries by pid --------------------------------------------------------------------------------

pid_apart : (p q : Pid) → same_pid p q ≡ false → (k : Pid) → same_pid q k ≡ true → same_pid p k ≡ false
pid_apart p q h k e = rw (← same_pid_is q k e) h

-- each pid has at most one entry
abbrev pub Keyed : List (Pid × Ids) → Type 0
Keyed links = (q : Pid) → count (λ e. same_pid q e.0) links ≤ 1

-- what is held with q after the id enters
abbrev pub entered : Option Ids → LinkId → Ids
entered None i = one_id i
entered (Some ids) i = add_id ids i

-- what is left after the named ids leave
abbrev pub cut_ids : Option Ids → Ids → Option Ids
cut_ids None named = None
cut_ids (Some ids) named = without_ids named ids

pub held-enter : (q : Pid) (i : LinkId) (links : List (Pid × Ids)) → held (enter q i links) q ≡ Some (entered (held links q) i)
held-enter q i links = go (held links q) refl
  where
    go : (o : Option Ids) → held links q ≡ o → held (enter_at o q i links) q ≡ Some (entered o i)
    go None h = lookup_pushed (same_pid q) links q (one_id i) h ∙ rw (same_pid_refl q) refl
    go (Some ids) h = lookup_set (same_pid q) links ids (add_id ids i) h

pub held-enter-other : (p q : Pid) (i : LinkId) (links : List (Pid × Ids)) → same_pid p q ≡ false → held (enter q i links) p ≡ held links p
held-enter-other p q i links n = go (held links q)
  where
    go : (o : Option Ids) → held (enter_at o q i links) p ≡ held links p
    go None = lookup_pushed_other (same_pid p) links q (one_id i) n
    go (Some ids) = lookup_set_other (same_pid p) (same_pid q) (pid_apart p q n) links (add_id ids i)

pub held-cut : (q : Pid) (named : Ids) (links : List (Pid × Ids)) → Keyed links → held (cut q named links) q ≡ cut_ids (held links q) named
held-cut q named links keyed = go (held links q) refl
  where
    leaving : (ids : Ids) (o : Option Ids) → held links q ≡ Some ids → held (leave_at o q links) q ≡ o
    leaving ids None h = lookup_removed (same_pid q) links (keyed q)
    leaving ids (Some left) h = lookup_set (same_pid q) links ids left h

    go : (o : Option Ids) → held links q ≡ o → held (cut_at o q named links) q ≡ cut_ids o named
    go None h = h
    go (Some ids) h = leaving ids (without_ids named ids) h

pub held-cut-other : (p q : Pid) (named : Ids) (links : List (Pid × Ids)) → same_pid p q ≡ false → held (cut q named links) p ≡ held links p
held-cut-other p q named links n = go (held links q)
  where
    leaving : (o : Option Ids) → held (leave_at o q links) p ≡ held links p
    leaving None = lookup_removed_other (same_pid p) (same_pid q) (pid_apart p q n) links
    leaving (Some left) = lookup_set_other (same_pid p) (same_pid q) (pid_apart p q n) links left

    go : (o : Option Ids) → held (cut_at o q named links) p ≡ held links p
    go None = refl
    go (Some ids) = leaving (without_ids named ids)

pub held-removed : (q : Pid) (links : List (Pid × Ids)) → Keyed links → held (remove_entry (same_pid q) links) q ≡ None
held-removed q links keyed = lookup_removed (same_pid q) links (keyed q)

pub held-removed-other : (p q : Pid) (links : List (Pid × Ids)) → same_pid p q ≡ false → held (remove_entry (same_pid q) links) p ≡ held links p
held-removed-other p q links n = lookup_removed_other (same_pid p) (same_pid q) (pid_apart p q n) links

pub Keyed-enter : (q : Pid) (i : LinkId) (links : List (Pid × Ids)) → Keyed links → Keyed (enter q i links)
Keyed-enter q i links keyed p = go (held links q) refl
  where
    go : (o : Option Ids) → held links q ≡ o → count (λ e. same_pid p e.0) (enter_at o q i links) ≤ 1
    go None h = new (same_pid p q) refl
      where
        new : (b : Bool) → same_pid p q ≡ b → count (λ e. same_pid p e.0) (links ++ (q, one_id i) ∷ []) ≤ 1
        new true e =
            let c = count-append (λ (e : Pid × Ids). same_pid p e.0) links ((q, one_id i) ∷ []) in
            let z : count (λ e. same_pid p e.0) links ≡ 0 = subst (λ p. count (λ e. same_pid p e.0) links ≡ 0) (sym (same_pid_is p q e)) (count_missing (same_pid q) links h) in
            let y : one_if (same_pid p q) ≡ 1 = rw e refl in omega arith
        new false e =
            let c = count-append (λ (e : Pid × Ids). same_pid p e.0) links ((q, one_id i) ∷ []) in
            let k = keyed p in let y : one_if (same_pid p q) ≡ 0 = rw e refl in omega arith
    go (Some ids) h = let c = keys_set (same_pid p) (same_pid q) links (add_id ids i) in let k = keyed p in omega arith

pub Keyed-cut : (q : Pid) (named : Ids) (links : List (Pid × Ids)) → Keyed links → Keyed (cut q named links)
Keyed-cut q named links keyed p = go (held links q)
  where
    leaving : (o : Option Ids) → count (λ e. same_pid p e.0) (leave_at o q links) ≤ 1
    leaving None = let c = count_entry_less (λ (e : Pid × Ids). same_pid p e.0) (same_pid q) links in let k = keyed p in omega arith
    leaving (Some left) = let c = keys_set (same_pid p) (same_pid q) links left in let k = keyed p in omega arith

    go : (o : Option Ids) → count (λ e. same_pid p e.0) (cut_at o q named links) ≤ 1
    go None = keyed p
    go (Some ids) = leaving (without_ids named ids)

pub Keyed-removed : (q : Pid) (links : List (Pid × Ids)) → Keyed links → Keyed (remove_entry (same_pid q) links)
Keyed-removed q links keyed p = let c = count_entry_less (λ (e : Pid × Ids). same_pid p e.0) (same_pid q) links in let k = keyed p in omega arith
