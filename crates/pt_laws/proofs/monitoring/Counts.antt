-- Counting.
use Rattle.std.proofs.Common.{◌≡◌, ◌+◌, ◌≤◌, ◌-◌, Bool, true, false, cond, ◌&&◌, List, [], ◌∷◌, ◌++◌, Some, None, map, refl, ap, ◌∙◌, arith}
use Rattle.std.specs.Map.{lookup, remove_entry}
use Rattle.std.specs.List.{find, list_any}
use Rattle.pt_signal.specs.declared.pid.Pid.{Pid}
use Rattle.pt_signal.specs.declared.ids.Ref.{Ref}
use Rattle.pt_signal.specs.declared.signal.Signal.{Signal}
use Rattle.pt_signal.specs.Values.{same_ref, without_first}
use Rattle.pt_signal.specs.Process.{Sent}
use Rattle.pt_events.specs.History.{is_between}
use Rattle.pt_events.specs.Counting.{one_if, count}

abbrev pub is_down : Ref → Signal → Bool
is_down m (Signal.Down n r) = same_ref m n
is_down m _ = false

-- letters from a to b whose signal passes
abbrev pub carries : Pid → Pid → (Signal → Bool) → Sent → Bool
carries a b test l = is_between a b l && test l.signal

module _ {X : Type 0} (T : X → Bool) where
  pub count-append : (xs ys : List X) → count T (xs ++ ys) ≡ count T xs + count T ys
  count-append [] ys = omega arith
  count-append (x ∷ xs) ys = let h = count-append xs ys in omega arith

  -- taking out the first that passes another test
  pub count-landed : (P : X → Bool) (ls : List X) (y : X) → find P ls ≡ Some y → count T (without_first P ls) + one_if (T y) ≡ count T ls
  count-landed P [] y h = absurd (cc)
  count-landed P (l ∷ ls) y h = go (P l) refl h (count-landed P ls y)
    where
      go : (b : Bool) → P l ≡ b → cond (P l) (Some l) (find P ls) ≡ Some y → (find P ls ≡ Some y → count T (without_first P ls) + one_if (T y) ≡ count T ls)
          → count T (without_first P (l ∷ ls)) + one_if (T y) ≡ count T (l ∷ ls)
      go true e h ih = let k : Some l ≡ Some y = rw e at h in let k2 : l ≡ y = cc in rw (e, ← k2) (omega arith)
      go false e h ih = let k : find P ls ≡ Some y = rw e at h in let j = ih k in rw e (omega arith)

  pub count-map : {Y : Type 0} (f : Y → X) (ys : List Y) → count T (map f ys) ≡ count (λ y. T (f y)) ys
  count-map f [] = refl
  count-map f (y ∷ ys) = let h = count-map f ys in omega arith

  pub count-none : ((x : X) → T x ≡ false) → (xs : List X) → count T xs ≡ 0
  count-none h [] = refl
  count-none h (x ∷ xs) = rw h (let k = count-none h xs in omega arith)

  -- without the first that passes the same test
  pub count-without : (xs : List X) → count T (without_first T xs) ≡ count T xs - 1
  count-without [] = refl
  count-without (x ∷ xs) = go (T x) refl (count-without xs)
    where
      go : (b : Bool) → T x ≡ b → count T (without_first T xs) ≡ count T xs - 1 → count T (without_first T (x ∷ xs)) ≡ count T (x ∷ xs) - 1
      go true e ih = rw e (omega arith)
      go false e ih = simp e (omega arith)

  pub count-some : (xs : List X) → list_any T xs ≡ false → count T xs ≡ 0
  count-some [] h = refl
  count-some (x ∷ xs) h = go (T x) refl h (count-some xs)
    where
      go : (b : Bool) → T x ≡ b → list_any T (x ∷ xs) ≡ false → (list_any T xs ≡ false → count T xs ≡ 0) → count T (x ∷ xs) ≡ 0
      go true e h ih = let k : true ≡ false = rw e at h in absurd (cc)
      go false e h ih = let k : list_any T xs ≡ false = rw e at h in let j = ih k in rw e (omega arith)

-- two tests that agree count the same
pub count_agree : {X : Type 0} (S T : X → Bool) → ((x : X) → S x ≡ T x) → (xs : List X) → count S xs ≡ count T xs
count_agree S T h [] = refl
count_agree S T h (x ∷ xs) = let a = ap one_if (h x) in let b = count_agree S T h xs in omega arith

-- entries whose key passes
module _ {K X : Type 0} (T : K → Bool) where
  pub count_removed : (es : List (K × X)) → count (λ e. T e.0) (remove_entry T es) ≡ count (λ e. T e.0) es - 1
  count_removed [] = refl
  count_removed (e ∷ es) = go (T e.0) refl (count_removed es)
    where
      go : (b : Bool) → T e.0 ≡ b → count (λ e. T e.0) (remove_entry T es) ≡ count (λ e. T e.0) es - 1 → count (λ e. T e.0) (remove_entry T (e ∷ es)) ≡ count (λ e. T e.0) (e ∷ es) - 1
      go true f ih = rw f (omega arith)
      go false f ih = simp f (omega arith)

  pub count_missing : (es : List (K × X)) → lookup T es ≡ None → count (λ e. T e.0) es ≡ 0
  count_missing [] h = refl
  count_missing (e ∷ es) h = go (T e.0) refl h (count_missing es)
    where
      go : (b : Bool) → T e.0 ≡ b → lookup T (e ∷ es) ≡ None → (lookup T es ≡ None → count (λ e. T e.0) es ≡ 0) → count (λ e. T e.0) (e ∷ es) ≡ 0
      go true f h ih = let k : Some e.1 ≡ None = rw f at h in absurd (cc)
      go false f h ih = let k : lookup T es ≡ None = rw f at h in let j = ih k in rw f (omega arith)

  pub count_found : (es : List (K × X)) (x : X) → lookup T es ≡ Some x → 1 ≤ count (λ e. T e.0) es
  count_found [] x h = absurd (cc)
  count_found (e ∷ es) x h = go (T e.0) refl h (count_found es x)
    where
      go : (b : Bool) → T e.0 ≡ b → lookup T (e ∷ es) ≡ Some x → (lookup T es ≡ Some x → 1 ≤ count (λ e. T e.0) es) → 1 ≤ count (λ e. T e.0) (e ∷ es)
      go true f h ih = rw f (omega arith)
      go false f h ih = let k : lookup T es ≡ Some x = rw f at h in let j = ih k in rw f (omega arith)

  -- what another test takes out
  pub count_removed_other : (S : K → Bool) → ((k : K) → S k ≡ true → T k ≡ false) → (es : List (K × X)) → count (λ e. T e.0) (remove_entry S es) ≡ count (λ e. T e.0) es
  count_removed_other S h [] = refl
  count_removed_other S h (e ∷ es) = go (S e.0) refl (count_removed_other S h es)
    where
      go : (b : Bool) → S e.0 ≡ b → count (λ e. T e.0) (remove_entry S es) ≡ count (λ e. T e.0) es → count (λ e. T e.0) (remove_entry S (e ∷ es)) ≡ count (λ e. T e.0) (e ∷ es)
      go true f ih = rw (f, h e.0 f) (omega arith)
      go false f ih = rw f (omega arith)

-- one that passes is counted
pub count_pass : {X : Type 0} (T : X → Bool) (xs : List X) → list_any T xs ≡ true → 1 ≤ count T xs
count_pass T [] h = absurd (cc)
count_pass T (x ∷ xs) h = go (T x) refl h (count_pass T xs)
  where
    go : (b : Bool) → T x ≡ b → list_any T (x ∷ xs) ≡ true → (list_any T xs ≡ true → 1 ≤ count T xs) → 1 ≤ count T (x ∷ xs)
    go true e h ih = rw e (omega arith)
    go false e h ih = let k : list_any T xs ≡ true = rw e at h in let j = ih k in rw e (omega arith)

-- what another test takes out is not counted
pub count_other : {X : Type 0} (T S : X → Bool) → ((x : X) → S x ≡ true → T x ≡ false) → (xs : List X) → count T (without_first S xs) ≡ count T xs
count_other T S h [] = refl
count_other T S h (x ∷ xs) = go (S x) refl (count_other T S h xs)
  where
    go : (b : Bool) → S x ≡ b → count T (without_first S xs) ≡ count T xs → count T (without_first S (x ∷ xs)) ≡ count T (x ∷ xs)
    go true e ih = rw (e, h x e) (omega arith)
    go false e ih = rw e (omega arith)

-- a narrower test counts no more
pub count_narrower : {X : Type 0} (T U : X → Bool) → ((x : X) → T x ≡ true → U x ≡ true) → (xs : List X) → count T xs ≤ count U xs
count_narrower T U h [] = omega arith
count_narrower T U h (x ∷ xs) = go (T x) refl (count_narrower T U h xs)
  where
    go : (b : Bool) → T x ≡ b → count T xs ≤ count U xs → count T (x ∷ xs) ≤ count U (x ∷ xs)
    go true e ih = rw (e, h x e) (omega arith)
    go false e ih = rw e (omega arith)

module _ {K X : Type 0} (T : K × X → Bool) (S : K → Bool) where
  pub count_entry_other : ((e : K × X) → S e.0 ≡ true → T e ≡ false) → (es : List (K × X)) → count T (remove_entry S es) ≡ count T es
  count_entry_other h [] = refl
  count_entry_other h (e ∷ es) = go (S e.0) refl (count_entry_other h es)
    where
      go : (b : Bool) → S e.0 ≡ b → count T (remove_entry S es) ≡ count T es → count T (remove_entry S (e ∷ es)) ≡ count T (e ∷ es)
      go true f ih = rw (f, h e f) (omega arith)
      go false f ih = rw f (omega arith)

  pub count_entry_less : (es : List (K × X)) → count T (remove_entry S es) ≤ count T es
  count_entry_less [] = omega arith
  count_entry_less (e ∷ es) = go (S e.0) refl (count_entry_less es)
    where
      go : (b : Bool) → S e.0 ≡ b → count T (remove_entry S es) ≤ count T es → count T (remove_entry S (e ∷ es)) ≤ count T (e ∷ es)
      go true f ih = rw f (omega arith)
      go false f ih = rw f (omega arith)

  -- the entry that is found
  pub count_entry_found : (k : K) (x : X) → ((e : K × X) → S e.0 ≡ true → T e ≡ T (k, e.1)) → (es : List (K × X)) → lookup S es ≡ Some x → count T (remove_entry S es) + one_if (T (k, x)) ≡ count T es
  count_entry_found k x h [] f = absurd (cc)
  count_entry_found k x h (e ∷ es) f = go (S e.0) refl f (count_entry_found k x h es)
    where
      go : (b : Bool) → S e.0 ≡ b → lookup S (e ∷ es) ≡ Some x → (lookup S es ≡ Some x → count T (remove_entry S es) + one_if (T (k, x)) ≡ count T es) → count T (remove_entry S (e ∷ es)) + one_if (T (k, x)) ≡ count T (e ∷ es)
      go true g f ih =
          let a : Some e.1 ≡ Some x = rw g at f in
          let b : e.1 ≡ x = cc in
          let c = ap one_if (h e g ∙ ap (λ z. T (k, z)) b) in
          rw g (omega arith)
      go false g f ih = let a : lookup S es ≡ Some x = rw g at f in let j = ih a in rw g (omega arith)

pub count_less : {X : Type 0} (T P : X → Bool) (xs : List X) → count T (without_first P xs) ≤ count T xs
count_less T P [] = omega arith
count_less T P (x ∷ xs) = go (P x) (count_less T P xs)
  where
    go : (b : Bool) → count T (without_first P xs) ≤ count T xs → count T (cond b xs (x ∷ without_first P xs)) ≤ count T (x ∷ xs)
    go true ih = omega arith
    go false ih = omega arith
