-- Queues of numbers, after one of them has changed.
use Rattle.std.proofs.Common.{◌≡◌, ℕ, nat_eq, Bool, true, false, cond, Option, Some, None, IsSome, Result, Ok, Err, OnOk, List, [], ◌∷◌, length, drop, unwrap_or, refl, ap, sym, ◌∙◌, arith}
use Rattle.std.specs.Map.{lookup}
use Rattle.pt_signal.specs.declared.pid.Pid.{Pid}
use Rattle.pt_signal.specs.Values.{same_pid}
use Rattle.std.proofs.lemmas.Bool.{and_parts, eqb-true}
use Rattle.pt_signal.proofs.Same.{same_pid_is, same_pid_refl}
use Rattle.pt_judge.specs.Filing.{Queued, is_pair, queue_of, IsQueued}

pub own_pair : (a b : Pid) → is_pair a b (a, b) ≡ true
own_pair a b = rw (same_pid_refl a, same_pid_refl b) refl

module _ (a b : Pid) (old new : Queued) where
  found : (o p : Option (List ℕ)) (c : Bool) → unwrap_or (cond c o p) [] ≡ cond c (unwrap_or o []) (unwrap_or p [])
  found o p true = refl
  found o p false = refl

  pub updated : (o : Option (List ℕ)) → ((k : Pid × Pid) → lookup (is_pair k.0 k.1) new ≡ cond (is_pair a b k) o (lookup (is_pair k.0 k.1) old)) → IsQueued a b (unwrap_or o []) old new
  updated o h p q = ap (λ z. unwrap_or z []) (h (p, q)) ∙ found o (lookup (is_pair p q) old) (is_pair a b (p, q))

pub on_ok : {E : Type 0} {P Q : Type 0} (r : Result (Unit {0}) E) → (P → Q) → OnOk r P → OnOk r Q
on_ok (Ok u) f h = f h
on_ok (Err e) f h = tt

pub is_there : (o : Option (List ℕ)) (xs : List ℕ) → Some xs ≡ o → IsSome o
is_there None xs h = absurd (cc)
is_there (Some ys) xs h = refl

-- where the two have no queue, none has changed
pub none_queued : (a b : Pid) (old : Queued) → None ≡ lookup (is_pair a b) old → IsQueued a b (drop 1 (queue_of old a b)) old old
none_queued a b old h p q = go (is_pair a b (p, q)) refl
  where
    go : (c : Bool) → is_pair a b (p, q) ≡ c → queue_of old p q ≡ cond (is_pair a b (p, q)) (drop 1 (queue_of old a b)) (queue_of old p q)
    go false e = rw e refl
    go true e =
        let x = and_parts (same_pid a p) (same_pid b q) e in
        let own : queue_of old a b ≡ queue_of old p q = ap (λ z. queue_of old z b) (same_pid_is a p x.0) ∙ ap (λ z. queue_of old p z) (same_pid_is b q x.1) in
        let none : queue_of old a b ≡ [] = ap (λ o. unwrap_or o []) (sym h) in
        rw e (sym own ∙ none ∙ sym (ap (drop 1) none))

pub own_queue : (a b : Pid) (queue : List ℕ) (old new : Queued) → IsQueued a b queue old new → queue_of new a b ≡ queue
own_queue a b queue old new h = h a b ∙ ap (λ c. cond c queue (queue_of old a b)) (own_pair a b)

nothing : (xs : List ℕ) → nat_eq (length xs) 0 ≡ true → xs ≡ []
nothing [] h = refl
nothing (x ∷ xs) h = let e : length (x ∷ xs) ≡ 0 = eqb-true (length (x ∷ xs)) 0 h in absurd (omega (arith, e))

-- a queue that went with its last number
pub closed : (a b : Pid) (queue : List ℕ) (old mid new : Queued) → IsQueued a b queue old mid → nat_eq (length (queue_of mid a b)) 0 ≡ true → IsQueued a b [] mid new → IsQueued a b queue old new
closed a b queue old mid new h n k p q = k p q ∙ go (is_pair a b (p, q)) refl
  where
    empty : queue ≡ []
    empty = sym (own_queue a b queue old mid h) ∙ nothing (queue_of mid a b) n

    go : (c : Bool) → is_pair a b (p, q) ≡ c → cond (is_pair a b (p, q)) [] (queue_of mid p q) ≡ cond (is_pair a b (p, q)) queue (queue_of old p q)
    go true e = rw e (sym empty)
    go false e = let m : queue_of mid p q ≡ queue_of old p q = h p q ∙ ap (λ c. cond c queue (queue_of old p q)) e in rw e m
