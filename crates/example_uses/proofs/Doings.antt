-- Lemmas on what is done in turn.
use Rattle.std.proofs.Common.{◌≡◌, ℕ, zero, suc, ◌+◌, ◌<◌, inl, inr, Bool, true, false, Result, Ok, Err, refl, subst, add-one, arith, ⊎_elim}
use Rattle.std.proofs.lemmas.Bool.{cases_eq}
use Rattle.pt_shard.specs.declared.fault.Fault.{Fault}
use Rattle.example_uses.specs.Doing.{Doing, AtEach, Repeats}

module _ {S : Type 0} (does : ℕ → Doing S (Unit {0})) where
  pub at_none : (old : S) → AtEach does 0 old (Ok tt) old
  unfolding AtEach
  at_none old = (refl, refl)

  -- it was done below n, and then at n
  pub at_next : (n : ℕ) (old mid new : S) (r : Result (Unit {0}) Fault) → AtEach does n old (Ok tt) mid → does n mid r new → AtEach does (n + 1) old r new
  unfolding AtEach
  at_next n old mid new r below here = rw add-one (inr (tt, mid, below, here))

  -- it was done below k, and refused at k
  pub refused_at : (n k : ℕ) (old mid new : S) (fault : Fault) → k < n → AtEach does k old (Ok tt) mid → does k mid (Err fault) new → AtEach does n old (Err fault) new
  unfolding AtEach
  refused_at zero k old mid new fault h below here = absurd (omega arith)
  refused_at (suc n) k old mid new fault h below here =
      ⊎_elim (λ same. inr (tt, mid, subst (λ m. AtEach does m old (Ok tt) mid) same below, subst (λ m. does m mid (Err fault) new) same here))
      (λ apart. inl (fault, refused_at n k old mid new fault (omega arith) below here, refl)) (cases_eq k n)

module _ {S : Type 0} (does : Doing S Bool) where
  -- once, and then up to m times more
  pub repeats_more : (n m : ℕ) (old mid new : S) (r : Result (Unit {0}) Fault) → n ≡ suc m → does old (Ok true) mid → Repeats does m mid r new → Repeats does n old r new
  unfolding Repeats
  repeats_more n m old mid new r e here more = rw e (inr (true, mid, here, more))

  pub repeats_last : (n m : ℕ) (old new : S) → n ≡ suc m → does old (Ok false) new → Repeats does n old (Ok tt) new
  unfolding Repeats
  repeats_last n m old new e here = rw e (inr (false, new, here, (refl, refl)))

  pub repeats_refused : (n m : ℕ) (old new : S) (fault : Fault) → n ≡ suc m → does old (Err fault) new → Repeats does n old (Err fault) new
  unfolding Repeats
  repeats_refused n m old new fault e here = rw e (inl (fault, here, refl))

  pub repeats_none : (n : ℕ) (old : S) → n ≡ 0 → Repeats does n old (Ok tt) old
  unfolding Repeats
  repeats_none n old e = rw e (refl, refl)
