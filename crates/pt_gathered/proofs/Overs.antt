-- What is left over between any two numbers, of desks or not.
use Rattle.std.proofs.Common.{◌≡◌, ℕ, ◌<◌, ◌≤◌, Bool, true, false, [], length, refl, arith, nat_lt}
use Rattle.std.proofs.lemmas.Bool.{ltb-true, lt-ltb}
use Rattle.pt_gathered.specs.Gathered.{GatheredState, are_both, over, over_in}

module _ (g : GatheredState) where
  not_below : (d : ℕ) → length g.shards ≤ d → nat_lt d (length g.shards) ≡ false
  not_below d h = go (nat_lt d (length g.shards)) refl
    where
      go : (b : Bool) → nat_lt d (length g.shards) ≡ b → nat_lt d (length g.shards) ≡ false
      go false q = q
      go true q = let k = ltb-true d (length g.shards) q in absurd (omega arith)

  pub over_both : (d e : ℕ) → d < length g.shards → e < length g.shards → over g d e ≡ over_in g.shards g.lanes d e
  over_both d e h k = rw (lt-ltb d (length g.shards) h, lt-ltb e (length g.shards) k) refl

  pub over_left : (d e : ℕ) → length g.shards ≤ d → over g d e ≡ []
  over_left d e h = rw (not_below d h) refl

  pub over_right : (d e : ℕ) → length g.shards ≤ e → over g d e ≡ []
  over_right d e h = rw (not_below e h) (either (nat_lt d (length g.shards)))
    where
      either : (b : Bool) → are_both b false (over_in g.shards g.lanes d e) ≡ []
      either true = refl
      either false = refl
