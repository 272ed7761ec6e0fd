-- One of the desks is changed, and stays the desk of its place.
use Rattle.std.proofs.Common.{◌≡◌, ℕ, ◌<◌, ◌==◌, Bool, true, false, List, length, get_or, refl, ap, sym, ◌∙◌, subst, arith}
use Rattle.std.specs.Prelude.{slice_set}
use Rattle.std.proofs.lemmas.Bool.{eqb-true, eq-eqb, both_ways}
use Rattle.std.proofs.lemmas.List.{get_or-set_same, get_or-set_other, length-set}
use Rattle.pt_signal.specs.declared.config.Config.{Config}
use Rattle.pt_shard.specs.ShardState.{ShardState}
use Rattle.pt_gathered.specs.Gathered.{IsShardOf}
use Rattle.pt_gathered.specs.Taking.{AreShards}

pub set_shard : (config : Config) (shards : List ShardState) (k : ℕ) (s : ShardState) → k < length shards → AreShards config shards → IsShardOf config k s → AreShards config (slice_set shards k s)
set_shard config shards k s within are is d x h = go (d == k) refl where
  go : (b : Bool) → (d == k) ≡ b → IsShardOf config d (get_or (slice_set shards k s) d x)
  go true q =
      let d_is : d ≡ k = eqb-true d k q in
      subst (IsShardOf config d) (sym (ap (λ i. get_or (slice_set shards k s) i x) d_is ∙ get_or-set_same shards k s x within)) (subst (λ i. IsShardOf config i s) (sym d_is) is)
  go false q =
      subst (IsShardOf config d) (sym (get_or-set_other shards k d s x (λ r. both_ways (d == k) q (eq-eqb d k r)))) (are d x (omega (arith, h, length-set shards k s)))
