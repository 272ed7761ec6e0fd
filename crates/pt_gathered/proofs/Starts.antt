-- What was before the journals of all desks together.
use Rattle.std.proofs.Common.{◌≡◌, ℕ, zero, suc, ◌+◌, ◌<◌, ◌≤◌, Bool, true, false, cond, Some, None, List, [], ◌∷◌, ◌++◌, length, map, get_or, refl, sym, ap, ◌∙◌, subst, arith}
use Rattle.std.specs.Prelude.{⊤}
use Rattle.std.specs.Map.{lookup}
use Rattle.std.proofs.lemmas.Bool.{ne_eqb}
use Rattle.std.specs.List.{flat_map}
use Rattle.pt_signal.specs.declared.pid.Pid.{Pid}
use Rattle.pt_signal.specs.Values.{same_pid}
use Rattle.pt_events.specs.History.{Start, at_start, phase_or_unborn, unborn}
use Rattle.pt_signal.specs.declared.config.Config.{Config}
use Rattle.pt_shard.specs.ShardState.{ShardState}
use Rattle.pt_shard.specs.Begun.{Every}
use Rattle.pt_beginning.specs.Beginning.{start_of}
use Rattle.pt_gathered.specs.Taking.{AreShards}

-- the desks, which began with nothing, began together with nothing
pub all_empty : (shards : List ShardState) → ((d : ℕ) (x : ShardState) → d < length shards → (get_or shards d x).start ≡ []) → start_of shards ≡ []
all_empty [] h = refl
all_empty (s ∷ shards) h = rw (h 0 s (omega arith)) (all_empty shards (λ d x l. h (suc d) x (omega arith)))

-- the processes of each desk, numbered from n on, are of that desk
abbrev pub Own : ℕ → List ShardState → Type 0
Own n [] = ⊤
Own n (s ∷ shards) = Every (λ b. b.0.shard ≡ n) s.start × Own (suc n) shards

pub own_each : (n : ℕ) (shards : List ShardState) → ((i : ℕ) (x : ShardState) → i < length shards → Every (λ b. b.0.shard ≡ n + i) (get_or shards i x).start) → Own n shards
own_each n [] h = tt
own_each n (s ∷ shards) h =
    let here : n + 0 ≡ n = omega arith in (
      subst (λ k. Every (λ b. b.0.shard ≡ k) s.start) here (h 0 s (omega arith)),
      own_each (suc n) shards (λ i x l. let next : n + suc i ≡ suc n + i = omega arith in subst (λ k. Every (λ b. b.0.shard ≡ k) (get_or shards i x).start) next (h (suc i) x (omega arith))),
    )

pub elsewhere : (p q : Pid) → (p.shard ≡ q.shard → ⊥) → same_pid p q ≡ false
elsewhere p q other = rw (ne_eqb p.shard q.shard other) refl

-- whom the first list has not, the second has, or nobody; and the other way round
pub other_first : (n : ℕ) (xs ys : Start) (p : Pid) → Every (λ b. b.0.shard ≡ n) xs → (p.shard ≡ n → ⊥) → lookup (same_pid p) (xs ++ ys) ≡ lookup (same_pid p) ys
other_first n [] ys p own other = refl
other_first n (b ∷ xs) ys p own other = rw (elsewhere p b.0 (λ e. other (e ∙ own.0))) (other_first n xs ys p own.1 other)

not_after : (xs ys : Start) (p : Pid) → lookup (same_pid p) ys ≡ None → lookup (same_pid p) (xs ++ ys) ≡ lookup (same_pid p) xs
not_after [] ys p none = none
not_after (b ∷ xs) ys p none = go (same_pid p b.0) (not_after xs ys p none)
  where
    go : (t : Bool) → lookup (same_pid p) (xs ++ ys) ≡ lookup (same_pid p) xs → cond t (Some b.1) (lookup (same_pid p) (xs ++ ys)) ≡ cond t (Some b.1) (lookup (same_pid p) xs)
    go true ih = refl
    go false ih = ih

below_all : (n : ℕ) (shards : List ShardState) → Own n shards → (p : Pid) → p.shard < n → lookup (same_pid p) (start_of shards) ≡ None
below_all n [] own p below = refl
below_all n (s ∷ shards) own p below =
    other_first n s.start (start_of shards) p own.0 (λ e. absurd (omega (arith, e))) ∙ below_all (suc n) shards own.1 p (omega arith)

pub above_all : (n : ℕ) (shards : List ShardState) → Own n shards → (p : Pid) → n + length shards ≤ p.shard → lookup (same_pid p) (start_of shards) ≡ None
above_all n [] own p above = refl
above_all n (s ∷ shards) own p above =
    other_first n s.start (start_of shards) p own.0 (λ e. absurd (omega (arith, e))) ∙ above_all (suc n) shards own.1 p (omega arith)

pub at_own : (n : ℕ) (shards : List ShardState) → Own n shards → (i : ℕ) (x : ShardState) → i < length shards → (p : Pid) → p.shard ≡ n + i
    → lookup (same_pid p) (get_or shards i x).start ≡ lookup (same_pid p) (start_of shards)
at_own n [] own i x h p e = absurd (omega arith)
at_own n (s ∷ shards) own zero x h p e = sym (not_after s.start (start_of shards) p (below_all (suc n) shards own.1 p (omega arith)))
at_own n (s ∷ shards) own (suc i) x h p e =
    at_own (suc n) shards own.1 i x (omega arith) p (omega arith) ∙ sym (other_first n s.start (start_of shards) p own.0 (λ k. absurd (omega (arith, e, k))))

pub owned : (config : Config) (shards : List ShardState) → AreShards config shards → Own 0 shards
owned config shards all =
    own_each 0 shards (λ i x h.
    let at : (get_or shards i x).number ≡ 0 + i = (all i x h).number ∙ omega arith in
    subst (λ k. Every (λ b. b.0.shard ≡ k) (get_or shards i x).start) at (all i x h).fit.begun.own)

-- of its own processes a desk has what all have together
pub start_same : (config : Config) (shards : List ShardState) → AreShards config shards → (d : ℕ) (x : ShardState) → d < length shards
    → (p : Pid) → p.shard ≡ d → at_start (get_or shards d x).start p ≡ at_start (start_of shards) p
start_same config shards all d x h p e = ap phase_or_unborn (at_own 0 shards (owned config shards all) d x h p (omega (arith, e)))

-- and there is nobody of other desks
pub nobody_beyond : (config : Config) (shards : List ShardState) → AreShards config shards → (p : Pid) → length shards ≤ p.shard → at_start (start_of shards) p ≡ unborn
nobody_beyond config shards all p h = ap phase_or_unborn (above_all 0 shards (owned config shards all) p (omega (arith, h)))

-- desks with the same starts, one for one
pub same_starts : (old new : List ShardState) → map (λ (s : ShardState). s.start) new ≡ map (λ (s : ShardState). s.start) old → start_of new ≡ start_of old
same_starts old new same = of_starts new ∙ ap (flat_map (λ (b : Start). b)) same ∙ sym (of_starts old)
  where
    of_starts : (shards : List ShardState) → start_of shards ≡ flat_map (λ (b : Start). b) (map (λ (s : ShardState). s.start) shards)
    of_starts [] = refl
    of_starts (s ∷ shards) = ap (λ z. s.start ++ z) (of_starts shards)
