-- How often a pid stands in what was before the journals of all desks together.
use Rattle.std.proofs.Common.{◌≡◌, ℕ, zero, suc, ◌+◌, ◌<◌, ◌≤◌, cond, List, [], ◌∷◌, ◌++◌, length, get_or, refl, sym, ap, ◌∙◌, append-nil, arith, ⊎_elim}
use Rattle.std.specs.Map.{lookup, keys_of}
use Rattle.std.proofs.lemmas.Bool.{cases_lt}
use Rattle.pt_signal.specs.declared.pid.Pid.{Pid}
use Rattle.pt_signal.specs.Values.{same_pid}
use Rattle.pt_events.specs.History.{Start, unborn, at_start, phase_or_unborn, is_unborn}
use Rattle.pt_laws.specs.Load.{IsStart, times}
use Rattle.pt_shard.specs.ShardState.{ShardState}
use Rattle.pt_shard.specs.Begun.{Every}
use Rattle.pt_beginning.specs.Beginning.{start_of}
use Rattle.pt_gathered.proofs.Starts.{Own, at_own, above_all, elsewhere, other_first}

times_both : (p : Pid) (xs ys : Start) → times p (keys_of (xs ++ ys)) ≡ times p (keys_of xs) + times p (keys_of ys)
times_both p [] ys = omega arith
times_both p (b ∷ xs) ys = let ih = times_both p xs ys in omega arith

times_other : (n : ℕ) (xs : Start) (p : Pid) → Every (λ b. b.0.shard ≡ n) xs → (p.shard ≡ n → ⊥) → times p (keys_of xs) ≡ 0
times_other n [] p own other = refl
times_other n (b ∷ xs) p own other = rw (elsewhere p b.0 (λ e. other (e ∙ own.0))) (let ih = times_other n xs p own.1 other in omega arith)

times_below : (n : ℕ) (shards : List ShardState) → Own n shards → (p : Pid) → p.shard < n → times p (keys_of (start_of shards)) ≡ 0
times_below n [] own p below = refl
times_below n (s ∷ shards) own p below =
    let here = times_other n s.start p own.0 (λ e. absurd (omega (arith, e))) in
    let rest = times_below (suc n) shards own.1 p (omega arith) in
    times_both p s.start (start_of shards) ∙ omega (arith, here, rest)

times_above : (n : ℕ) (shards : List ShardState) → Own n shards → (p : Pid) → n + length shards ≤ p.shard → times p (keys_of (start_of shards)) ≡ 0
times_above n [] own p above = refl
times_above n (s ∷ shards) own p above =
    let here = times_other n s.start p own.0 (λ e. absurd (omega (arith, e))) in
    let rest = times_above (suc n) shards own.1 p (omega arith) in
    times_both p s.start (start_of shards) ∙ omega (arith, here, rest)

times_at : (n : ℕ) (shards : List ShardState) → Own n shards → (i : ℕ) (x : ShardState) → i < length shards → (p : Pid) → p.shard ≡ n + i
    → times p (keys_of (get_or shards i x).start) ≡ times p (keys_of (start_of shards))
times_at n [] own i x h p e = absurd (omega arith)
times_at n (s ∷ shards) own zero x h p e =
    let rest = times_below (suc n) shards own.1 p (omega arith) in
    sym (times_both p s.start (start_of shards) ∙ omega (arith, rest))
times_at n (s ∷ shards) own (suc i) x h p e =
    let here = times_other n s.start p own.0 (λ k. absurd (omega (arith, e, k))) in
    let rest = times_at (suc n) shards own.1 i x (omega arith) p (omega arith) in
    rest ∙ sym (times_both p s.start (start_of shards) ∙ omega (arith, here))

lookup_other : (n : ℕ) (xs : Start) (p : Pid) → Every (λ b. b.0.shard ≡ n) xs → (p.shard ≡ n → ⊥) → at_start xs p ≡ unborn
lookup_other n xs p own other = ap (λ z. phase_or_unborn (lookup (same_pid p) z)) (sym (append-nil xs)) ∙ ap phase_or_unborn (other_first n xs [] p own other)

-- whom all desks have once, his own desk has once, and the other way round
module _ (shards : List ShardState) (own : Own 0 shards) where
  pub once_in : IsStart (start_of shards) → (d : ℕ) (x : ShardState) → d < length shards → Every (λ b. b.0.shard ≡ d) (get_or shards d x).start → IsStart (get_or shards d x).start
  once_in once d x h here p = ⊎_elim (λ (l : p.shard < d). elsewhere_once (λ e. absurd (omega (arith, e, l)))) (λ (l : d ≤ p.shard). ⊎_elim (λ (m : d < p.shard). elsewhere_once (λ e. absurd (omega (arith, e, m)))) (λ (m : p.shard ≤ d). at_home (omega (arith, l, m))) (cases_lt d p.shard)) (cases_lt p.shard d)
    where
      elsewhere_once : (p.shard ≡ d → ⊥) → times p (keys_of (get_or shards d x).start) ≡ cond (is_unborn (at_start (get_or shards d x).start p)) 0 1
      elsewhere_once other = rw (lookup_other d (get_or shards d x).start p here other) (times_other d (get_or shards d x).start p here other)

      at_home : p.shard ≡ d → times p (keys_of (get_or shards d x).start) ≡ cond (is_unborn (at_start (get_or shards d x).start p)) 0 1
      at_home e =
          let at : p.shard ≡ 0 + d = omega (arith, e) in
          times_at 0 shards own d x h p at ∙ once p ∙ ap (λ o. cond (is_unborn (phase_or_unborn o)) 0 1) (sym (at_own 0 shards own d x h p at))

  pub once_all : ((d : ℕ) (x : ShardState) → d < length shards → IsStart (get_or shards d x).start) → (x : ShardState) → IsStart (start_of shards)
  once_all each x p = ⊎_elim inside outside (cases_lt p.shard (length shards))
    where
      inside : p.shard < length shards → times p (keys_of (start_of shards)) ≡ cond (is_unborn (at_start (start_of shards) p)) 0 1
      inside h =
          let at : p.shard ≡ 0 + p.shard = omega arith in
          sym (times_at 0 shards own p.shard x h p at) ∙ each p.shard x h p ∙ ap (λ o. cond (is_unborn (phase_or_unborn o)) 0 1) (at_own 0 shards own p.shard x h p at)

      outside : length shards ≤ p.shard → times p (keys_of (start_of shards)) ≡ cond (is_unborn (at_start (start_of shards) p)) 0 1
      outside h =
          let none : at_start (start_of shards) p ≡ unborn = ap phase_or_unborn (above_all 0 shards own p (omega arith)) in
          rw none (times_above 0 shards own p (omega arith))
