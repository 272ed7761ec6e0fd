-- A beginning that forgets why processes ended is a beginning, of the same history.
use Rattle.std.proofs.Common.{◌≡◌, ℕ, ◌≤◌, List, [], ◌∷◌, ◌++◌, map, refl, sym, ap, ◌∙◌, subst, arith}
use Rattle.pt_signal.specs.Values.{same_ref}
use Rattle.pt_events.specs.History.{Past, Start, at_start, state_of, is_unborn}
use Rattle.pt_events.specs.Counting.{count}
use Rattle.pt_events.specs.OldRefs.{HasOldRefs}
use Rattle.pt_events.specs.Forgetting.{without_reasons}
use Rattle.pt_events.proofs.Forgetting.{forgets_each, forgets_both, reasonless_unborn}
use Rattle.pt_laws.proofs.living.StartAfter.{less_reasonless, forgetting_left, forgetting_start, forgetting_entries, forgetting_keeps}
use Rattle.pt_shard.specs.ShardState.{ShardState}
use Rattle.pt_shard.specs.Restart.{forgetful}
use Rattle.pt_beginning.specs.Beginning.{IsBeginning, start_of}
use Rattle.pt_gathered.specs.Pasts.{IsOutlineOf}

old_refs : (low : ℕ) (start : Start) → HasOldRefs low start → HasOldRefs low (without_reasons start)
old_refs low start h w m =
    let less : count (λ e. same_ref m e.0) (state_of (at_start (without_reasons start) w)).watching ≤ count (λ e. same_ref m e.0) (state_of (at_start start w)).watching =
    subst (λ f. count (λ e. same_ref m e.0) (state_of f).watching ≤ count (λ e. same_ref m e.0) (state_of (at_start start w)).watching) (sym (forgets_each start w))
    (less_reasonless (λ s. count (λ e. same_ref m e.0) s.watching) refl (at_start start w)) in
    let was = h w m in
    (omega (arith, less, was.0), λ above. let none = was.1 above in omega (arith, less, none))

begins_without : (low : ℕ) (start : Start) → IsBeginning low start → IsBeginning low (without_reasons start)
begins_without low start b = record {
  past = b.past;
  left = forgetting_left start b.past b.left;
  known = b.known;
  home = b.home;
  numbered = b.numbered;
  once = forgetting_start start b.once;
  refs = old_refs low start b.refs;
  since = λ p born. b.since p (sym (reasonless_unborn (at_start start p)) ∙ sym (ap is_unborn (forgets_each start p)) ∙ born);
  entries = forgetting_entries start b.entries;
  kept = forgetting_keeps start b.kept;
}

-- of all desks
start_without : (shards : List ShardState) → start_of (map forgetful shards) ≡ without_reasons (start_of shards)
start_without [] = refl
start_without (s ∷ shards) = ap (λ z. without_reasons s.start ++ z) (start_without shards) ∙ sym (forgets_both s.start (start_of shards))

pub beginning_without : (low : ℕ) (shards : List ShardState) → IsBeginning low (start_of shards) → IsBeginning low (start_of (map forgetful shards))
beginning_without low shards b = subst (IsBeginning low) (sym (start_without shards)) (begins_without low (start_of shards) b)

pub outline_without : (past : Past) (low : ℕ) (shards : List ShardState) → IsOutlineOf past low (start_of shards) → IsOutlineOf past low (start_of (map forgetful shards))
unfolding begins_without
outline_without past low shards o =
    subst (IsOutlineOf past low) (sym (start_without shards)) (record { begun = begins_without low (start_of shards) o.begun; past_is = o.past_is })
