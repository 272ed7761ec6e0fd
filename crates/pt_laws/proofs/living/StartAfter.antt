-- The state after a history as the start of another.
use Rattle.std.proofs.Common.{◌≡◌, ℕ, ◌+◌, ◌≤◌, inl, inr, Bool, List, [], ◌∷◌, ◌++◌, map, cond, refl, sym, ap, ◌∙◌, subst, arith, le_refl}
use Rattle.std.specs.Map.{keys_of}
use Rattle.pt_signal.specs.declared.pid.Pid.{Pid}
use Rattle.pt_signal.specs.declared.ids.Ref.{Ref}
use Rattle.pt_signal.specs.declared.signal.Signal.{Signal}
use Rattle.pt_signal.specs.Values.{same_pid}
use Rattle.pt_signal.specs.Process.{ProcessState, fresh, same_watch}
use Rattle.pt_events.specs.History.{Past, Start, Phase, unborn, living, ended, life, state, state_of, at_start, is_unborn, IsLegal}
use Rattle.pt_laws.specs.Load.{IsStart, IsQuiet, times, pids}
use Rattle.pt_events.specs.Counting.{count}
use Rattle.pt_laws.specs.Watch.{is_monitor, said_times}
use Rattle.pt_laws.specs.Resumed.{outcome, start_after, reasonless, without_reasons, AllNewTo, IsKnownAs, IsLeftBy}
use Rattle.pt_events.proofs.Forgetting.{forgets_each, forgets_keys, reasonless_unborn}
use Rattle.pt_laws.specs.MonitorLaws.{IsMadeOnce}
use Rattle.pt_laws.specs.Words.{HasOneEntryEach, KeepsEachOnce}
use Rattle.pt_laws.proofs.lanes.Load.{born_once}
use Rattle.pt_laws.proofs.monitoring.Downs.{opens, count_law}
use Rattle.pt_laws.proofs.living.Acts.{legal_acts}
use Rattle.pt_laws.proofs.monitoring.Monitors.{said_once}
use Rattle.pt_laws.proofs.living.Resumed.{started, outcome_unborn, known, over_legal}
use Rattle.pt_laws.proofs.linking.LinksSince.{keyed}
use Rattle.pt_laws.proofs.monitoring.WatchesSince.{kept_once}

-- what an outcome holds is what was held, or nothing
less : (f : ProcessState → ℕ) → f fresh ≡ 0 → (p : Phase) → f (state_of (outcome p)) ≤ f (state_of p)
less f z unborn = le_refl _
less f z (living s) = le_refl _
less f z (ended r s) = omega (arith, z)

pub less_reasonless : (f : ProcessState → ℕ) → f fresh ≡ 0 → (p : Phase) → f (state_of (reasonless p)) ≤ f (state_of p)
less_reasonless f z unborn = le_refl _
less_reasonless f z (living s) = le_refl _
less_reasonless f z (ended r s) = omega (arith, z)

less_known : (f : ProcessState → ℕ) → f fresh ≡ 0 → (p q : Phase) → IsKnownAs p q → f (state_of p) ≤ f (state_of q)
less_known f z p q (inl h) = subst (λ g. f (state_of g) ≤ f (state_of q)) (sym h) (less f z q)
less_known f z p q (inr h) = subst (λ g. f (state_of g) ≤ f (state_of q)) (sym h) (less_reasonless f z q)

few : (f : ProcessState → ℕ) → f fresh ≡ 0 → (p : Phase) → f (state_of p) ≤ 1 → f (state_of (outcome p)) ≤ 1
few f z p h = let l = less f z p in omega arith

pub opened : (start : Start) → IsStart start → (old : Past) (w : Pid) (m : Ref) → opens m (state (start_after start old) [] w).watching ≤ opens m (state start old w).watching
opened start ok old w m = subst (λ f. opens m (state_of f).watching ≤ opens m (state start old w).watching) (sym (started start ok old w)) (less (λ s. opens m s.watching) refl (life start old w))

keys_paired : (f : Pid → Phase) (ps : List Pid) → keys_of (map (λ q. (q, f q)) ps) ≡ ps
keys_paired f [] = refl
keys_paired f (p ∷ ps) = ap (λ z. p ∷ z) (keys_paired f ps)

module _ (start : Start) (ok : IsStart start) (old : Past) (legal : IsLegal start old) (quiet : IsQuiet start old) where
  pub is_start : IsStart (start_after start old)
  is_start p =
      subst (λ ps. times p ps ≡ cond (is_unborn (at_start (start_after start old) p)) 0 1) (sym (keys_paired (λ q. outcome (life start old q)) (pids start old)))
      (subst (λ b. times p (pids start old) ≡ cond b 0 1) (sym (ap is_unborn (started start ok old p) ∙ outcome_unborn (life start old p))) (born_once start ok old p))

  pub one_entry_each : HasOneEntryEach start → HasOneEntryEach (start_after start old)
  one_entry_each h p q = subst (λ f. count (λ e. same_pid q e.0) (state_of f).links ≤ 1) (sym (started start ok old p)) (few (λ s. count (λ e. same_pid q e.0) s.links) refl (life start old p) (keyed start h p old q))

  pub keeps_once : KeepsEachOnce start → KeepsEachOnce (start_after start old)
  keeps_once h t w m = subst (λ f. count (same_watch m w) (state_of f).kept ≤ 1) (sym (started start ok old t)) (few (λ s. count (same_watch m w) s.kept) refl (life start old t) (kept_once start h t old w m))

pub said_times-append : (w : Pid) (test : Signal → Bool) (new old : Past) → said_times w test (new ++ old) ≡ said_times w test new + said_times w test old
said_times-append w test [] old = omega arith
said_times-append w test (e ∷ new) old = let ih = said_times-append w test new old in omega arith

pub made_once : (start : Start) (old past : Past) (w : Pid) (m : Ref) → IsLeftBy start old → AllNewTo old past → IsLegal start past → IsMadeOnce start past w m
made_once start old past w m left fresh h =
    let law = count_law [] m w old (legal_acts [] old left.legal) in
    let once = said_once m w [] (past ++ old) (legal_acts [] (past ++ old) (over_legal [] start old left.legal left.quiet (known start old left) past fresh h)) in
    let split = said_times-append w (is_monitor m) past old in
    let begun : opens m (state start [] w).watching ≤ opens m (state [] old w).watching =
    less_known (λ s. opens m s.watching) refl (at_start start w) (life [] old w) (left.alike w)
    in
    omega arith

-- a start that forgets its reasons ------------------------------------------------------------------

few_reasonless : (f : ProcessState → ℕ) → f fresh ≡ 0 → (p : Phase) → f (state_of p) ≤ 1 → f (state_of (reasonless p)) ≤ 1
few_reasonless f z p h = let l = less_reasonless f z p in omega arith

pub forgetting_left : (start : Start) (old : Past) → IsLeftBy start old → IsLeftBy (without_reasons start) old
forgetting_left start old left = record {
  legal = left.legal;
  quiet = left.quiet;
  alike = λ p. inr (forgets_each start p ∙ known start old left p);
}

pub forgetting_start : (start : Start) → IsStart start → IsStart (without_reasons start)
forgetting_start start ok p =
    ap (times p) (forgets_keys start) ∙ ok p ∙ ap (λ b. cond b 0 1) (sym (ap is_unborn (forgets_each start p) ∙ reasonless_unborn (at_start start p)))

pub forgetting_entries : (start : Start) → HasOneEntryEach start → HasOneEntryEach (without_reasons start)
forgetting_entries start h p q =
    subst (λ f. count (λ e. same_pid q e.0) (state_of f).links ≤ 1) (sym (forgets_each start p)) (few_reasonless (λ s. count (λ e. same_pid q e.0) s.links) refl (at_start start p) (h p q))

pub forgetting_keeps : (start : Start) → KeepsEachOnce start → KeepsEachOnce (without_reasons start)
forgetting_keeps start h t w m =
    subst (λ f. count (same_watch m w) (state_of f).kept ≤ 1) (sym (forgets_each start t)) (few_reasonless (λ s. count (same_watch m w) s.kept) refl (at_start start t) (h t w m))
