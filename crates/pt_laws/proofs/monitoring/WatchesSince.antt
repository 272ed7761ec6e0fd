-- The watches that a process keeps are those that came and were not given up since.
use Rattle.std.proofs.Common.{◌≡◌, ◌+◌, ◌≤◌, Bool, true, false, cond, not, ◌&&◌, List, [], ◌∷◌, ◌++◌, filter, refl, sym, ap, ◌∙◌, subst, subst₂, arith, append-nil}
use Rattle.std.specs.Map.{lookup}
use Rattle.std.specs.List.{list_any}
use Rattle.std.proofs.lemmas.Bool.{and_parts}
use Rattle.pt_signal.specs.declared.pid.Pid.{Pid}
use Rattle.pt_signal.specs.declared.ids.Ref.{Ref}
use Rattle.pt_signal.specs.declared.signal.Signal.{Signal}
use Rattle.pt_signal.specs.declared.signal.Signal.TheVariants.{LinkExit, Monitor, Demonitor}
use Rattle.pt_events.specs.declared.event.Event.{Event}
use Rattle.pt_events.specs.declared.event.Event.TheVariants.{Born, Said, Came, Took, Flag, Left}
use Rattle.pt_signal.specs.Values.{same_pid, same_ref, without_first}
use Rattle.pt_signal.specs.Process.{ProcessState, verdict, held, holds_any, handle, say, same_watch, keep}
use Rattle.pt_events.specs.History.{Past, Start, Phase, unborn, living, ended, life, state, after, is_living, state_of, while_living, gets}
use Rattle.pt_events.specs.Counting.{one_if, count}
use Rattle.pt_laws.specs.Since.{standing}
use Rattle.pt_laws.specs.Words.{watch_enters, watch_leaves, KeepsEachOnce}
use Rattle.pt_signal.proofs.Same.{same_pid_is, same_ref_is}
use Rattle.pt_events.proofs.Phases.{each_branch}
use Rattle.pt_laws.proofs.order.Filters.{filter_all, all_stay, one_passes}
use Rattle.pt_events.proofs.Fields.{end_keeps, while_keeps, leaves_keeps, obey_keeps, link_exit_keeps, down_keeps, born_keeps, say_keeps}
use Rattle.pt_laws.proofs.monitoring.Counts.{count-append, count-some, count_less}

abbrev Watches : Type 0
Watches = List (Ref × Pid)

kept_more : (m : Ref) (w : Pid) (kept : Watches) → keep m w kept ≡ filter (λ k. true) kept ++ cond (not (list_any (same_watch m w) kept)) ((m, w) ∷ []) []
kept_more m w kept = go (list_any (same_watch m w) kept)
  where
    go : (b : Bool) → cond b kept (kept ++ (m, w) ∷ []) ≡ filter (λ k. true) kept ++ cond (not b) ((m, w) ∷ []) []
    go true = all_stay kept
    go false = ap (λ z. z ++ (m, w) ∷ []) (sym (filter_all kept))

-- no watch is kept twice
abbrev pub KeptOnce : Watches → Type 0
KeptOnce kept = (w : Pid) (m : Ref) → count (same_watch m w) kept ≤ 1

once_more : (n : Ref) (a : Pid) (kept : Watches) → KeptOnce kept → KeptOnce (keep n a kept)
once_more n a kept h w m = go (list_any (same_watch n a) kept) refl
  where
    added : list_any (same_watch n a) kept ≡ false → (b : Bool) → same_watch m w (n, a) ≡ b → one_if b + count (same_watch m w) kept ≤ 1
    added e true f =
        let q = and_parts (same_ref m n) (same_pid w a) f in
        let z = subst₂ (λ n a. count (same_watch n a) kept ≡ 0) (sym (same_ref_is m n q.0)) (sym (same_pid_is w a q.1)) (count-some (same_watch n a) kept e) in omega arith
    added e false f = let k = h w m in omega arith

    go : (b : Bool) → list_any (same_watch n a) kept ≡ b → count (same_watch m w) (cond b kept (kept ++ (n, a) ∷ [])) ≤ 1
    go true e = h w m
    go false e = let c = count-append (same_watch m w) kept ((n, a) ∷ []) in let k = added e (same_watch m w (n, a)) refl in omega arith

once_less : (n : Ref) (a : Pid) (kept : Watches) → KeptOnce kept → KeptOnce (without_first (same_watch n a) kept)
once_less n a kept h w m = let c = count_less (same_watch m w) (same_watch n a) kept in let k = h w m in omega arith

-- one event ----------------------------------------------------------------------------------------

module _ (t : Pid) where
  abbrev pub KeptStep : Phase → Phase → Event → Type 0
  KeptStep g f e = (state_of g).kept ≡ filter (λ k. not (watch_leaves t f e k)) (state_of f).kept ++ watch_enters t f e

  same_kept : (g f : Phase) → (state_of g).kept ≡ (state_of f).kept → (state_of g).kept ≡ filter (λ k. true) (state_of f).kept ++ []
  same_kept g f h = h ∙ all_stay (state_of f).kept

  came_other : (a : Pid) (x : Signal) → ((s : ProcessState) → (handle t s a x).state.kept ≡ s.kept) → (b : Bool) (f : Phase)
      → (state_of (cond b (gets t a x f) f)).kept ≡ filter (λ k. true) (state_of f).kept ++ []
  came_other a x h true unborn = refl
  came_other a x h true (living s) = (end_keeps (λ s. s.kept) (handle t s a x).ending (handle t s a x).state ∙ h s) ∙ all_stay s.kept
  came_other a x h true (ended r s) = all_stay s.kept
  came_other a x h false f = all_stay (state_of f).kept

  came_monitor : (w : Pid) (m : Ref) (b : Bool) (f : Phase)
      → (state_of (cond b (gets t w (Monitor m) f) f)).kept ≡ filter (λ k. true) (state_of f).kept ++ cond (is_living f && b && not (list_any (same_watch m w) (state_of f).kept)) ((m, w) ∷ []) []
  came_monitor w m true unborn = refl
  came_monitor w m true (living s) = kept_more m w s.kept
  came_monitor w m true (ended r s) = all_stay s.kept
  came_monitor w m false unborn = refl
  came_monitor w m false (living s) = all_stay s.kept
  came_monitor w m false (ended r s) = all_stay s.kept

  came_demonitor : (w : Pid) (m : Ref) (b : Bool) (f : Phase) → KeptOnce (state_of f).kept
      → (state_of (cond b (gets t w (Demonitor m) f) f)).kept ≡ filter (λ k. not (is_living f && b && same_watch m w k)) (state_of f).kept ++ []
  came_demonitor w m true unborn h = refl
  came_demonitor w m true (living s) h = one_passes (same_watch m w) s.kept (h w m) ∙ sym (append-nil _)
  came_demonitor w m true (ended r s) h = all_stay s.kept
  came_demonitor w m false unborn h = refl
  came_demonitor w m false (living s) h = all_stay s.kept
  came_demonitor w m false (ended r s) h = all_stay s.kept

  kept_step : (e : Event) (f : Phase) → KeptOnce (state_of f).kept → KeptStep (after t e f) f e
  kept_step (Came a b (Signal.Exit r)) f h = came_other a (Signal.Exit r) (λ s. obey_keeps (λ s. s.kept) (λ w s. refl) (verdict false s.traps (same_pid a t) a r) s) (same_pid t b) f
  kept_step (Came a b (LinkExit ids r)) f h = came_other a (LinkExit ids r) (λ s. link_exit_keeps (λ s. s.kept) (λ w s. refl) (λ l s. refl) (holds_any (held s.links a) ids) t s a r) (same_pid t b) f
  kept_step (Came a b (Monitor m)) f h = came_monitor a m (same_pid t b) f
  kept_step (Came a b (Demonitor m)) f h = came_demonitor a m (same_pid t b) f h
  kept_step (Came a b (Signal.Down m r)) f h = came_other a (Signal.Down m r) (λ s. down_keeps (λ s. s.kept) (λ w s. refl) (λ l s. refl) (lookup (same_ref m) s.watching) s a m r) (same_pid t b) f
  kept_step (Born q parent link) f h = same_kept (after t (Born q parent link) f) f (born_keeps (λ s. s.kept) (λ l s. refl) t q parent link f)
  kept_step (Said a b x) f h =
      each_branch (λ g. (state_of g).kept ≡ filter (λ k. true) (state_of f).kept ++ []) (same_pid t a) _ _
      (same_kept (while_living (λ s. say s b x) f) f (while_keeps (λ s. s.kept) (λ s. say s b x) (say_keeps (λ s. s.kept) (λ l s. refl) (λ l s. refl) b x) f)) (all_stay (state_of f).kept)
  kept_step (Took q k i) f h =
      each_branch (λ g. (state_of g).kept ≡ filter (λ k. true) (state_of f).kept ++ []) (same_pid t q) _ _ (while_keeps (λ s. s.kept) _ (λ s. refl) f ∙ all_stay (state_of f).kept) (all_stay (state_of f).kept)
  kept_step (Flag q on) f h =
      each_branch (λ g. (state_of g).kept ≡ filter (λ k. true) (state_of f).kept ++ []) (same_pid t q) _ _ (while_keeps (λ s. s.kept) _ (λ s. refl) f ∙ all_stay (state_of f).kept) (all_stay (state_of f).kept)
  kept_step (Left q r) f h =
      each_branch (λ g. (state_of g).kept ≡ filter (λ k. true) (state_of f).kept ++ []) (same_pid t q) _ _ (leaves_keeps (λ s. s.kept) r f ∙ all_stay (state_of f).kept) (all_stay (state_of f).kept)
  kept_step (Came a b x) f h = came_other a x (λ s. refl) (same_pid t b) f
  kept_step _ f h = all_stay (state_of f).kept

  -- no watch comes to be kept twice
  once_handled : (s : ProcessState) (a : Pid) (x : Signal) → KeptOnce s.kept → KeptOnce (handle t s a x).state.kept
  once_handled s a (Monitor m) h = once_more m a s.kept h
  once_handled s a (Demonitor m) h = once_less m a s.kept h
  once_handled s a (Signal.Exit r) h = rw (obey_keeps (λ s. s.kept) (λ w s. refl) (verdict false s.traps (same_pid a t) a r) s) h
  once_handled s a (LinkExit ids r) h = rw (link_exit_keeps (λ s. s.kept) (λ w s. refl) (λ l s. refl) (holds_any (held s.links a) ids) t s a r) h
  once_handled s a (Signal.Down m r) h = rw (down_keeps (λ s. s.kept) (λ w s. refl) (λ l s. refl) (lookup (same_ref m) s.watching) s a m r) h
  once_handled s a _ h = h

  once_gets : (a : Pid) (x : Signal) (f : Phase) → KeptOnce (state_of f).kept → KeptOnce (state_of (gets t a x f)).kept
  once_gets a x unborn h = h
  once_gets a x (living s) h = rw (end_keeps (λ s. s.kept) (handle t s a x).ending (handle t s a x).state) (once_handled s a x h)
  once_gets a x (ended r s) h = h

  abbrev Once : Phase → Type 0
  Once f = KeptOnce (state_of f).kept

  once_step : (e : Event) (f : Phase) → KeptOnce (state_of f).kept → KeptOnce (state_of (after t e f)).kept
  once_step (Born q parent link) f h = rw (born_keeps (λ s. s.kept) (λ l s. refl) t q parent link f) h
  once_step (Said a b x) f h = each_branch Once (same_pid t a) _ _ (rw (while_keeps (λ s. s.kept) (λ s. say s b x) (say_keeps (λ s. s.kept) (λ l s. refl) (λ l s. refl) b x) f) h) h
  once_step (Came a b x) f h = each_branch Once (same_pid t b) _ _ (once_gets a x f h) h
  once_step (Took q k i) f h = each_branch Once (same_pid t q) _ _ (subst KeptOnce (sym (while_keeps (λ s. s.kept) _ (λ s. refl) f)) h) h
  once_step (Flag q on) f h = each_branch Once (same_pid t q) _ _ (subst KeptOnce (sym (while_keeps (λ s. s.kept) _ (λ s. refl) f)) h) h
  once_step (Left q r) f h = each_branch Once (same_pid t q) _ _ (rw (leaves_keeps (λ s. s.kept) r f) h) h
  once_step _ f h = h

module _ (start : Start) (ok : KeepsEachOnce start) (t : Pid) where
  pub kept_once : (past : Past) → KeptOnce (state start past t).kept
  kept_once [] = ok t
  kept_once (e ∷ past) = once_step t e (life start past t) (kept_once past)

  pub kept_since : (past : Past)
      → (state start past t).kept
      ≡ standing (state start [] t).kept (λ before. watch_enters t (life start before t)) (λ before. watch_leaves t (life start before t)) past
  kept_since [] = refl
  kept_since (e ∷ past) =
      kept_step t e (life start past t) (kept_once past)
      ∙ ap (λ z. filter (λ k. not (watch_leaves t (life start past t) e k)) z ++ watch_enters t (life start past t) e) (kept_since past)
