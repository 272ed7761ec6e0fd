-- The open monitors of a process are those that it made and that were not closed since.
use Rattle.std.proofs.Common.{◌≡◌, ◌≤◌, Bool, true, false, cond, not, ◌&&◌, ◌||◌, List, [], ◌∷◌, ◌++◌, Option, Some, None, filter, refl, sym, ap, ◌∙◌, arith, append-nil}
use Rattle.std.specs.Prelude.{is_some}
use Rattle.std.specs.Map.{lookup, remove_entry}
use Rattle.pt_signal.specs.declared.pid.Pid.{Pid}
use Rattle.pt_signal.specs.declared.ids.Ref.{Ref}
use Rattle.pt_signal.specs.declared.ids.LinkId.{LinkId}
use Rattle.pt_signal.specs.declared.reason.Reason.{Reason}
use Rattle.pt_signal.specs.declared.signal.Signal.{Signal}
use Rattle.pt_signal.specs.declared.signal.Signal.TheVariants.{Link, Unlink, LinkExit, Monitor, Demonitor}
use Rattle.pt_events.specs.declared.event.Event.{Event}
use Rattle.pt_events.specs.declared.event.Event.TheVariants.{Born, Said, Came, Took, Flag, Left}
use Rattle.pt_signal.specs.Values.{same_pid, same_ref, fits, without_first}
use Rattle.pt_signal.specs.Process.{ProcessState, verdict, held, holds_any, down, handle, say}
use Rattle.pt_events.specs.History.{Past, Start, Phase, unborn, living, ended, life, state, at_start, after, touches, is_the, is_living, state_of, open_monitors, linked, newborn, while_living, live_or_end, gets, leaves}
use Rattle.pt_events.specs.Journal.{MayHere}
use Rattle.pt_laws.specs.Acts.{ActsMayCome}
use Rattle.pt_laws.specs.BirthsAndEnds.{signal_ends}
use Rattle.pt_laws.specs.Since.{standing}
use Rattle.pt_laws.specs.MonitorLaws.{IsMadeOnce}
use Rattle.pt_history.specs.Words.{monitor_opens, monitor_closes}
use Rattle.pt_signal.proofs.Same.{same_pid_is}
use Rattle.pt_events.proofs.Phases.{each_branch, after_ended}
use Rattle.pt_laws.proofs.monitoring.Counts.{count_missing}
use Rattle.pt_laws.proofs.monitoring.Downs.{opens, count_law}
use Rattle.pt_laws.proofs.living.BirthsAndEnds.{handle_ending}
use Rattle.pt_laws.proofs.order.Filters.{filter_all, filter_nothing, all_stay, none_passes, one_passes, remove_entry-first}
use Rattle.pt_events.proofs.Fields.{obey_keeps, link_exit_keeps, linked_keeps}

-- lists --------------------------------------------------------------------------------------------

abbrev Entries : Type 0
Entries = List (Ref × Pid)

-- where one has the key at most, the removal of that one is the removal of all
one_gone : (n : Ref) (es : Entries) → opens n es ≤ 1 → remove_entry (same_ref n) es ≡ filter (λ k. not (same_ref n k.0)) es
one_gone n es h = remove_entry-first (same_ref n) es ∙ one_passes (λ (k : Ref × Pid). same_ref n k.0) es h

-- what closes is the answer, or the end
joined : (t : Ref × Pid → Bool) (es : Entries) → filter (λ k. not (t k || false)) es ≡ filter (λ k. not (t k)) es
joined t [] = refl
joined t (e ∷ es) = go (t e) (joined t es)
  where
    go : (b : Bool) → filter (λ k. not (t k || false)) es ≡ filter (λ k. not (t k)) es
        → cond (not (b || false)) (e ∷ filter (λ k. not (t k || false)) es) (filter (λ k. not (t k || false)) es) ≡ cond (not b) (e ∷ filter (λ k. not (t k)) es) (filter (λ k. not (t k)) es)
    go true h = h
    go false h = ap (λ z. e ∷ z) h

-- a signal that comes ------------------------------------------------------------------------------

down_watching : (n : Ref) (s : ProcessState) (o : Option Pid) → lookup (same_ref n) s.watching ≡ o → opens n s.watching ≤ 1 → (a : Pid) (r : Reason)
    → (down o s a n r).state.watching ≡ filter (λ k. not (same_ref n k.0)) s.watching
down_watching n s None e h a r = sym (none_passes (λ (k : Ref × Pid). same_ref n k.0) s.watching (count_missing (same_ref n) s.watching e))
down_watching n s (Some t) e h a r = one_gone n s.watching h

-- a process that goes on has what it had open, one that ends has none
open_after : (o : Option Reason) (s : ProcessState) → open_monitors (live_or_end o s) ≡ cond (is_some o) [] s.watching
open_after None s = refl
open_after (Some r) s = refl

module _ (w : Pid) where
  -- what an event does to what is open
  abbrev pub OpenStep : Phase → Phase → Event → Type 0
  OpenStep g f e = open_monitors g ≡ filter (λ k. not (monitor_closes w f e k)) (open_monitors f) ++ monitor_opens w e

  -- a signal that leaves the open monitors, or ends the process
  came_other : (a : Pid) (x : Signal) (s : ProcessState) → (handle w s a x).state.watching ≡ s.watching → (t : Bool)
      → open_monitors (cond t (gets w a x (living s)) (living s)) ≡ filter (λ k. not (false || is_some (cond t (signal_ends w s a x) None))) s.watching ++ []
  came_other a x s h true =
      open_after (handle w s a x).ending (handle w s a x).state
      ∙ ap (λ z. cond (is_some z) [] (handle w s a x).state.watching) (handle_ending w s a x)
      ∙ ap (cond (is_some (signal_ends w s a x)) []) h
      ∙ go (is_some (signal_ends w s a x))
    where
      go : (b : Bool) → cond b [] s.watching ≡ filter (λ k. not (false || b)) s.watching ++ []
      go true = sym (append-nil _ ∙ filter_nothing s.watching)
      go false = all_stay s.watching
  came_other a x s h false = all_stay s.watching

  came_down : (a : Pid) (n : Ref) (r : Reason) (s : ProcessState) → opens n s.watching ≤ 1 → (t : Bool)
      → open_monitors (cond t (gets w a (Signal.Down n r) (living s)) (living s)) ≡ filter (λ k. not ((t && same_ref n k.0) || is_some (cond t (signal_ends w s a (Signal.Down n r)) None))) s.watching ++ []
  came_down a n r s h true =
      open_after (handle w s a (Signal.Down n r)).ending (handle w s a (Signal.Down n r)).state
      ∙ ap (λ z. cond (is_some z) [] (handle w s a (Signal.Down n r)).state.watching) (handle_ending w s a (Signal.Down n r))
      ∙ down_watching n s (lookup (same_ref n) s.watching) refl h a r
      ∙ sym (append-nil _ ∙ joined (λ k. same_ref n k.0) s.watching)
  came_down a n r s h false = all_stay s.watching

  came_step : (a b : Pid) (x : Signal) (s : ProcessState) → ((n : Ref) → opens n s.watching ≤ 1) → OpenStep (after w (Came a b x) (living s)) (living s) (Came a b x)
  came_step a b (Signal.Exit r) s h = came_other a (Signal.Exit r) s (obey_keeps (λ s. s.watching) (λ w s. refl) (verdict false s.traps (same_pid a w) a r) s) (same_pid w b)
  came_step a b (LinkExit ids r) s h = came_other a (LinkExit ids r) s (link_exit_keeps (λ s. s.watching) (λ w s. refl) (λ l s. refl) (holds_any (held s.links a) ids) w s a r) (same_pid w b)
  came_step a b (Signal.Down n r) s h = came_down a n r s (h n) (same_pid w b)
  came_step a b x s h = came_other a x s refl (same_pid w b)

  -- the other events ---------------------------------------------------------------------------------

  step_other : (step : ProcessState → ProcessState) → ((s : ProcessState) → (step s).watching ≡ s.watching) → (t : Bool) (s : ProcessState)
      → open_monitors (cond t (while_living step (living s)) (living s)) ≡ filter (λ k. true) s.watching ++ []
  step_other step h true s = h s ∙ all_stay s.watching
  step_other step h false s = all_stay s.watching

  said_monitor : (b : Pid) (m : Ref) (t : Bool) (s : ProcessState)
      → open_monitors (cond t (while_living (λ s. say s b (Monitor m)) (living s)) (living s)) ≡ filter (λ k. true) s.watching ++ cond t ((m, b) ∷ []) []
  said_monitor b m true s = ap (λ z. z ++ (m, b) ∷ []) (sym (filter_all s.watching))
  said_monitor b m false s = all_stay s.watching

  said_demonitor : (b : Pid) (m : Ref) (t : Bool) (s : ProcessState) → opens m s.watching ≤ 1
      → open_monitors (cond t (while_living (λ s. say s b (Demonitor m)) (living s)) (living s)) ≡ filter (λ k. not ((t && same_ref m k.0) || false)) s.watching ++ []
  said_demonitor b m true s h = one_gone m s.watching h ∙ sym (append-nil _ ∙ joined (λ k. same_ref m k.0) s.watching)
  said_demonitor b m false s h = all_stay s.watching

  said_step : (a b : Pid) (x : Signal) (s : ProcessState) → ((n : Ref) → opens n s.watching ≤ 1) → OpenStep (after w (Said a b x) (living s)) (living s) (Said a b x)
  said_step a b (Link i) s h = step_other (λ s. say s b (Link i)) (λ s. refl) (same_pid w a) s
  said_step a b (Unlink ids) s h = step_other (λ s. say s b (Unlink ids)) (λ s. refl) (same_pid w a) s
  said_step a b (Monitor m) s h = said_monitor b m (same_pid w a) s
  said_step a b (Demonitor m) s h = said_demonitor b m (same_pid w a) s (h m)
  said_step a b _ s h = step_other (λ s. s) (λ s. refl) (same_pid w a) s

  born_living : (parent : Option Pid) (link : Option LinkId) (step : ProcessState → ProcessState) → ((s : ProcessState) → (step s).watching ≡ s.watching) → (t u : Bool) (s : ProcessState)
      → open_monitors (cond (t || u) (cond t (newborn parent link (living s)) (while_living step (living s))) (living s)) ≡ filter (λ k. true) s.watching ++ []
  born_living parent link step h true u s = all_stay s.watching
  born_living parent link step h false true s = h s ∙ all_stay s.watching
  born_living parent link step h false false s = all_stay s.watching

  left_living : (t : Bool) (r : Reason) (s : ProcessState) → open_monitors (cond t (leaves r (living s)) (living s)) ≡ filter (λ k. not (false || is_some (cond t (Some r) None))) s.watching ++ []
  left_living true r s = sym (append-nil _ ∙ filter_nothing s.watching)
  left_living false r s = all_stay s.watching

  living_step : (e : Event) (s : ProcessState) → ((n : Ref) → opens n s.watching ≤ 1) → OpenStep (after w e (living s)) (living s) e
  living_step (Born q parent link) s h = born_living parent link (linked (Some q) link) (linked_keeps (λ s. s.watching) (λ l s. refl) (Some q) link) (same_pid w q) (is_the w parent) s
  living_step (Said a b x) s h = said_step a b x s h
  living_step (Came a b x) s h = came_step a b x s h
  living_step (Took q k i) s h = step_other (λ s. record s { waiting = without_first (fits k) s.waiting }) (λ s. refl) (same_pid w q) s
  living_step (Flag q on) s h = step_other (λ s. record s { traps = on }) (λ s. refl) (same_pid w q) s
  living_step (Left q r) s h = left_living (same_pid w q) r s
  living_step _ s h = all_stay s.watching

  -- a process that is not alive opens nothing
  opens_alive : (a b : Pid) (x : Signal) (f : Phase) → (same_pid w a ≡ true → is_living f ≡ true) → is_living f ≡ false → monitor_opens w (Said a b x) ≡ []
  opens_alive a b (Monitor m) f l n = go (same_pid w a) l
    where
      go : (t : Bool) → (t ≡ true → is_living f ≡ true) → cond {A = Entries} t ((m, b) ∷ []) [] ≡ []
      go true l = let k = l refl in absurd (cc)
      go false l = refl
  opens_alive a b _ f l n = refl

  unborn_step : (e : Event) → monitor_opens w e ≡ [] → OpenStep (after w e unborn) unborn e
  unborn_step (Born q parent link) n =
      each_branch (λ g. open_monitors g ≡ []) (touches w (Born q parent link)) _ _ (each_branch (λ g. open_monitors g ≡ []) (same_pid w q) _ _ (linked_keeps (λ s. s.watching) (λ l s. refl) parent link _) refl) refl
  unborn_step (Said a b x) n = each_branch (λ g. open_monitors g ≡ []) (same_pid w a) _ _ refl refl ∙ sym n
  unborn_step (Came a b x) n = each_branch (λ g. open_monitors g ≡ []) (same_pid w b) _ _ refl refl
  unborn_step (Took q k i) n = each_branch (λ g. open_monitors g ≡ []) (same_pid w q) _ _ refl refl
  unborn_step (Flag q on) n = each_branch (λ g. open_monitors g ≡ []) (same_pid w q) _ _ refl refl
  unborn_step (Left q r) n = each_branch (λ g. open_monitors g ≡ []) (same_pid w q) _ _ refl refl
  unborn_step _ n = refl

  open_step : (e : Event) (f : Phase) → (is_living f ≡ false → monitor_opens w e ≡ []) → ((n : Ref) → opens n (state_of f).watching ≤ 1) → OpenStep (after w e f) f e
  open_step e unborn n h = unborn_step e (n refl)
  open_step e (living s) n h = living_step e s h
  open_step e (ended r s) n h = ap open_monitors (after_ended w e r s) ∙ sym (n refl)

  opens_none : (start : Start) (past : Past) (e : Event) → MayHere start past e → is_living (life start past w) ≡ false → monitor_opens w e ≡ []
  opens_none start past (Said a b x) h n = opens_alive a b x (life start past w) (λ e. rw (same_pid_is w a e) h.0) n
  opens_none start past _ h n = refl

module _ (start : Start) (w : Pid) where
  once_before : (past : Past) (e : Event) (m : Ref) → IsMadeOnce start (e ∷ past) w m → IsMadeOnce start past w m
  once_before past e m h = omega arith

  pub open_once : (past : Past) (m : Ref) → ActsMayCome start past → IsMadeOnce start past w m → opens m (state start past w).watching ≤ 1
  open_once past m h o = let law = count_law start m w past h in omega arith

  pub open_since : (past : Past) → ActsMayCome start past → ((m : Ref) → IsMadeOnce start past w m)
      → open_monitors (life start past w)
      ≡ standing (open_monitors (at_start start w)) (λ before. monitor_opens w) (λ before. monitor_closes w (life start before w)) past
  open_since [] h o = refl
  open_since (e ∷ past) h o =
      open_step w e (life start past w) (opens_none w start past e h.0) (λ m. open_once past m h.1 (once_before past e m (o m)))
      ∙ ap (λ z. filter (λ k. not (monitor_closes w (life start past w) e k)) z ++ monitor_opens w e) (open_since past h.1 (λ m. once_before past e m (o m)))
