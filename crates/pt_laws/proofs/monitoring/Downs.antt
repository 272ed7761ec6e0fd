-- A monitor is open, was given up, or has had its one DOWN.
use Rattle.std.proofs.Common.{◌≡◌, ℕ, ◌+◌, Bool, true, false, cond, ◌&&◌, List, [], ◌∷◌, Option, Some, None, refl, sym, ap, subst, arith}
use Rattle.std.specs.Map.{lookup, remove_entry}
use Rattle.std.proofs.lemmas.Bool.{false≢true}
use Rattle.pt_signal.specs.declared.pid.Pid.{Pid}
use Rattle.pt_signal.specs.declared.ids.Ref.{Ref}
use Rattle.pt_signal.specs.declared.reason.Reason.{Reason}
use Rattle.pt_signal.specs.declared.reason.Reason.TheVariants.{Normal, Kill}
use Rattle.pt_signal.specs.declared.signal.Signal.{Signal}
use Rattle.pt_signal.specs.declared.signal.Signal.TheVariants.{LinkExit, Monitor, Demonitor, AliveSay}
use Rattle.pt_events.specs.declared.event.Event.TheVariants.{Born, Said, Came, Took, Flag, Left}
use Rattle.pt_signal.specs.Values.{same_pid, same_ref}
use Rattle.pt_signal.specs.Process.{ProcessState, verdict, obey, holds_any, held, link_exit, down, handle, say}
use Rattle.pt_events.specs.History.{Past, Start, Phase, unborn, living, ended, life, at_start, state, state_of, while_living, gets, items_of, arrives, arrived_since, is_living, MaySay}
use Rattle.pt_laws.specs.Acts.{ActsMayCome}
use Rattle.pt_events.specs.Counting.{one_if, count}
use Rattle.pt_laws.specs.Watch.{is_monitor, is_demonitor, is_down_item, said_times}
use Rattle.pt_signal.proofs.Same.{same_ref_is, same_ref_refl, same_pid_is}
use Rattle.pt_events.proofs.Phases.{each_branch}
use Rattle.pt_events.proofs.Fields.{end_keeps, while_keeps, leaves_keeps, born_keeps}
use Rattle.pt_laws.proofs.monitoring.Counts.{count-append, count_removed, count_found, count_removed_other}

-- entries of the reference among those watched
abbrev pub opens : Ref → List (Ref × Pid) → ℕ
opens m es = count (λ e. same_ref m e.0) es

pub removed_by : (m n : Ref) (es : List (Ref × Pid)) (t : Pid) → lookup (same_ref n) es ≡ Some t → opens m (remove_entry (same_ref n) es) + one_if (same_ref m n) ≡ opens m es
removed_by m n es t h = go (same_ref m n) refl
  where
    go : (b : Bool) → same_ref m n ≡ b → opens m (remove_entry (same_ref n) es) + one_if (same_ref m n) ≡ opens m es
    go true e =
        let G : Ref → Type 0 = λ n. lookup (same_ref n) es ≡ Some t → opens m (remove_entry (same_ref n) es) + one_if (same_ref m n) ≡ opens m es in
        subst G (same_ref_is m n e) (λ h. rw (same_ref_refl m) (let a = count_removed (same_ref m) es in let b = count_found (same_ref m) es t h in omega arith)) h
    go false e =
        let a = count_removed_other (same_ref m) (same_ref n) (apart e) es in rw e (omega arith)
      where
        apart : same_ref m n ≡ false → (k : Ref) → same_ref n k ≡ true → same_ref m k ≡ false
        apart e k f = rw (← same_ref_is n k f) e

module _ (m : Ref) where
  -- a signal to a live process
  obeys : (me : Pid) (s : ProcessState) (by_link traps own : Bool) (from : Pid) (r : Reason)
      → opens m (obey (verdict by_link traps own from r) s).state.watching + count (is_down_item m) (obey (verdict by_link traps own from r) s).items ≡ opens m s.watching
  obeys me s false traps own from Kill = omega arith
  obeys me s by_link true own from r = omega arith
  obeys me s by_link false false from Normal = omega arith
  obeys me s by_link false own from r = omega arith

  link_exits : (b : Bool) (me : Pid) (s : ProcessState) (from : Pid) (r : Reason)
      → opens m (link_exit b me s from r).state.watching + count (is_down_item m) (link_exit b me s from r).items ≡ opens m s.watching
  link_exits false me s from r = omega arith
  link_exits true me s from r = obeys me _ true s.traps (same_pid from me) from r

  downs : (n : Ref) (s : ProcessState) (t : Option Pid) → lookup (same_ref n) s.watching ≡ t → (from : Pid) (r : Reason)
      → opens m (down t s from n r).state.watching + count (is_down_item m) (down t s from n r).items ≡ opens m s.watching
  downs n s None e from r = omega arith
  downs n s (Some t) e from r = let h = removed_by m n s.watching t e in omega arith

  pub handle_downs : (me : Pid) (s : ProcessState) (from : Pid) (x : Signal)
      → opens m (handle me s from x).state.watching + count (is_down_item m) (handle me s from x).items ≡ opens m s.watching
  handle_downs me s from (Signal.Exit r) = obeys me s false s.traps (same_pid from me) from r
  handle_downs me s from (LinkExit ids r) = link_exits (holds_any (held s.links from) ids) me s from r
  handle_downs me s from (Signal.Down n r) = downs n s _ refl from r
  handle_downs me s from _ = omega arith

  say_downs : (start : Start) (past : Past) (s : ProcessState) (a b : Pid) (x : Signal) → MaySay start past s a b x
      → opens m (say s b x).watching + one_if (is_demonitor m x) ≡ opens m s.watching + one_if (is_monitor m x)
  say_downs start past s a b (LinkExit ids r) h = absurd h
  say_downs start past s a b (Monitor n) h = let k = count-append (λ (e : Ref × Pid). same_ref m e.0) s.watching ((n, b) ∷ []) in omega arith
  say_downs start past s a b (Demonitor n) h = let k = removed_by m n s.watching b h in omega arith
  say_downs start past s a b (Signal.Down n r) h = absurd h
  say_downs start past s a b (AliveSay n x) h = absurd h
  say_downs start past s a b _ h = omega arith

-- event by event --------------------------------------------------------------------------------

module _ (start : Start) (m : Ref) (w : Pid) where
  said_case : (past : Past) (a b : Pid) (x : Signal) (f : Phase) (t : Bool) → (t ≡ true → is_living f ≡ true) → (t ≡ true → MaySay start past (state_of f) w b x)
      → opens m (state_of (cond t (while_living (λ s. say s b x) f) f)).watching + one_if (t && is_demonitor m x) ≡ opens m (state_of f).watching + one_if (t && is_monitor m x)
  said_case past a b x f false l h = omega arith
  said_case past a b x unborn true l h = absurd (false≢true (l refl))
  said_case past a b x (living s) true l h = say_downs m start past s w b x (h refl)
  said_case past a b x (ended r s) true l h = absurd (false≢true (l refl))

  came_case : (a b : Pid) (x : Signal) (f : Phase) (t : Bool)
      → opens m (state_of (cond t (gets w a x f) f)).watching + count (is_down_item m) (cond t (items_of f w a x) []) ≡ opens m (state_of f).watching
  came_case a b x f false = omega arith
  came_case a b x unborn true = refl
  came_case a b x (living s) true =
      let h = handle_downs m w s a x in
      let k = ap (opens m) (end_keeps (λ s. s.watching) (handle w s a x).ending (handle w s a x).state) in
      omega arith
  came_case a b x (ended r s) true = omega arith

  abbrev pub opens_of : Past → ℕ
  opens_of past = opens m (state start past w).watching

  pub count_law : (past : Past) → ActsMayCome start past
      → opens_of past + said_times w (is_demonitor m) past + count (is_down_item m) (arrived_since start past w)
      ≡ opens m (state_of (at_start start w)).watching + said_times w (is_monitor m) past
  count_law [] h = omega arith
  count_law (Said a b x ∷ past) h =
      let ih = count_law past h.1 in
      let k = count-append (is_down_item m) (arrived_since start past w) [] in
      let c = said_case past a b x (life start past w) (same_pid w a)
      (λ e. rw (same_pid_is w a e) h.0.0)
      (λ e. subst (λ a. MaySay start past (state start past a) a b x) (sym (same_pid_is w a e)) h.0.1) in
      omega arith
  count_law (Came a b x ∷ past) h =
      let ih = count_law past h.1 in
      let k = count-append (is_down_item m) (arrived_since start past w) (arrives start past w (Came a b x)) in
      let c = came_case a b x (life start past w) (same_pid w b) in
      omega arith
  count_law (Born q parent link ∷ past) h =
      let ih = count_law past h.1 in
      let k = count-append (is_down_item m) (arrived_since start past w) [] in
      let c : opens_of (Born q parent link ∷ past) ≡ opens_of past =
      ap (opens m) (born_keeps (λ s. s.watching) (λ l s. refl) w q parent link (life start past w)) in
      omega arith
  count_law (Took q j i ∷ past) h =
      let ih = count_law past h.1 in
      let k = count-append (is_down_item m) (arrived_since start past w) [] in
      let c : opens_of (Took q j i ∷ past) ≡ opens_of past =
      each_branch (λ g. opens m (state_of g).watching ≡ opens_of past) (same_pid w q) _ _ (ap (opens m) (while_keeps (λ s. s.watching) _ (λ s. refl) (life start past w))) refl in
      omega arith
  count_law (Flag q on ∷ past) h =
      let ih = count_law past h.1 in
      let k = count-append (is_down_item m) (arrived_since start past w) [] in
      let c : opens_of (Flag q on ∷ past) ≡ opens_of past =
      each_branch (λ g. opens m (state_of g).watching ≡ opens_of past) (same_pid w q) _ _ (ap (opens m) (while_keeps (λ s. s.watching) _ (λ s. refl) (life start past w))) refl in
      omega arith
  count_law (Left q r ∷ past) h =
      let ih = count_law past h.1 in
      let k = count-append (is_down_item m) (arrived_since start past w) [] in
      let c : opens_of (Left q r ∷ past) ≡ opens_of past =
      each_branch (λ g. opens m (state_of g).watching ≡ opens_of past) (same_pid w q) _ _ (ap (opens m) (leaves_keeps (λ s. s.watching) r (life start past w))) refl in
      omega arith
  count_law (e ∷ past) h =
      let ih = count_law past h.1 in
      let k = count-append (is_down_item m) (arrived_since start past w) [] in
      let c : opens_of (e ∷ past) ≡ opens_of past = refl in
      omega arith
