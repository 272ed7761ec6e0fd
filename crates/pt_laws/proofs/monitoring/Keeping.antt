-- What one receipt does to a kept watch and to an open reference.
use Rattle.std.proofs.Common.{◌≡◌, ℕ, ◌+◌, ◌-◌, ◌≤◌, Bool, true, false, cond, ◌&&◌, List, [], ◌∷◌, ◌++◌, Option, Some, None, refl, sym, ap, subst, subst₂, arith}
use Rattle.std.specs.Map.{lookup, remove_entry}
use Rattle.std.proofs.lemmas.Bool.{both_ways, and_parts, and_right}
use Rattle.std.specs.List.{list_any}
use Rattle.pt_signal.specs.declared.pid.Pid.{Pid}
use Rattle.pt_signal.specs.declared.ids.Ref.{Ref}
use Rattle.pt_signal.specs.declared.reason.Reason.{Reason}
use Rattle.pt_signal.specs.declared.signal.Signal.{Signal}
use Rattle.pt_signal.specs.declared.signal.Signal.TheVariants.{LinkExit, Monitor, Demonitor, AliveSay}
use Rattle.pt_signal.specs.Values.{same_pid, same_ref, without_first}
use Rattle.pt_signal.specs.Process.{ProcessState, verdict, holds_any, held, down, handle, say, keep, same_watch}
use Rattle.pt_events.specs.History.{Past, Start, MaySay}
use Rattle.pt_events.specs.Counting.{one_if, count}
use Rattle.pt_laws.specs.Watch.{is_monitor, is_demonitor, is_open, opens_to, keeps}
use Rattle.pt_signal.proofs.Same.{same_ref_is, same_pid_is}
use Rattle.pt_laws.proofs.monitoring.Counts.{is_down, count-append, count-without, count_removed, count_missing, count_other, count_pass, count_narrower, count_entry_other, count_entry_less, count_entry_found}
use Rattle.pt_laws.proofs.monitoring.Downs.{opens}
use Rattle.pt_events.proofs.Fields.{obey_keeps, link_exit_keeps, down_keeps}

-- how often the watch is kept -------------------------------------------------------------------

module _ (m : Ref) (w : Pid) where
  -- before, after, and whether a Monitor or a Demonitor of the watch came
  pub record KeptStep (k k2 π κ : ℕ) : Type 0 where
    pub up : k2 ≤ k + π
    pub stay : (π ≡ 1 → k ≡ 0) → k + π ≤ k2 + κ
    pub off : κ ≡ 1 → k2 ≤ k - 1

  kept_same : (k k2 : ℕ) → k2 ≡ k → KeptStep k k2 0 0
  kept_same k k2 e = record { up = omega arith; stay = λ h. omega arith; off = λ h. omega arith }

  kept_by_and : (b : Bool) → one_if (b && false) ≡ 0
  kept_by_and true = refl
  kept_by_and false = refl

  abbrev pub π_of : Pid → Signal → ℕ
  π_of a x = one_if (same_pid w a && is_monitor m x)

  abbrev pub κ_of : Pid → Signal → ℕ
  κ_of a x = one_if (same_pid w a && is_demonitor m x)

  other_signal : (k k2 : ℕ) (a : Pid) → k2 ≡ k → KeptStep k k2 (one_if (same_pid w a && false)) (one_if (same_pid w a && false))
  other_signal k k2 a e = rw kept_by_and (kept_same k k2 e)

  monitor_step : (a : Pid) (n : Ref) (kept : List (Ref × Pid)) → KeptStep (count (same_watch m w) kept) (count (same_watch m w) (keep n a kept)) (one_if (same_pid w a && same_ref m n)) (one_if (same_pid w a && false))
  monitor_step a n kept = go (list_any (same_watch n a) kept) refl (same_pid w a) refl (same_ref m n) refl
    where
      G : Bool → Bool → Bool → Type 0
      G b c d = KeptStep (count (same_watch m w) kept) (count (same_watch m w) (cond b kept (kept ++ (n, a) ∷ []))) (one_if (c && d)) (one_if (c && false))

      h : count (same_watch m w) (kept ++ (n, a) ∷ []) ≡ count (same_watch m w) kept + count (same_watch m w) ((n, a) ∷ [])
      h = count-append (same_watch m w) kept ((n, a) ∷ [])

      here : same_pid w a ≡ true → same_ref m n ≡ true → list_any (same_watch n a) kept ≡ true → 1 ≤ count (same_watch m w) kept
      here f g e = subst₂ (λ m w. list_any (same_watch n a) kept ≡ true → 1 ≤ count (same_watch m w) kept) (sym (same_ref_is m n g)) (sym (same_pid_is w a f)) (λ e. count_pass (same_watch n a) kept e) e

      go : (b : Bool) → list_any (same_watch n a) kept ≡ b → (c : Bool) → same_pid w a ≡ c → (d : Bool) → same_ref m n ≡ d
          → KeptStep (count (same_watch m w) kept) (count (same_watch m w) (keep n a kept)) (one_if (same_pid w a && same_ref m n)) (one_if (same_pid w a && false))
      go true e true f true g = let k = here f g e in rw (e, f, g) record { up = omega arith; stay = λ z. let y = z refl in omega arith; off = λ z. omega arith }
      go true e false f d g = rw (e, f) (kept_same _ _ refl)
      go true e true f false g = rw (e, f, g) (kept_same _ _ refl)
      go false e true f true g = let k : count (same_watch m w) (kept ++ (n, a) ∷ []) ≡ count (same_watch m w) kept + (1 + 0) = rw (f, g) at h in rw (e, f, g) record { up = omega arith; stay = λ z. omega arith; off = λ z. omega arith }
      go false e false f d g = let k : count (same_watch m w) (kept ++ (n, a) ∷ []) ≡ count (same_watch m w) kept + (one_if (same_ref m n && false) + 0) = rw f at h in let j = kept_by_and (same_ref m n) in rw (e, f) (kept_same _ _ (omega arith))
      go false e true f false g = let k : count (same_watch m w) (kept ++ (n, a) ∷ []) ≡ count (same_watch m w) kept + (0 + 0) = rw (f, g) at h in rw (e, f, g) (kept_same _ _ (omega arith))

  demonitor_step : (a : Pid) (n : Ref) (kept : List (Ref × Pid)) → KeptStep (count (same_watch m w) kept) (count (same_watch m w) (without_first (same_watch n a) kept)) (one_if (same_pid w a && false)) (one_if (same_pid w a && same_ref m n))
  demonitor_step a n kept = go (same_pid w a) refl (same_ref m n) refl
    where
      apart : (same_pid w a && same_ref m n) ≡ false → (k : Ref × Pid) → same_watch n a k ≡ true → same_watch m w k ≡ false
      apart z k e =
          let q = and_parts (same_ref n k.0) (same_pid a k.1) e in
          let e1 = same_ref_is n k.0 q.0 in
          let e2 = same_pid_is a k.1 q.1 in
          swap (same_ref m k.0) (same_pid w k.1) (rw (← e1, ← e2) z)
        where
          swap : (x y : Bool) → (y && x) ≡ false → (x && y) ≡ false
          swap true true h = h
          swap false y h = refl
          swap true false h = refl

      other : (same_pid w a && same_ref m n) ≡ false → count (same_watch m w) (without_first (same_watch n a) kept) ≡ count (same_watch m w) kept
      other z = count_other (same_watch m w) (same_watch n a) (apart z) kept

      same : same_pid w a ≡ true → same_ref m n ≡ true → count (same_watch m w) (without_first (same_watch n a) kept) ≡ count (same_watch m w) kept - 1
      same f g = subst₂ (λ m w. count (same_watch m w) (without_first (same_watch n a) kept) ≡ count (same_watch m w) kept - 1) (sym (same_ref_is m n g)) (sym (same_pid_is w a f)) (count-without (same_watch n a) kept)

      go : (c : Bool) → same_pid w a ≡ c → (d : Bool) → same_ref m n ≡ d
          → KeptStep (count (same_watch m w) kept) (count (same_watch m w) (without_first (same_watch n a) kept)) (one_if (same_pid w a && false)) (one_if (same_pid w a && same_ref m n))
      go true f true g = let k = same f g in rw (f, g) record { up = omega arith; stay = λ z. omega arith; off = λ z. omega arith }
      go true f false g = let k = other (rw (f, g) refl) in rw (f, g) (kept_same _ _ k)
      go false f d g = let k = other (rw f refl) in rw f (kept_same _ _ k)

  -- a signal that comes to a live process
  pub kept_step : (me : Pid) (s : ProcessState) (a : Pid) (x : Signal) → KeptStep (keeps m w s) (keeps m w (handle me s a x).state) (π_of a x) (κ_of a x)
  kept_step me s a (Signal.Exit r) = other_signal _ _ a (ap (count (same_watch m w)) (obey_keeps (λ s. s.kept) (λ w s. refl) (verdict false s.traps (same_pid a me) a r) s))
  kept_step me s a (LinkExit ids r) = other_signal _ _ a (ap (count (same_watch m w)) (link_exit_keeps (λ s. s.kept) (λ w s. refl) (λ l s. refl) (holds_any (held s.links a) ids) me s a r))
  kept_step me s a (Monitor n) = monitor_step a n s.kept
  kept_step me s a (Demonitor n) = demonitor_step a n s.kept
  kept_step me s a (Signal.Down n r) = other_signal _ _ a (ap (count (same_watch m w)) (down_keeps (λ s. s.kept) (λ w s. refl) (λ l s. refl) (lookup (same_ref n) s.watching) s a n r))
  kept_step me s a _ = other_signal _ _ a refl

-- how often the reference is open -----------------------------------------------------------------

module _ (m : Ref) (t : Pid) where
  pub record OpenStep (s : ProcessState) (x : Signal) (o2 : ℕ) : Type 0 where
    pub less : o2 ≤ opens_to m t s
    pub same : is_down m x ≡ false → o2 ≡ opens_to m t s
    pub closed : is_down m x ≡ true → opens m s.watching ≤ 1 → o2 ≡ 0

  unchanged : (s : ProcessState) (x : Signal) (es : List (Ref × Pid)) → es ≡ s.watching → is_down m x ≡ false → OpenStep s x (count (is_open m t) es)
  unchanged s x es e f = rw e record { less = omega arith; same = λ z. refl; closed = λ z. absurd (both_ways _ f z) }

  opens_to_le : (es : List (Ref × Pid)) → count (is_open m t) es ≤ opens m es
  opens_to_le es = count_narrower (is_open m t) (λ e. same_ref m e.0) (λ e h. (and_parts (same_pid t e.1) (same_ref m e.0) h).1) es

  down_step : (n : Ref) (s : ProcessState) (o : Option Pid) → lookup (same_ref n) s.watching ≡ o → (a : Pid) (r : Reason) → OpenStep s (Signal.Down n r) (opens_to m t (down o s a n r).state)
  down_step n s None e a r = record {
    less = omega arith;
    same = λ z. refl;
    closed = λ z k.
        let c : opens m s.watching ≡ 0 = subst (λ n. lookup (same_ref n) s.watching ≡ None → opens m s.watching ≡ 0) (same_ref_is m n z) (count_missing (same_ref m) s.watching) e in
        let l = opens_to_le s.watching in omega arith;
  }
  down_step n s (Some b) e a r = record {
    less = count_entry_less (is_open m t) (same_ref n) s.watching;
    same = λ z. count_entry_other (is_open m t) (same_ref n) (λ k f. let q = same_ref_is n k.0 f in and_right (same_pid t k.1) (same_ref m k.0) (rw (← q) z)) s.watching;
    closed = λ z k.
        let c : opens m (remove_entry (same_ref n) s.watching) ≡ opens m s.watching - 1 = subst (λ n. opens m (remove_entry (same_ref n) s.watching) ≡ opens m s.watching - 1) (same_ref_is m n z) (count_removed (same_ref m) s.watching) in
        let l = opens_to_le (remove_entry (same_ref n) s.watching) in omega arith;
  }

  pub open_step : (me : Pid) (s : ProcessState) (a : Pid) (x : Signal) → OpenStep s x (opens_to m t (handle me s a x).state)
  open_step me s a (Signal.Exit r) = unchanged s _ _ (obey_keeps (λ s. s.watching) (λ w s. refl) (verdict false s.traps (same_pid a me) a r) s) refl
  open_step me s a (LinkExit ids r) = unchanged s _ _ (link_exit_keeps (λ s. s.watching) (λ w s. refl) (λ l s. refl) (holds_any (held s.links a) ids) me s a r) refl
  open_step me s a (Signal.Down n r) = down_step n s _ refl a r
  open_step me s a _ = unchanged s _ _ refl refl

  -- what the sayer opens and closes
  pub say_step : (start : Start) (past : Past) (s : ProcessState) (w b : Pid) (x : Signal) → MaySay start past s w b x
      → opens_to m t (say s b x) + one_if (same_pid t b && is_demonitor m x) ≡ opens_to m t s + one_if (same_pid t b && is_monitor m x)
  say_step start past s w b (LinkExit ids r) h = absurd h
  say_step start past s w b (Monitor n) h =
      let k = count-append (is_open m t) s.watching ((n, b) ∷ []) in
      let z : one_if (same_pid t b && false) ≡ 0 = rw (and_right (same_pid t b) false refl) refl in omega arith
  say_step start past s w b (Demonitor n) h =
      let k = count_entry_found (is_open m t) (same_ref n) n b (λ e f. rw (same_ref_is n e.0 f) refl) s.watching h in
      let z : one_if (same_pid t b && false) ≡ 0 = rw (and_right (same_pid t b) false refl) refl in omega arith
  say_step start past s w b (Signal.Down n r) h = absurd h
  say_step start past s w b (AliveSay n x) h = absurd h
  say_step start past s w b _ h = refl
