-- What a desk's journal leaves behind, as the start of its next one.
use Rattle.std.proofs.Common.{◌≡◌, ◌⊎◌, inl, inr, ℕ, ◌<◌, ◌≤◌, ◌==◌, ◌&&◌, Bool, true, false, cond, not, List, [], ◌∷◌, map, refl, sym, ap, ◌∙◌, subst, arith}
use Rattle.std.specs.Map.{keys_of}
use Rattle.std.proofs.Math.Nat.{le-max_left, le-max_right, max-le}
use Rattle.std.proofs.lemmas.Bool.{eq-eqb, eqb-true, false≢true, cases_lt}
use Rattle.std.proofs.lemmas.Bool.Decides.{nat_tests}
use Rattle.pt_signal.specs.declared.pid.Pid.{Pid}
use Rattle.pt_signal.specs.declared.ids.Ref.{Ref}
use Rattle.pt_signal.specs.Values.{same_pid}
use Rattle.pt_signal.proofs.Same.{same_pid_is}
use Rattle.pt_events.specs.declared.event.Event.TheVariants.{Born}
use Rattle.pt_events.specs.declared.event.Stamped.{Stamped}
use Rattle.pt_events.specs.History.{Past, Start, Phase, unborn, living, ended, at_start, life, is_unborn}
use Rattle.pt_events.specs.Journal.{events, clock, IsLocal, IsHome}
use Rattle.pt_events.specs.Leaving.{pids, outcome, start_after}
use Rattle.pt_events.proofs.Leaving.{leaves_each}
use Rattle.pt_events.proofs.Phases.{each_branch}
use Rattle.pt_shard.specs.Begun.{Every, IsNearPhase, WasOpen, IsBegun}
use Rattle.pt_shard.specs.Known.{issued_at, issued_in}
use Rattle.pt_shard.specs.Sound.{is_issued, BornAreIssued, of_phase, live_process, AllNear}
use Rattle.pt_shard.proofs.Near.{Every-append, IsOpen, near_life}

outcome_unborn : (f : Phase) → is_unborn (outcome f) ≡ is_unborn f
outcome_unborn unborn = refl
outcome_unborn (living s) = refl
outcome_unborn (ended r s) = refl

outcome_resident : (p : Pid) (f : Phase) → of_phase p (outcome f) ≡ of_phase p f
outcome_resident p unborn = refl
outcome_resident p (living s) = refl
outcome_resident p (ended r s) = refl

-- the latest version of a slot, by a start -------------------------------------------------

entry : (b : Pid × Phase) (start : Start) → is_unborn b.1 ≡ false → b.0.version ≤ issued_at (b ∷ start) b.0.slot
entry b start u = rw (eq-eqb b.0.slot b.0.slot refl, u) (le-max_left b.0.version (issued_at start b.0.slot))

-- it is that of each process that was born, or a later one
at_least : (start : Start) (p : Pid) → is_unborn (at_start start p) ≡ false → p.version ≤ issued_at start p.slot
at_least [] p h = absurd (false≢true (sym h))
at_least (b ∷ start) p h = go (same_pid p b.0) refl (at_least start p)
  where
    go : (t : Bool) → same_pid p b.0 ≡ t → (is_unborn (at_start start p) ≡ false → p.version ≤ issued_at start p.slot) → p.version ≤ issued_at (b ∷ start) p.slot
    go true e ih =
        let u : is_unborn b.1 ≡ false = rw e at h in
        subst (λ q. q.version ≤ issued_at (b ∷ start) q.slot) (sym (same_pid_is p b.0 e)) (entry b start u)
    go false e ih =
        let u : is_unborn (at_start start p) ≡ false = rw e at h in
        let k = ih u in
        let m = le-max_right (cond ((b.0.slot == p.slot) && not (is_unborn b.1)) b.0.version 0) (issued_at start p.slot) in
        omega (arith, k, m)

-- it is up to n, where each of the slot that was born is
at_most : (start : Start) (slot n : ℕ) → Every (λ (b : Pid × Phase). b.0.slot ≡ slot → is_unborn b.1 ≡ false → b.0.version ≤ n) start → issued_at start slot ≤ n
at_most [] slot n h = omega arith
at_most (b ∷ start) slot n h = max-le (go (b.0.slot == slot) refl (is_unborn b.1) refl) (at_most start slot n h.1)
  where
    go : (t : Bool) → (b.0.slot == slot) ≡ t → (u : Bool) → is_unborn b.1 ≡ u → cond ((b.0.slot == slot) && not (is_unborn b.1)) b.0.version 0 ≤ n
    go true e false u = rw (e, u) (h.0 (eqb-true b.0.slot slot e) u)
    go true e true u = rw (e, u) (omega arith)
    go false e u k = rw e (omega arith)

module _ (start : Start) (desk : ℕ) (before : Past) (born : BornAreIssued start desk before) where
  after_unborn : (p : Pid) → is_unborn (at_start (start_after start before) p) ≡ is_unborn (life start before p)
  after_unborn p = ap is_unborn (leaves_each start before p) ∙ outcome_unborn (life start before p)

  issued_up_to : (p : Pid) → is_unborn (life start before p) ≡ false → p.version ≤ issued_in start before p.slot
  issued_up_to p u = let is : not (is_issued start desk before p) ≡ false = sym (born p) ∙ u in grind (arith, nat_tests)

  entries : (ps : List Pid) (slot : ℕ)
      → Every (λ (b : Pid × Phase). b.0.slot ≡ slot → is_unborn b.1 ≡ false → b.0.version ≤ issued_in start before slot) (map (λ p. (p, outcome (life start before p))) ps)
  entries [] slot = tt
  entries (p ∷ ps) slot = (
    λ e u. subst (λ s. p.version ≤ issued_in start before s) e (issued_up_to p (sym (outcome_unborn (life start before p)) ∙ u)),
    entries ps slot,
  )

  latest_born : (slot : ℕ) → 0 < issued_in start before slot → issued_in start before slot ≤ issued_at (start_after start before) slot
  latest_born slot some =
      let p : Pid = record { shard = desk; slot = slot; version = issued_in start before slot } in
      let is : is_issued start desk before p ≡ true = rw (eq-eqb desk desk refl) (grind (arith, nat_tests)) in
      at_least (start_after start before) p (after_unborn p ∙ born p ∙ ap not is)

  -- it is the same by the journal and by what that left behind
  pub issued_left : (slot : ℕ) → issued_at (start_after start before) slot ≡ issued_in start before slot
  issued_left slot = go (cases_lt 0 (issued_in start before slot))
    where
      most : issued_at (start_after start before) slot ≤ issued_in start before slot
      most = at_most (start_after start before) slot (issued_in start before slot) (entries (pids start before) slot)

      go : (0 < issued_in start before slot) ⊎ (issued_in start before slot ≤ 0) → issued_at (start_after start before) slot ≡ issued_in start before slot
      go (inl some) = let least = latest_born slot some in omega (arith, most, least)
      go (inr none) = omega (arith, most, none)

  pub born_left : BornAreIssued (start_after start before) desk []
  born_left p = rw (issued_left p.slot) (after_unborn p ∙ born p)

pub resident_left : (start : Start) (before : Past) (p : Pid) → live_process (start_after start before) [] p ≡ live_process start before p
resident_left start before p = ap (of_phase p) (leaves_each start before p) ∙ outcome_resident p (life start before p)

-- of whom the desk knows -----------------------------------------------------------------------

homes : (start : Start) (low top d : ℕ) (journal : List Stamped) → IsLocal start low top d journal → Every (IsHome d) (events journal)
homes start low top d [] local = tt
homes start low top d (s ∷ journal) local = (local.0.home, homes start low top d journal local.1)

keys_own : (d : ℕ) (start : Start) → Every (λ (b : Pid × Phase). b.0.shard ≡ d) start → Every (λ (p : Pid). p.shard ≡ d) (keys_of start)
keys_own d [] h = tt
keys_own d (b ∷ start) h = (h.0, keys_own d start h.1)

pids_own : (d : ℕ) (start : Start) → Every (λ (b : Pid × Phase). b.0.shard ≡ d) start → (before : Past) → Every (IsHome d) before → Every (λ (p : Pid). p.shard ≡ d) (pids start before)
pids_own d start own [] h = keys_own d start own
pids_own d start own (Born q parent link ∷ before) h =
    Every-append (λ p. p.shard ≡ d) (pids start before) (cond (is_unborn (life start before q)) (q ∷ []) []) (pids_own d start own before h.1)
    (each_branch (Every (λ (p : Pid). p.shard ≡ d)) (is_unborn (life start before q)) (q ∷ []) [] (h.0.0, tt) tt)
pids_own d start own (e ∷ before) h = pids_own d start own before h.1

entries_own : (d : ℕ) (f : Pid → Phase) (ps : List Pid) → Every (λ (p : Pid). p.shard ≡ d) ps → Every (λ (b : Pid × Phase). b.0.shard ≡ d) (map (λ p. (p, f p)) ps)
entries_own d f [] h = tt
entries_own d f (p ∷ ps) h = (h.0, entries_own d f ps h.1)

module _ (start : Start) (desks low top d n : ℕ) (journal : List Stamped) (above : clock low journal ≤ n) where
  abbrev next : Start
  next = start_after start (events journal)

  -- a monitor that is open now was open at the start of what follows
  was_open : (es : List (Ref × Pid)) → Every (IsOpen start desks low d journal) es → Every (WasOpen next desks n d) es
  was_open [] h = tt
  was_open (e ∷ es) h =
      let old = h.0.1 in (
        (h.0.0, omega (arith, old, above), λ k. ap is_unborn (leaves_each start (events journal) e.1) ∙ outcome_unborn (life start (events journal) e.1) ∙ h.0.2 k),
        was_open es h.1,
      )

  near_outcome : (f : Phase) → IsNearPhase desks (IsOpen start desks low d journal) f → IsNearPhase desks (WasOpen next desks n d) (outcome f)
  near_outcome unborn h = tt
  near_outcome (living s) h = record { links = h.links; watching = was_open s.watching h.watching; kept = h.kept }
  near_outcome (ended r s) h = tt

  -- the next journal of the desk has a start as it has to have
  pub begun_left : IsBegun start desks low d → d < desks → IsLocal start low top d journal → AllNear desks (events journal) → IsBegun next desks n d
  begun_left begun here local near = record {
    own = entries_own d (λ p. outcome (life start (events journal) p)) (pids start (events journal)) (pids_own d start begun.own (events journal) (homes start low top d journal local));
    near = λ p.
        subst (IsNearPhase desks (WasOpen next desks n d)) (sym (leaves_each start (events journal) p))
        (near_outcome (life start (events journal) p) (near_life start desks low top d begun journal here local near p));
  }
