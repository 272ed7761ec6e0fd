-- One event changes what the journal has of one process.
use Rattle.std.proofs.Common.{◌≡◌, Bool, true, false, cond, ◌∷◌, Option, Some, None, refl, sym, ap, ◌∙◌}
use Rattle.pt_signal.specs.declared.pid.Pid.{Pid}
use Rattle.pt_signal.specs.Values.{same_pid}
use Rattle.pt_signal.specs.Process.{ProcessState}
use Rattle.pt_signal.proofs.Same.{same_pid_is}
use Rattle.pt_events.specs.declared.event.Event.{Event}
use Rattle.pt_events.specs.History.{Past, Start, Phase, unborn, living, ended, touches, is_living}
use Rattle.pt_events.proofs.Steps.{untouched}
use Rattle.pt_shard.specs.Sound.{live_process, of_phase}

abbrev pub Reading : Type 0
Reading = Pid → Option (Pid × ProcessState)

-- `other` has v for p, and else the same
abbrev pub IsPut : Pid → Option (Pid × ProcessState) → Reading → Reading → Type 0
IsPut p v read other = (q : Pid) → other q ≡ cond (same_pid q p) v (read q)

module _ (start : Start) (before : Past) (e : Event) (p : Pid) (alone : (q : Pid) → touches q e ≡ same_pid q p) where
  pub others : (q : Pid) → same_pid q p ≡ false → live_process start (e ∷ before) q ≡ live_process start before q
  others q h = ap (of_phase q) (untouched start before e q (alone q ∙ h))

  pub put_one : (read other : Reading) → ((q : Pid) → read q ≡ live_process start before q) → IsPut p (live_process start (e ∷ before) p) read other → (q : Pid) → other q ≡ live_process start (e ∷ before) q
  put_one read other same put q = go (same_pid q p) refl (put q)
    where
      go : (b : Bool) → same_pid q p ≡ b → other q ≡ cond (same_pid q p) (live_process start (e ∷ before) p) (read q) → other q ≡ live_process start (e ∷ before) q
      go true h k = let at : other q ≡ live_process start (e ∷ before) p = rw h at k in at ∙ ap (live_process start (e ∷ before)) (sym (same_pid_is q p h))
      go false h k = let at : other q ≡ read q = rw h at k in at ∙ same q ∙ sym (others q h)

abbrev state_or : ProcessState → Option (Pid × ProcessState) → ProcessState
state_or t None = t
state_or t (Some r) = r.1

abbrev pid_or : Pid → Option (Pid × ProcessState) → Pid
pid_or p None = p
pid_or p (Some r) = r.0

-- who is in the table lives, under its own pid
pub lives_there : (f : Phase) (p q : Pid) (s : ProcessState) → of_phase p f ≡ Some (q, s) → (f ≡ living s) × (q ≡ p)
lives_there unborn p q s h = absurd (cc)
lives_there (living t) p q s h = (ap (λ o. living (state_or t o)) h, sym (ap (λ o. pid_or p o) h))
lives_there (ended r t) p q s h = absurd (cc)

pub lives_not : (f : Phase) (p : Pid) → of_phase p f ≡ None → is_living f ≡ false
lives_not unborn p h = refl
lives_not (living t) p h = absurd (cc)
lives_not (ended r t) p h = refl
