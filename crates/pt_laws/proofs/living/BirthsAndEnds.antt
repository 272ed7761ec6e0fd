-- Births and ends, one event at a time.
use Rattle.std.proofs.Common.{◌≡◌, ◌+◌, Bool, true, false, cond, not, ◌&&◌, ◌||◌, [], ◌∷◌, ◌++◌, Option, Some, None, refl, sym, ap, ◌∙◌, arith}
use Rattle.std.specs.Prelude.{is_some}
use Rattle.std.specs.Option.{option_or}
use Rattle.std.proofs.lemmas.Bool.{false≢true}
use Rattle.pt_signal.specs.declared.pid.Pid.{Pid}
use Rattle.pt_signal.specs.declared.ids.LinkId.{LinkId}
use Rattle.pt_signal.specs.declared.reason.Reason.{Reason}
use Rattle.pt_signal.specs.declared.signal.Signal.{Signal}
use Rattle.pt_signal.specs.declared.signal.Signal.TheVariants.{LinkExit}
use Rattle.pt_events.specs.declared.event.Event.{Event}
use Rattle.pt_events.specs.declared.event.Event.TheVariants.{Born, Said, Came, Took, Flag, Left}
use Rattle.pt_signal.specs.Values.{same_pid, same_ref}
use Rattle.pt_signal.specs.Process.{ProcessState, Verdict, drops, queues, ends, verdict, obey, held, holds_any, link_exit, down, handle}
use Rattle.pt_events.specs.History.{Past, Start, Phase, unborn, living, ended, life, after, is_the, is_unborn, is_ended, is_living, reason_of, newborn, while_living, live_or_end, gets, leaves, is_birth}
use Rattle.pt_events.specs.Journal.{MayHere}
use Rattle.pt_laws.specs.Acts.{ActsMayCome}
use Rattle.pt_events.specs.Counting.{one_if}
use Rattle.std.specs.Map.{lookup}
use Rattle.pt_signal.proofs.Same.{same_pid_is}
use Rattle.pt_events.proofs.Phases.{after_ended}
use Rattle.pt_laws.specs.BirthsAndEnds.{ended_by_verdict, signal_ends, ends_with, births, deaths, was_born, end_reason}

-- a signal ends a live process by its verdict alone ------------------------------------------------

obey_ending : (v : Verdict) (s : ProcessState) → (obey v s).ending ≡ ended_by_verdict v
obey_ending drops s = refl
obey_ending (queues i) s = refl
obey_ending (ends r) s = refl

link_exit_ending : (b : Bool) (p : Pid) (s : ProcessState) (a : Pid) (r : Reason)
    → (link_exit b p s a r).ending ≡ cond b (ended_by_verdict (verdict true s.traps (same_pid a p) a r)) None
link_exit_ending false p s a r = refl
link_exit_ending true p s a r = obey_ending (verdict true s.traps (same_pid a p) a r) _

down_ending : (t : Option Pid) (s : ProcessState) (a : Pid) (m : _) (r : Reason) → (down t s a m r).ending ≡ None
down_ending None s a m r = refl
down_ending (Some t) s a m r = refl

pub handle_ending : (p : Pid) (s : ProcessState) (a : Pid) (x : Signal) → (handle p s a x).ending ≡ signal_ends p s a x
handle_ending p s a (Signal.Exit r) = obey_ending (verdict false s.traps (same_pid a p) a r) s
handle_ending p s a (LinkExit ids r) = link_exit_ending (holds_any (held s.links a) ids) p s a r
handle_ending p s a (Signal.Down m r) = down_ending (lookup (same_ref m) s.watching) s a m r
handle_ending p s a _ = refl

-- births -------------------------------------------------------------------------------------------

stays_or_ends : (o : Option Reason) (s : ProcessState) → is_unborn (live_or_end o s) ≡ false
stays_or_ends None s = refl
stays_or_ends (Some r) s = refl

born_case : (b c : Bool) (step : ProcessState → ProcessState) (parent : Option Pid) (link : Option LinkId) (f : Phase)
    → is_unborn (cond (b || c) (cond b (newborn parent link f) (while_living step f)) f) ≡ (is_unborn f && not b)
born_case true c step parent link unborn = refl
born_case true c step parent link (living s) = refl
born_case true c step parent link (ended r s) = refl
born_case false true step parent link unborn = refl
born_case false true step parent link (living s) = refl
born_case false true step parent link (ended r s) = refl
born_case false false step parent link unborn = refl
born_case false false step parent link (living s) = refl
born_case false false step parent link (ended r s) = refl

step_case : (b : Bool) (step : ProcessState → ProcessState) (f : Phase) → is_unborn (cond b (while_living step f) f) ≡ (is_unborn f && true)
step_case true step unborn = refl
step_case true step (living s) = refl
step_case true step (ended r s) = refl
step_case false step unborn = refl
step_case false step (living s) = refl
step_case false step (ended r s) = refl

gets_case : (b : Bool) (p a : Pid) (x : Signal) (f : Phase) → is_unborn (cond b (gets p a x f) f) ≡ (is_unborn f && true)
gets_case true p a x unborn = refl
gets_case true p a x (living s) = stays_or_ends (handle p s a x).ending (handle p s a x).state
gets_case true p a x (ended r s) = refl
gets_case false p a x unborn = refl
gets_case false p a x (living s) = refl
gets_case false p a x (ended r s) = refl

leaves_case : (b : Bool) (r : Reason) (f : Phase) → is_unborn (cond b (leaves r f) f) ≡ (is_unborn f && true)
leaves_case true r unborn = refl
leaves_case true r (living s) = refl
leaves_case true r (ended w s) = refl
leaves_case false r unborn = refl
leaves_case false r (living s) = refl
leaves_case false r (ended w s) = refl

-- only its birth makes a pid born
pub born_step : (p : Pid) (e : Event) (f : Phase) → is_unborn (after p e f) ≡ (is_unborn f && not (is_birth p e))
born_step p (Born q parent link) f = born_case (same_pid p q) (is_the p parent) _ parent link f
born_step p (Said a b x) f = step_case (same_pid p a) _ f
born_step p (Came a b x) f = gets_case (same_pid p b) p a x f
born_step p (Took q k i) f = step_case (same_pid p q) _ f
born_step p (Flag q on) f = step_case (same_pid p q) _ f
born_step p (Left q r) f = leaves_case (same_pid p q) r f
born_step p _ f = step_case false (λ s. s) f

-- ends ---------------------------------------------------------------------------------------------

reason_live : (o : Option Reason) (s : ProcessState) → reason_of (live_or_end o s) ≡ o
reason_live None s = refl
reason_live (Some r) s = refl

born_reason : (b c : Bool) (step : ProcessState → ProcessState) (parent : Option Pid) (link : Option LinkId) (f : Phase)
    → reason_of (cond (b || c) (cond b (newborn parent link f) (while_living step f)) f) ≡ option_or (reason_of f) None
born_reason true c step parent link unborn = refl
born_reason true c step parent link (living s) = refl
born_reason true c step parent link (ended r s) = refl
born_reason false true step parent link unborn = refl
born_reason false true step parent link (living s) = refl
born_reason false true step parent link (ended r s) = refl
born_reason false false step parent link unborn = refl
born_reason false false step parent link (living s) = refl
born_reason false false step parent link (ended r s) = refl

step_reason : (b : Bool) (step : ProcessState → ProcessState) (f : Phase) → reason_of (cond b (while_living step f) f) ≡ option_or (reason_of f) None
step_reason true step unborn = refl
step_reason true step (living s) = refl
step_reason true step (ended r s) = refl
step_reason false step unborn = refl
step_reason false step (living s) = refl
step_reason false step (ended r s) = refl

gets_reason : (b : Bool) (p a : Pid) (x : Signal) (s : ProcessState) → reason_of (cond b (gets p a x (living s)) (living s)) ≡ cond b (signal_ends p s a x) None
gets_reason true p a x s = reason_live (handle p s a x).ending (handle p s a x).state ∙ handle_ending p s a x
gets_reason false p a x s = refl

came_reason : (p a b : Pid) (x : Signal) (f : Phase) → reason_of (after p (Came a b x) f) ≡ option_or (reason_of f) (ends_with p f (Came a b x))
came_reason p a b x unborn = go (same_pid p b)
  where
    go : (t : Bool) → reason_of (cond t (gets p a x unborn) unborn) ≡ None
    go true = refl
    go false = refl
came_reason p a b x (living s) = gets_reason (same_pid p b) p a x s
came_reason p a b x (ended r s) = ap reason_of (after_ended p (Came a b x) r s)

leaves_reason : (b : Bool) (r : Reason) (f : Phase) → (b ≡ true → is_living f ≡ true) → reason_of (cond b (leaves r f) f) ≡ option_or (reason_of f) (cond b (Some r) None)
leaves_reason true r unborn h = absurd (false≢true (h refl))
leaves_reason true r (living s) h = refl
leaves_reason true r (ended w s) h = refl
leaves_reason false r unborn h = refl
leaves_reason false r (living s) h = refl
leaves_reason false r (ended w s) h = refl

module _ (start : Start) where
  pub reason_step : (past : Past) (p : Pid) (e : Event) → MayHere start past e → reason_of (life start (e ∷ past) p) ≡ option_or (reason_of (life start past p)) (ends_with p (life start past p) e)
  reason_step past p (Born q parent link) h = born_reason (same_pid p q) (is_the p parent) _ parent link (life start past p)
  reason_step past p (Said a b x) h = step_reason (same_pid p a) _ (life start past p)
  reason_step past p (Came a b x) h = came_reason p a b x (life start past p)
  reason_step past p (Took q k i) h = step_reason (same_pid p q) _ (life start past p)
  reason_step past p (Flag q on) h = step_reason (same_pid p q) _ (life start past p)
  reason_step past p (Left q r) h = leaves_reason (same_pid p q) r (life start past p) (λ e. rw (same_pid_is p q e) h)
  reason_step past p _ h = step_reason false (λ s. s) (life start past p)

  -- the laws ---------------------------------------------------------------------------------------

  -- a birth is of a pid that was unborn
  birth_is_new : (past : Past) (p : Pid) (e : Event) → MayHere start past e → is_birth p e ≡ true → is_unborn (life start past p) ≡ true
  birth_is_new past p (Born q parent link) h e = rw (same_pid_is p q e, h.0) refl
  birth_is_new past p _ h e = absurd (false≢true e)

  pub born_once : (past : Past) (p : Pid) → ActsMayCome start past
      → births past p + one_if (not (is_unborn (life start [] p))) ≡ one_if (not (is_unborn (life start past p)))
  born_once [] p h = omega arith
  born_once (e ∷ past) p h = go (is_birth p e) refl (is_unborn (life start past p)) refl (birth_is_new past p e h.0) (born_once past p h.1)
    where
      go : (b : Bool) → is_birth p e ≡ b → (u : Bool) → is_unborn (life start past p) ≡ u → (is_birth p e ≡ true → is_unborn (life start past p) ≡ true)
          → births past p + one_if (not (is_unborn (life start [] p))) ≡ one_if (not (is_unborn (life start past p)))
          → births past p + one_if (is_birth p e) + one_if (not (is_unborn (life start [] p))) ≡ one_if (not (is_unborn (life start (e ∷ past) p)))
      go true b u l new ih = let k : is_unborn (life start past p) ≡ true = new b in let z : one_if (not (is_unborn (life start past p))) ≡ 0 = rw k refl in rw (born_step p e (life start past p), b, k) (omega arith)
      go false b true l new ih = let z : one_if (not (is_unborn (life start past p))) ≡ 0 = rw l refl in rw (born_step p e (life start past p), b, l) (omega arith)
      go false b false l new ih = let z : one_if (not (is_unborn (life start past p))) ≡ 1 = rw l refl in rw (born_step p e (life start past p), b, l) (omega arith)

  reason_is_end : (f : Phase) → is_some (reason_of f) ≡ is_ended f
  reason_is_end unborn = refl
  reason_is_end (living s) = refl
  reason_is_end (ended r s) = refl

  -- an event that ends a pid finds it alive
  end_is_new : (past : Past) (p : Pid) (e : Event) → MayHere start past e → is_some (ends_with p (life start past p) e) ≡ true → reason_of (life start past p) ≡ None
  end_is_new past p (Left q r) h g = go (same_pid p q) refl g
    where
      lives : (f : Phase) → is_living f ≡ true → reason_of f ≡ None
      lives unborn k = refl
      lives (living s) k = refl
      lives (ended w s) k = absurd (false≢true k)

      go : (b : Bool) → same_pid p q ≡ b → is_some (cond (same_pid p q) (Some r) None) ≡ true → reason_of (life start past p) ≡ None
      go true e k = lives (life start past p) (rw (same_pid_is p q e) h)
      go false e k = let z : false ≡ true = rw e at k in absurd (false≢true z)
  end_is_new past p (Took q k i) h g = go (life start past p) g
    where
      go : (f : Phase) → is_some (ends_with p f (Took q k i)) ≡ true → reason_of f ≡ None
      go unborn k = refl
      go (living s) k = refl
      go (ended w s) k = absurd (false≢true k)
  end_is_new past p e h g = go (life start past p) g
    where
      go : (f : Phase) → is_some (ends_with p f e) ≡ true → reason_of f ≡ None
      go unborn k = refl
      go (living s) k = refl
      go (ended w s) k = absurd (false≢true k)

  later_some : (o n : Option Reason) → (is_some n ≡ true → o ≡ None) → one_if (is_some o) + one_if (is_some n) ≡ one_if (is_some (option_or o n))
  later_some None n h = omega arith
  later_some (Some r) None h = refl
  later_some (Some r) (Some w) h = let k = h refl in absurd (cc)

  pub ended_once : (past : Past) (p : Pid) → ActsMayCome start past
      → deaths start past p + one_if (is_ended (life start [] p)) ≡ one_if (is_ended (life start past p))
  ended_once [] p h = omega arith
  ended_once (e ∷ past) p h =
      let ih = ended_once past p h.1 in
      let k = later_some (reason_of (life start past p)) (ends_with p (life start past p) e) (end_is_new past p e h.0) in
      let a = ap one_if (reason_is_end (life start past p)) in
      let b = ap one_if (ap is_some (sym (reason_step past p e h.0)) ∙ reason_is_end (life start (e ∷ past) p)) in
      omega arith

  pub stays_ended : (later past : Past) (p : Pid) (r : Reason) (s : ProcessState) → life start past p ≡ ended r s → life start (later ++ past) p ≡ ended r s
  stays_ended [] past p r s h = h
  stays_ended (e ∷ later) past p r s h = ap (after p e) (stays_ended later past p r s h) ∙ after_ended p e r s

  pub was_born_is : (past : Past) (p : Pid) → was_born start past p ≡ not (is_unborn (life start past p))
  was_born_is [] p = refl
  was_born_is (e ∷ past) p = rw (was_born_is past p, born_step p e (life start past p)) (go (is_unborn (life start past p)) (is_birth p e))
    where
      go : (u b : Bool) → (not u || b) ≡ not (u && not b)
      go true true = refl
      go true false = refl
      go false b = refl

  pub end_reason_is : (past : Past) (p : Pid) → ActsMayCome start past → end_reason start past p ≡ reason_of (life start past p)
  end_reason_is [] p h = refl
  end_reason_is (e ∷ past) p h = rw (end_reason_is past p h.1) (sym (reason_step past p e h.0))

  pub alive_until_end : (past : Past) (p : Pid) → ActsMayCome start past → is_living (life start past p) ≡ (was_born start past p && not (is_some (end_reason start past p)))
  alive_until_end past p h = rw (was_born_is past p, end_reason_is past p h) (go (life start past p))
    where
      go : (f : Phase) → is_living f ≡ (not (is_unborn f) && not (is_some (reason_of f)))
      go unborn = refl
      go (living s) = refl
      go (ended r s) = refl
