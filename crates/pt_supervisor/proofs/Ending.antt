-- What a supervisor waits for as it ends a child.
use Rattle.std.proofs.Common.{◌≡◌, inl, inr, ℕ, Bool, true, false, cond, length, Option, Some, None, Result, Ok, Err, refl, sym, ap, subst, ◌∙◌}
use Rattle.std.specs.Prelude.{MatchBool, is_ok, nat_lt}
use Rattle.pt_signal.specs.declared.pid.Pid.{Pid}
use Rattle.pt_signal.specs.declared.ids.Ref.{Ref}
use Rattle.pt_signal.specs.declared.item.Pick.{Pick}
use Rattle.pt_signal.specs.declared.reason.Reason.{Reason}
use Rattle.pt_signal.specs.Values.{same_pid}
use Rattle.pt_signal.proofs.Same.{same_pid_is}
use Rattle.pt_shard.specs.declared.fault.Fault.TheVariants.{Full, Memory, Worn, Gone as Over, Myself, NoProc}
use Rattle.pt_desk.specs.DeskState.{DeskState}
use Rattle.pt_behaviour.specs.declared.behaviour.Next.{Next}
use Rattle.pt_behaviour.specs.declared.behaviour.Next.TheVariants.{WaitUntil, Proceed}
use Rattle.pt_behaviour.specs.declared.call_fault.CallFault.{CallFault}
use Rattle.pt_behaviour.specs.declared.call_fault.CallFault.TheVariants.{Unknown}
use Rattle.pt_behaviour.proofs.Cases.{by_cases}
use Rattle.pt_children.specs.declared.asked.Asked.{Asked}
use Rattle.pt_children.specs.declared.asked.Stage.{Stage}
use Rattle.pt_children.specs.declared.asked.Stage.TheVariants.{Gone, Watched, Waiting, Until, Killed}
use Rattle.pt_children.specs.declared.children.Shutdown.{Shutdown}
use Rattle.pt_children.specs.declared.children.Shutdown.TheVariants.{Infinity, After, BrutalKill}
use Rattle.pt_children.specs.Children.{last_alive}
use Rattle.pt_children.specs.Ending.{bids, stage_of, stage_told}
use Rattle.pt_supervisor.specs.Ending.{next_at_stage}
use Rattle.pt_children.specs.Hearing.{Standing, at_stage}
use Rattle.pt_events.specs.History.{Phase}
use Rattle.pt_supervisor.specs.Supervising.{EndsChild, Supervises, TellsToEnd, after_watching}
use Rattle.pt_supervisor.specs.Keeping.{IsReady}

-- the one that it ends, as far as it has come
pub stage_at : (asked : Option Asked) (p : Pid) (stage : Stage) → stage_of asked p ≡ Some stage → asked ≡ Some (record { pid = p; stage = stage })
stage_at None p stage is = absurd (cc)
stage_at (Some a) p stage is = by_cases (same_pid a.pid p)
    (λ same.
    let here : Some a.stage ≡ Some stage = sym (ap (λ (b : Bool). cond b (Some a.stage) None) same) ∙ is in
    let st : a.stage ≡ stage = cc in
    ap (λ (q : Pid). Some (record { pid = q; stage = a.stage })) (same_pid_is a.pid p same) ∙ ap (λ (x : Stage). Some (record { pid = p; stage = x })) st)
    (λ other. let bad : None ≡ Some stage = sym (ap (λ (b : Bool). cond b (Some a.stage) None) other) ∙ is in absurd (cc))

abbrev IsLast : Pid → Shutdown → Standing → Type 0
IsLast p shutdown s = last_alive s.children s.ending (length s.children) ≡ Some (p, shutdown)

module _ (me p : Pid) where
  -- one that it told waits at that stage
  told_waits : (stage : Stage) (s : Standing) (next : Next) → Supervises (next_at_stage stage) (at_stage p stage s) → (ok : Bool) (t : Standing) → next ≡ cond ok (next_at_stage stage) Proceed → t ≡ cond ok (at_stage p stage s) s → Supervises next t
  told_waits stage s next waits true t next_is t_is = subst (λ (n : Next). Supervises n t) (sym next_is) (subst (Supervises (next_at_stage stage)) (sym t_is) waits)
  told_waits stage s next waits false t next_is t_is = subst (λ (n : Next). Supervises n t) (sym next_is) tt

  tells_supervise : (reason : Reason) (stage : Stage) (s : Standing) (d : DeskState) (next : Next) (t : Standing) (e : DeskState) → Supervises (next_at_stage stage) (at_stage p stage s) → TellsToEnd me p reason stage s d next t e → Supervises next t
  tells_supervise reason stage s d next t e waits h = told_waits stage s next waits (is_ok h.result) t h.next_is h.new_is

  by_shutdown : (shutdown : Shutdown) (m : Ref) (now : ℕ) (s : Standing) → IsLast p shutdown s → Supervises (next_at_stage (stage_told shutdown m now)) (at_stage p (stage_told shutdown m now) s)
  by_shutdown Infinity m now s last = (p, Infinity, inl (refl, (last, refl)))
  by_shutdown (After time) m now s last = (p, After time, (last, refl))
  by_shutdown BrutalKill m now s last = (p, BrutalKill, inr (last, refl))

  module _ (shutdown : Shutdown) (s : Standing) (d : DeskState) (next : Next) (t : Standing) (e : DeskState) (last : IsLast p shutdown s) where
    kill_supervises : (m : Ref) → TellsToEnd me p Reason.Kill (Killed m) s d next t e → Supervises next t
    kill_supervises m h = tells_supervise Reason.Kill (Killed m) s d next t e (p, shutdown, inr (last, refl)) h

    over_supervises : (early : Bool) (m : Ref) (at : ℕ) → s.asked ≡ Some (record { pid = p; stage = Until m at })
        → MatchBool early ((next ≡ WaitUntil (Pick.DownOf m) at) × (t ≡ s) × (e ≡ d)) (TellsToEnd me p Reason.Kill (Killed m) s d next t e) → Supervises next t
    over_supervises true m at is h = subst (λ (n : Next). Supervises n t) (sym h.0) (subst (Supervises (WaitUntil (Pick.DownOf m) at)) (sym h.1) (p, shutdown, (last, is)))
    over_supervises false m at is h = kill_supervises m h

    proceeds : next ≡ Proceed → Supervises next t
    proceeds is = subst (λ (n : Next). Supervises n t) (sym is) tt

    after_supervises : (now : ℕ) (result : Result Ref CallFault) (mid : DeskState) → after_watching me now p shutdown result s mid next t e → Supervises next t
    after_supervises now (Ok m) mid h = tells_supervise (bids shutdown) (stage_told shutdown m now) (at_stage p (Watched m) s) mid next t e (by_shutdown shutdown m now (at_stage p (Watched m) s) last) h
    after_supervises now (Err (CallFault.Refused NoProc)) mid h = proceeds h.0
    after_supervises now (Err (CallFault.Refused Over)) mid h = proceeds h.0
    after_supervises now (Err (CallFault.Refused Worn)) mid h = proceeds h.0
    after_supervises now (Err (CallFault.Refused Memory)) mid h = proceeds h.0
    after_supervises now (Err (CallFault.Refused Full)) mid h = proceeds h.0
    after_supervises now (Err (CallFault.Refused Myself)) mid h = proceeds h.0
    after_supervises now (Err Unknown) mid h = proceeds h.0

    pub ends_supervise : (now : ℕ) (stage : Option Stage) → stage_of s.asked p ≡ stage → EndsChild me now p shutdown stage s d next t e → Supervises next t
    ends_supervise now None is h = after_supervises now h.result h.mid h.goes
    ends_supervise now (Some Gone) is h = after_supervises now h.result h.mid h.goes
    ends_supervise now (Some (Watched m)) is h = tells_supervise (bids shutdown) (stage_told shutdown m now) s d next t e (by_shutdown shutdown m now s last) h
    ends_supervise now (Some (Waiting m)) is h = tells_supervise (bids shutdown) (stage_told shutdown m now) s d next t e (by_shutdown shutdown m now s last) h
    ends_supervise now (Some (Until m at)) is h = over_supervises (nat_lt now at) m at (stage_at s.asked p (Until m at) is) h
    ends_supervise now (Some (Killed m)) is h = kill_supervises m h

-- as it ends a child it never waits for any item
stage_ready : (stage : Stage) (f : Phase) → IsReady (next_at_stage stage) f
stage_ready Gone f = tt
stage_ready (Watched m) f = tt
stage_ready (Waiting m) f = tt
stage_ready (Until m at) f = tt
stage_ready (Killed m) f = tt

ready_if : (ok : Bool) (stage : Stage) (next : Next) (f : Phase) → next ≡ cond ok (next_at_stage stage) Proceed → IsReady next f
ready_if true stage next f is = subst (λ (n : Next). IsReady n f) (sym is) (stage_ready stage f)
ready_if false stage next f is = subst (λ (n : Next). IsReady n f) (sym is) tt

pub proceed_ready : (next : Next) (f : Phase) → next ≡ Proceed → IsReady next f
proceed_ready next f is = subst (λ (n : Next). IsReady n f) (sym is) tt

module _ (me p : Pid) (shutdown : Shutdown) (now : ℕ) (next : Next) (f : Phase) where
  tells_ready : (reason : Reason) (stage : Stage) (s : Standing) (d : DeskState) (t : Standing) (e : DeskState) → TellsToEnd me p reason stage s d next t e → IsReady next f
  tells_ready reason stage s d t e h = ready_if (is_ok h.result) stage next f h.next_is

  after_ready : (result : Result Ref CallFault) (s : Standing) (mid : DeskState) (t : Standing) (e : DeskState) → after_watching me now p shutdown result s mid next t e → IsReady next f
  after_ready (Ok m) s mid t e h = tells_ready (bids shutdown) (stage_told shutdown m now) (at_stage p (Watched m) s) mid t e h
  after_ready (Err c) s mid t e h = proceed_ready next f h.0

  over_ready : (early : Bool) (m : Ref) (at : ℕ) (s : Standing) (d : DeskState) (t : Standing) (e : DeskState)
      → MatchBool early ((next ≡ WaitUntil (Pick.DownOf m) at) × (t ≡ s) × (e ≡ d)) (TellsToEnd me p Reason.Kill (Killed m) s d next t e) → IsReady next f
  over_ready true m at s d t e h = subst (λ (n : Next). IsReady n f) (sym h.0) tt
  over_ready false m at s d t e h = tells_ready Reason.Kill (Killed m) s d t e h

  pub ends_ready : (stage : Option Stage) (s : Standing) (d : DeskState) (t : Standing) (e : DeskState) → EndsChild me now p shutdown stage s d next t e → IsReady next f
  ends_ready None s d t e h = after_ready h.result s h.mid t e h.goes
  ends_ready (Some Gone) s d t e h = after_ready h.result s h.mid t e h.goes
  ends_ready (Some (Watched m)) s d t e h = tells_ready (bids shutdown) (stage_told shutdown m now) s d t e h
  ends_ready (Some (Waiting m)) s d t e h = tells_ready (bids shutdown) (stage_told shutdown m now) s d t e h
  ends_ready (Some (Until m at)) s d t e h = over_ready (nat_lt now at) m at s d t e h
  ends_ready (Some (Killed m)) s d t e h = tells_ready Reason.Kill (Killed m) s d t e h
