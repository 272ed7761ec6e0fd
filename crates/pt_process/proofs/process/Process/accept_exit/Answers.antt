-- `Process::accept_exit`: its contract.
use Rattle.std.proofs.Common.{◌≡◌, Bool, true, false, cond, refl, sym, ap, subst, ◌∙◌, Option, Some, None}
use Rattle.pt_signal.specs.declared.pid.Pid.{Pid}
use Rattle.pt_signal.specs.declared.ids.Ids.{Ids}
use Rattle.pt_signal.specs.declared.reason.Reason.{Reason}
use Rattle.pt_signal.specs.declared.signal.Signal.{Signal}
use Rattle.pt_signal.specs.declared.signal.Signal.TheVariants.{LinkExit}
use Rattle.pt_signal.specs.Process.{ProcessState, Handled, held, holds_any, handle, link_exit, obey, stays}
use Rattle.pt_process.specs.declared.verdict.ExitSignal.{ExitSignal}
use Rattle.pt_process.specs.Outcome.{Accepts, ruled}
use Rattle.pt_process.specs.Exits.{IsExit, exit_of}
use Rattle.pt_process.proofs.ExitLemmas.{left_by, obeys}
use Rattle.pt_process.proofs.process.Process.accept_exit.Goals as goal

module _ (me : Pid) (s : ProcessState) (from : Pid) where
  -- one by a link that is not held does nothing
  by_none : (ids : Ids) (r : Reason) (b : Bool) → holds_any (held s.links from) ids ≡ b → cond {A = Option ExitSignal} b (Some (record { from = from; reason = r; by_link = true })) None ≡ None
      → handle me s from (LinkExit ids r) ≡ stays s
  by_none ids r true h at = cc
  by_none ids r false h at = ap (λ b. link_exit b me s from r) h

  dropped : (x : Signal) → IsExit x → exit_of s from x ≡ None → handle me s from x ≡ stays s
  dropped (LinkExit ids r) is at = by_none ids r _ refl at
  dropped (Signal.Exit r) is at = cc
  dropped x is at = absurd is

pub returns-in_default : goal.returns-in_default
returns-in_default c =
    let p = c.args.self.now in
    rw (dropped p.me p.state c.args.from c.args.signal c.requires (sym c.exit_signal.ensures ∙ c.in_default.is)) (refl, refl, (refl, refl, refl, refl))

pub returns-then-exit : goal.returns-then-exit
returns-then-exit c =
    let p = c.args.self.now in
    let handled = obeys p.me p.state c.args.from c.args.signal c.in-Some.exit (sym c.exit_signal.ensures ∙ c.in-Some.is) in
    let cut = left_by p.me p.state c.args.from in
    subst (λ (h : Handled). Accepts p h c.obey_link.result c.obey_link.new.self)
    (sym (handled ∙ ap (λ v. obey v (cut c.in-Some.exit.by_link)) (sym c.verdict-verdict.ensures) ∙ ap (λ b. obey (ruled c.verdict-verdict.result) (cut b)) c.if-exit.true))
    c.obey_link.ensures
