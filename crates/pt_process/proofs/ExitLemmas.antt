-- An exit signal does what the verdict on it says.
use Rattle.std.proofs.Common.{◌≡◌, Bool, true, false, cond, refl, ap, subst, Some, None, unwrap_or}
use Rattle.std.specs.Map.{remove_entry}
use Rattle.pt_signal.specs.declared.pid.Pid.{Pid}
use Rattle.pt_signal.specs.declared.ids.Ids.{Ids}
use Rattle.pt_signal.specs.declared.reason.Reason.{Reason}
use Rattle.pt_signal.specs.declared.signal.Signal.{Signal}
use Rattle.pt_signal.specs.declared.signal.Signal.TheVariants.{LinkExit}
use Rattle.pt_signal.specs.Values.{same_pid}
use Rattle.pt_signal.specs.Process.{ProcessState, held, holds_any, handle, link_exit, obey, verdict}
use Rattle.pt_process.specs.declared.verdict.ExitSignal.{ExitSignal}
use Rattle.pt_process.specs.Exits.{exit_of}

module _ (me : Pid) (s : ProcessState) (from : Pid) where
  -- one by a link takes the entry
  abbrev pub left_by : Bool → ProcessState
  left_by true = record s { links = remove_entry (same_pid from) s.links }
  left_by false = s

  abbrev Obeys : Signal → ExitSignal → Type 0
  Obeys x e = handle me s from x ≡ obey (verdict e.by_link s.traps (same_pid e.from me) e.from e.reason) (left_by e.by_link)

  by_held : (ids : Ids) (r : Reason) (e : ExitSignal) (b : Bool) → holds_any (held s.links from) ids ≡ b → cond b (Some (record { from = from; reason = r; by_link = true })) None ≡ Some e → Obeys (LinkExit ids r) e
  by_held ids r e true h at = subst (Obeys (LinkExit ids r)) (ap (λ o. unwrap_or o e) at) (ap (λ b. link_exit b me s from r) h)
  by_held ids r e false h at = cc

  pub obeys : (x : Signal) (e : ExitSignal) → exit_of s from x ≡ Some e → Obeys x e
  obeys (LinkExit ids r) e at = by_held ids r e _ refl at
  obeys (Signal.Exit r) e at = subst (Obeys (Signal.Exit r)) (ap (λ o. unwrap_or o e) at) refl
  obeys x e at = cc
