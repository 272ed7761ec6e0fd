-- How an exit signal arrives. No public clause cites this module.
use Rattle.std.specs.Prelude.{⊤, true, false, cond, Option, Some, None}
use Rattle.pt_signal.specs.declared.pid.Pid.{Pid}
use Rattle.pt_signal.specs.declared.signal.Signal.{Signal}
use Rattle.pt_signal.specs.declared.signal.Signal.TheVariants.{LinkExit}
use Rattle.pt_signal.specs.Process.{ProcessState, held, holds_any}
use Rattle.pt_process.specs.declared.verdict.ExitSignal.{ExitSignal}

abbrev pub IsExit : Signal → Type 0
IsExit (Signal.Exit r) = ⊤
IsExit (LinkExit ids r) = ⊤
IsExit _ = ⊥

-- how an exit signal arrives: one by a link does only while the link is held
abbrev pub exit_of : ProcessState → Pid → Signal → Option ExitSignal
exit_of s from (Signal.Exit r) = Some (record { from = from; reason = r; by_link = false })
exit_of s from (LinkExit ids r) =
    cond (holds_any (held s.links from) ids) (Some (record { from = from; reason = r; by_link = true })) None
exit_of s from _ = None
