-- What a process holds, where its lists stand and where it has none. No public clause cites this module.
use Rattle.std.specs.Prelude.{⊤, Option, None}
use Rattle.pt_signal.specs.declared.pid.Pid.{Pid}
use Rattle.pt_signal.specs.declared.reason.Reason.{Reason}
use Rattle.pt_signal.specs.Process.{ProcessState, fresh}
use Rattle.pt_accounts.specs.declared.held.Held.{Held}
use Rattle.pt_accounts.specs.declared.held.Held.TheVariants.{Process, Nothing}

abbrev pub pid_held : Held → Pid
pid_held (Process process) = process.value.me
pid_held (Nothing pid traps) = pid

abbrev pub state_held : Held → ProcessState
state_held (Process process) = process.value.state
state_held (Nothing pid traps) = record fresh { traps = traps }

-- the lists of a live process stand
abbrev pub Stands : Option Reason → Held → Type 0
Stands None (Nothing pid traps) = ⊥
Stands ended held = ⊤
