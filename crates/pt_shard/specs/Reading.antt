-- A process that a desk lends to be read.
use Rattle.std.specs.Prelude.{Option, Some, None}
use Rattle.pt_signal.specs.declared.pid.Pid.{Pid}
use Rattle.pt_signal.specs.Process.{ProcessState}
use Rattle.pt_process.specs.ProcessView.{ProcessView}

-- its pid, and what it holds
abbrev pub read_of : Option ProcessView → Option (Pid × ProcessState)
read_of None = None
read_of (Some r) = Some (r.me, r.state)
