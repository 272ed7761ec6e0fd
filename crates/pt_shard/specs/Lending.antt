-- What the processes of a desk end as, where a `&mut` to one of them is returned. No public clause cites this module.
use Rattle.std.specs.Prelude.{Option}
use Rattle.std.specs.Borrow.{LendsIf, Fml, MutBor}
use Rattle.pt_signal.specs.declared.pid.Pid.{Pid}
use Rattle.pt_process.specs.ProcessView.{ProcessView}
use Rattle.pt_process.specs.contracts.process.Process.{the_row as process_row}
use Rattle.pt_shard.specs.Processes.{ProcessesState, with_process}
use Rattle.pt_shard.specs.contracts.processes.Processes.{the_row}

-- once the borrow r ends, p is the last value written through r; at `None` all stay as they are
abbrev pub LendsProcess : MutBor ProcessesState → Pid → Option (MutBor ProcessView) → Fml
LendsProcess s p r = LendsIf the_row process_row s r (with_process s.now p) s.now
