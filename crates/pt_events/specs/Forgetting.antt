-- A start in which the reasons of the processes that ended are forgotten.
use Rattle.std.specs.Prelude.{map}
use Rattle.pt_signal.specs.declared.reason.Reason.TheVariants.{Noproc}
use Rattle.pt_signal.specs.Process.{fresh}
use Rattle.pt_events.specs.History.{Start, Phase, ended}

-- of an ended process its end alone; the reason is noproc, which a monitor of it is told from then on
abbrev pub reasonless : Phase → Phase
reasonless (ended r s) = ended Noproc fresh
reasonless f = f

-- each process is there as before, but of those that ended no reason is known
abbrev pub without_reasons : Start → Start
without_reasons start = map (λ b. (b.0, reasonless b.1)) start
