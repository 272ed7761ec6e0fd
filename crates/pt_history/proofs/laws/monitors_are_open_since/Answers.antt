-- `monitors_are_open_since`: its clauses `list` and `each`.
use Rattle.std.proofs.Common.{List, sym, subst}
use Rattle.std.specs.Prelude.{Contains, ◌↔◌}
use Rattle.pt_signal.specs.declared.pid.Pid.{Pid}
use Rattle.pt_signal.specs.declared.ids.Ref.{Ref}
use Rattle.pt_events.specs.History.{life, at_start, open_monitors}
use Rattle.pt_laws.specs.Since.{StandsSince}
use Rattle.pt_history.specs.Words.{monitor_opens, monitor_closes}
use Rattle.pt_history.proofs.MonitorsSince.{open_since}
use Rattle.pt_laws.proofs.living.Since.{stands_since}
use Rattle.pt_history.proofs.laws.monitors_are_open_since.Goals as goal

pub returns-clause-list : goal.returns-clause-list
returns-clause-list c start past w h once = open_since start w past h once

pub returns-clause-each : goal.returns-clause-each
returns-clause-each c start past w t m h once =
    subst
    (λ (xs : List (Ref × Pid)). Contains xs (m, t) ↔ StandsSince (open_monitors (at_start start w)) (λ before. monitor_opens w) (λ before. monitor_closes w (life start before w)) past (m, t))
    (sym (open_since start w past h once))
    (stands_since (open_monitors (at_start start w)) (λ before. monitor_opens w) (λ before. monitor_closes w (life start before w)) past (m, t))
