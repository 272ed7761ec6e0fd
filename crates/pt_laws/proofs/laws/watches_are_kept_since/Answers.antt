-- `watches_are_kept_since`: its clauses `list` and `each`.
use Rattle.std.proofs.Common.{[], List, sym, subst}
use Rattle.std.specs.Prelude.{Contains, ◌↔◌}
use Rattle.pt_signal.specs.declared.pid.Pid.{Pid}
use Rattle.pt_signal.specs.declared.ids.Ref.{Ref}
use Rattle.pt_events.specs.History.{life, state}
use Rattle.pt_laws.specs.Since.{StandsSince}
use Rattle.pt_laws.specs.Words.{watch_enters, watch_leaves}
use Rattle.pt_laws.proofs.monitoring.WatchesSince.{kept_since}
use Rattle.pt_laws.proofs.living.Since.{stands_since}
use Rattle.pt_laws.proofs.laws.watches_are_kept_since.Goals as goal

pub returns-clause-list : goal.returns-clause-list
returns-clause-list c start past t ok = kept_since start ok t past

pub returns-clause-each : goal.returns-clause-each
returns-clause-each c start past t w m ok =
    subst
    (λ (xs : List (Ref × Pid)). Contains xs (m, w) ↔ StandsSince (state start [] t).kept (λ before. watch_enters t (life start before t)) (λ before. watch_leaves t (life start before t)) past (m, w))
    (sym (kept_since start ok t past))
    (stands_since (state start [] t).kept (λ before. watch_enters t (life start before t)) (λ before. watch_leaves t (life start before t)) past (m, w))
