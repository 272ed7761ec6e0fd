-- `Members::pids`: its clause `listed`.
use Rattle.std.proofs.Common.{nat_lt, ap, ◌∙◌}
use Rattle.std.specs.List.{list_any}
use Rattle.pt_signal.specs.Values.{same_pid}
use Rattle.pt_names.specs.Groups.{count_in}
use Rattle.pt_names.proofs.Grouped.{listed_counted}
use Rattle.pt_names.proofs.places.Members.pids.Goals as goal

pub returns-clause-listed : goal.returns-clause-listed
returns-clause-listed c = λ p.
    ap (list_any (same_pid p)) (c.as_slice.ensures ∙ c.keys.ensures.rest)
    ∙ listed_counted c.self.inside.counts.entries c.self.invariant p ∙ ap (λ z. nat_lt 0 (count_in z p)) c.self.view_is
