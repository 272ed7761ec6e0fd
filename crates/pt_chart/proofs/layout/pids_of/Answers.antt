-- `pids_of`: its contract.
use Rattle.std.proofs.Common.{◌∙◌}
use Rattle.pt_chart.proofs.Desks.{all_in_order}
use Rattle.pt_chart.proofs.layout.pids_of.Goals as goal

pub returns : goal.returns
returns c = all_in_order c.in_desks.result (λ v. v.items) c.args.events.now c.as_slice.result.now (c.as_slice.ensures.keys ∙ c.in_ok-named.ensures) c.in_desks.ensures
