-- `Pids::first`: its contract.
use Rattle.std.proofs.Common.{ap, ◌∙◌}
use Rattle.std.specs.Prelude.{slice_get}
use Rattle.pt_chart.proofs.Naming.{first_place}
use Rattle.pt_chart.proofs.pids.Pids.first.Goals as goal

pub returns : goal.returns
returns c = c.copied.ensures ∙ c.first.ensures.value ∙ ap (λ ns. slice_get ns 0) c.all.ensures ∙ first_place c.args.pid c.args.self.now
