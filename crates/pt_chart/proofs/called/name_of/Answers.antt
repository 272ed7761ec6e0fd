-- `name_of`: its contract, and that the place is one of a name.
use Rattle.std.proofs.Common.{ap, ◌∙◌}
use Rattle.std.specs.Prelude.{position}
use Rattle.pt_signal.specs.Values.{same_pid}
use Rattle.pt_chart.specs.declared.called.Called.{Called}
use Rattle.pt_chart.proofs.Calling.{named_at, named_nowhere, named_within}
use Rattle.pt_chart.proofs.Naming.{position_of}
use Rattle.pt_chart.proofs.called.name_of.Goals as goal

pub bounds-called-place : goal.bounds-called-place
bounds-called-place c = named_within c.args.pid c.args.called.now c.in-Some.place (c.in-Some.ensures ∙ ap (position (same_pid c.args.pid)) c.requires ∙ position_of (same_pid c.args.pid) (λ (x : Called). x.pid) c.args.called.now)

pub returns-in-Some : goal.returns-in-Some
returns-in-Some c = named_at c.args.pid c.args.called.now c.in-Some.place (c.in-Some.ensures ∙ ap (position (same_pid c.args.pid)) c.requires ∙ position_of (same_pid c.args.pid) (λ (x : Called). x.pid) c.args.called.now)

pub returns-in-None : goal.returns-in-None
returns-in-None c = named_nowhere c.args.pid c.args.called.now (c.in-None.ensures ∙ ap (position (same_pid c.args.pid)) c.requires ∙ position_of (same_pid c.args.pid) (λ (x : Called). x.pid) c.args.called.now)
