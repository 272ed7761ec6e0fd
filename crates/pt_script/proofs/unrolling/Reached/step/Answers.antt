-- `Reached::step`: its contract.
use Rattle.pt_script.specs.Unrolling.{reached_view}
use Rattle.pt_script.proofs.UnrollingFacts.{refuses_over, refuses_wrong}
use Rattle.pt_script.proofs.unrolling.Reached.step.Goals as goal

pub returns-then-not-branch-clause-step : goal.returns-then-not-branch-clause-step
returns-then-not-branch-clause-step c = refuses_wrong c.args.left.now c.args.process c.args.list.now (reached_view c.args.self.now) (reached_view c.pass.new.self) c.args.operation c.in_ok-pass.field-0 c.refused.result c.requires.here c.if-not-branch.true c.in_ok-pass.ensures c.refused.ensures

pub returns-then-left-eq0-clause-step : goal.returns-then-left-eq0-clause-step
returns-then-left-eq0-clause-step c = refuses_over c.args.left.now c.args.process c.args.list.now (reached_view c.args.self.now) (reached_view c.pass.new.self) c.args.operation c.in_ok-pass.field-0 c.refused-then-left-eq0.result c.requires.here c.if-not-branch.false c.in_ok-pass.ensures c.if-left-eq0.true c.refused-then-left-eq0.ensures
