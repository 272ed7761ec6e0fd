-- `with_run`: what holds in its loop.
use Rattle.std.proofs.Common.{◌≡◌, ◌-◌, ◌+◌, ◌≤◌, ◌++◌}
use Rattle.pt_auditor.specs.Rests.{ended_run}
use Rattle.pt_auditor.proofs.rest.with_run.Given as goal

abbrev pub invariant-loop-version : goal.invariant-loop-version
invariant-loop-version l = record {
  state : l.state ≡ record l.initial.state { lives = l.initial.state.lives ++ ended_run l.pid l.reason (l.version - l.pid.version) };
  within : l.version - l.pid.version ≤ l.last + 1 - l.pid.version;
}
