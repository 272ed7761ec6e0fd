-- `Runner::look`: what holds in its loop over `self`.
use Rattle.std.proofs.Common.{◌≡◌, ◌-◌, length, vec_len}
use Rattle.pt_runner.specs.Acting.{table}
use Rattle.pt_runner.specs.Waiting.{RunnerKnows}
use Rattle.pt_runner.proofs.runner.Runner.look.Given as goal

abbrev pub invariant-loop-self : goal.invariant-loop-self
invariant-loop-self l = record {
  knows : RunnerKnows l.initial.self l.desk.shard → RunnerKnows l.self l.desk.shard;
  table : table l.self ≡ table l.initial.self;
  len : vec_len l.self.actors ≡ vec_len l.initial.self.actors;
}

abbrev pub decreases-loop-self : goal.decreases-loop-self
decreases-loop-self l = length l.events - l.self.read
