-- `RunnerWork::step`: what holds in its loop over `index`.
use Rattle.std.proofs.Common.{◌≡◌, ◌≤◌, length, vec_len}
use Rattle.pt_desk.specs.DeskState.{GoesOn, HasSameEnds}
use Rattle.pt_runner.specs.Acting.{EachActs, table, living}
use Rattle.pt_runner.specs.Waiting.{RunnerAttends, IsAbreast}
use Rattle.pt_runner.proofs.runner.RunnerWork.step.Given as goal

abbrev pub invariant-loop-index : goal.invariant-loop-index
invariant-loop-index l = record {
  does : RunnerAttends l.fn.self l.fn.desk.shard → EachActs l.index (living l.fn.desk.shard (table l.fn.self)) l.fn.desk.shard (table l.self) l.desk.shard;
  abreast : RunnerAttends l.fn.self l.fn.desk.shard → IsAbreast l.self l.desk.shard;
  count : RunnerAttends l.fn.self l.fn.desk.shard → l.index-end ≡ length (living l.fn.desk.shard (table l.fn.self)).actors;
  len : l.index-end ≤ vec_len l.self.actors;
  ends : HasSameEnds l.fn.desk l.desk;
  goes_on : GoesOn l.fn.desk l.desk;
}
