-- `Runner::wake_all`: what holds in its loop over `index`.
use Rattle.std.proofs.Common.{◌≡◌, vec_len, vec_capacity, take}
use Rattle.std.specs.List.{All}
use Rattle.pt_runner.specs.Acting.{table}
use Rattle.pt_runner.specs.Waiting.{HasSameRest, IsUnmarked}
use Rattle.pt_runner.proofs.runner.Runner.wake_all.Given as goal

abbrev pub invariant-loop-index : goal.invariant-loop-index
invariant-loop-index l = record {
  table : table l.self ≡ table l.fn.self;
  unmarked : All IsUnmarked (take l.index l.self.actors.items);
  end : l.index-end ≡ vec_len l.self.actors;
  len : vec_len l.self.actors ≡ vec_len l.fn.self.actors;
  room : vec_capacity l.self.actors ≡ vec_capacity l.fn.self.actors;
  rest : HasSameRest l.fn.self l.self;
}
