-- `senders`: what holds in its loop over `d`.
use Rattle.std.proofs.Common.{◌≡◌, ◌≤◌, vec_len}
use Rattle.std.specs.Vec.{vec_capacity}
use Rattle.pt_workers.specs.Desks.{AreDesks}
use Rattle.example_uses.proofs.desks_on_threads.senders.Given as goal

abbrev pub invariant-loop-d : goal.invariant-loop-d
invariant-loop-d l = record {
  node : AreDesks l.desks.items;
  count : vec_len l.desks ≡ vec_len l.initial.desks;
  made : vec_len l.senders ≡ l.d;
  room : vec_len l.desks ≤ vec_capacity l.senders;
}
