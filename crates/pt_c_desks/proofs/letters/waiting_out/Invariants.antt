-- `waiting_out`: what holds in its loop over `k`.
use Rattle.std.proofs.Common.{◌≡◌, ◌-◌, ◌<◌, ◌^◌, drop}
use Rattle.pt_c_desks.specs.Letters.{desks_with}
use Rattle.pt_c_desks.proofs.letters.waiting_out.Given as goal

abbrev pub invariant-loop-k : goal.invariant-loop-k
invariant-loop-k l = record {
  seen : l.waiting ≡ desks_with (drop (l.desks - l.k) l.fn.shard.outbox);
  few : l.waiting < 2 ^ l.k;
}
