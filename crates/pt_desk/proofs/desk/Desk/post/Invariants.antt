-- `Desk::post`: what holds in its loop over `to`.
use Rattle.std.proofs.Common.{◌≡◌, ◌-◌, ◌^◌, min}
use Rattle.pt_desk.specs.Posting.{total}
use Rattle.pt_desk.proofs.Posted.{PostsBelow}
use Rattle.pt_desk.proofs.desk.Desk.post.Given as goal

abbrev pub invariant-loop-to : goal.invariant-loop-to
invariant-loop-to l = record {
  below : PostsBelow l.to l.initial.self l.self;
  count : l.posted ≡ min (total l.self.outs.posted - total l.initial.self.outs.posted) (2 ^ 64 - 1);
}
