-- `Porter::bring`: what holds in its loop over `place`.
use Rattle.std.proofs.Common.{◌≡◌}
use Rattle.rtrb.specs.Ring.{received, SameConsumer}
use Rattle.pt_desk.specs.DeskState.{GoesOn}
use Rattle.pt_epochs.proofs.Bringing.{SoFar}
use Rattle.pt_epochs.proofs.door.Porter.bring.Given as goal

abbrev pub invariant-loop-place : goal.invariant-loop-place
invariant-loop-place g l = record {
  so_far : SoFar l.fn.self.me l._place (received l.fn.self.ring) l.fn.desk (received l.self.ring) l.desk;
  ring : SameConsumer l.fn.self.ring l.self.ring;
  me : l.fn.self.me ≡ l.self.me;
  most : l.fn.self.most ≡ l.self.most;
  work : l.fn.self.work ≡ l.self.work;
  goes_on : GoesOn l.fn.desk l.desk;
}
