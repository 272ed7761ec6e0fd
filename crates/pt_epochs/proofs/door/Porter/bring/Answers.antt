-- `Porter::bring`: its clauses `brings`, `ring` and `goes_on`, and its loop over `place`.
use Rattle.std.proofs.Common.{◌∙◌, arith}
use Rattle.rtrb.specs.Ring.{received, known_items}
use Rattle.pt_desk.proofs.Turning.{goes_on_then}
use Rattle.pt_epochs.proofs.Bringing.{one_more, until, all_of, ring_then}
use Rattle.pt_epochs.proofs.door.Porter.bring.Goals as goal

pub returns-then-not-bring_one-clause-brings : goal.returns-then-not-bring_one-clause-brings
returns-then-not-bring_one-clause-brings g c =
    until c.args.self.now.me c.loop-place.self.me c.loop-place._place c.args.self.now.most (received c.args.self.now.ring) (received c.loop-place.self.ring) (received c.bring_one.new.self.ring) (known_items c.bring_one.new.self.ring) c.args.desk.now c.loop-place.desk c.bring_one.new.desk
    c.loop-place.invariant.me (omega (arith, c.loop-place-test.true)) c.if-not-bring_one.ensures.brings c.loop-place.invariant.so_far

pub returns-then-not-bring_one-clause-ring : goal.returns-then-not-bring_one-clause-ring
returns-then-not-bring_one-clause-ring g c = ring_then c.args.self.now.ring c.loop-place.self.ring c.bring_one.new.self.ring c.loop-place.invariant.ring c.if-not-bring_one.ensures.ring

pub returns-then-not-bring_one-clause-goes_on : goal.returns-then-not-bring_one-clause-goes_on
returns-then-not-bring_one-clause-goes_on g c = goes_on_then c.args.desk.now c.loop-place.desk c.bring_one.new.desk c.loop-place.invariant.goes_on c.if-not-bring_one.ensures.goes_on

pub loop-place-preserved : goal.loop-place-preserved
loop-place-preserved g c = record {
  so_far = one_more c.args.self.now.me c.loop-place.self.me c.loop-place._place (received c.args.self.now.ring) (received c.loop-place.self.ring) (received c.bring_one.new.self.ring) (known_items c.bring_one.new.self.ring) c.args.desk.now c.loop-place.desk c.bring_one.new.desk
      c.loop-place.invariant.me c.if-not-bring_one.ensures.brings c.loop-place.invariant.so_far;
  ring = ring_then c.args.self.now.ring c.loop-place.self.ring c.bring_one.new.self.ring c.loop-place.invariant.ring c.if-not-bring_one.ensures.ring;
  me = c.loop-place.invariant.me ∙ c.if-not-bring_one.ensures.me;
  most = c.loop-place.invariant.most ∙ c.if-not-bring_one.ensures.most;
  work = c.loop-place.invariant.work ∙ c.if-not-bring_one.ensures.work;
  goes_on = goes_on_then c.args.desk.now c.loop-place.desk c.bring_one.new.desk c.loop-place.invariant.goes_on c.if-not-bring_one.ensures.goes_on;
}

pub returns-clause-brings : goal.returns-clause-brings
returns-clause-brings g c =
    all_of c.args.self.now.me c.loop-place._place c.args.self.now.most (received c.args.self.now.ring) (received c.loop-place.self.ring) (received c.slots-more.new.self) (known_items c.slots-more.new.self) c.args.desk.now c.loop-place.desk
    (omega (arith, c.loop-place-test.false, c.loop-place.auto._place-end)) c.slots-more.ensures.looked.1 c.loop-place.invariant.so_far

pub returns-clause-ring : goal.returns-clause-ring
returns-clause-ring g c = ring_then c.args.self.now.ring c.loop-place.self.ring c.slots-more.new.self c.loop-place.invariant.ring c.slots-more.ensures.looked.0
