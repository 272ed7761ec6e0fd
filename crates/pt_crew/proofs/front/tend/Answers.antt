-- `tend`: its clauses `sees` and `goes_on`.
use Rattle.std.proofs.Common.{ap, ◌∙◌}
use Rattle.pt_shard.specs.ShardState.{phase_of}
use Rattle.pt_desk.proofs.Turning.{goes_on_then}
use Rattle.pt_crew.specs.declared.crew.Tended.{Tended}
use Rattle.pt_behaviour.specs.Births.{bore, born}
use Rattle.pt_crew.specs.Visiting.{HandsTo}
use Rattle.pt_crew.specs.Parts.{kept_as}
use Rattle.pt_crew.proofs.Getting.{sees_item}
use Rattle.pt_crew.proofs.Serving.{kept_handed}
use Rattle.pt_crew.proofs.front.tend.Goals as goal

pub returns-in-Ok-clause-sees : goal.returns-in-Ok-clause-sees
returns-in-Ok-clause-sees g c =
    let p = c.args.p in
    let was = c.args.member.now in
    let now = c.hand.new.member in
    let mid = c.gets.new.desk.shard in
    let e = c.hand.new.desk.shard in
    let t = c.handed.result in
    let births = bore (born c.args.births.now) (born c.hand.new.births) in
    let hands : HandsTo (g.B.Behaviour.answers c.args.time) p was.behaviour c.in-Ok.item mid t (kept_as t now) e births = record {
      behaviour = now.behaviour;
      next = now.next;
      answer = c.hand.ensures.answers;
      tended = c.handed.ensures;
      now_is = ap (λ (x : Tended). kept_as x now) c.handed.ensures ∙ kept_handed now now.next (phase_of e p);
      takes = c.hand.ensures.takes;
      extends = c.hand.ensures.goes_on.shard;
    } in
    sees_item g.B.Behaviour.answers c.args.time p was.behaviour was.next c.in-Ok.item c.args.desk.now.shard mid e t (kept_as t now) births c.in-Ok.ensures.gets hands

pub returns-in-Ok-clause-goes_on : goal.returns-in-Ok-clause-goes_on
returns-in-Ok-clause-goes_on g c = goes_on_then c.args.desk.now c.gets.new.desk c.hand.new.desk c.gets.ensures.goes_on c.hand.ensures.goes_on
