-- `turn_each`: its loop over `d`.
use Rattle.std.proofs.Common.{◌<◌, length, arith, ◌∙◌}
use Rattle.std.proofs.lemmas.List.{length-set}
use Rattle.pt_node.proofs.Calling.{called_desks, turns_more}
use Rattle.pt_node.proofs.node.turn_each.Goals as goal

pub loop-d-preserved : goal.loop-d-preserved
loop-d-preserved c =
    let inv = c.loop-d.invariant in
    let desks = c.loop-d.desks.items in
    let d = c.loop-d.d in
    let old = c.index_mut.result.now in
    let new = c.turn-turned.new.self in
    let within : d < length desks = omega (arith, c.loop-d-test.true, inv.count, c.len-d-end.ensures) in
    let is = c.index_mut.ensures.value in
    record {
      count = length-set desks d new ∙ inv.count;
      turns =
          turns_more desks d old within is c.args.budget c.args.desks.now.items c.loop-d.round c.turn-turned.result new inv.turns c.turn-turned.ensures.turns c.turn-turned.ensures.goes_on
          c.both-round.result c.both-round.ensures;
      node = λ n. called_desks desks d old within is (inv.node n) new c.turn-turned.ensures.goes_on;
    }
