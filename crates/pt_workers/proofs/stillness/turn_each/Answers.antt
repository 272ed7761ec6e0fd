-- `turn_each`: its loop over `d`.
use Rattle.std.proofs.Common.{◌≡◌, ◌<◌, length, sym, ap, arith, ◌∙◌}
use Rattle.std.proofs.lemmas.List.{length-set}
use Rattle.pt_signal.specs.declared.config.Config.{Config}
use Rattle.pt_desk.specs.DeskState.{DeskState}
use Rattle.pt_workers.specs.Stillness.{both_rested}
use Rattle.pt_workers.proofs.StillDesks.{still_desks}
use Rattle.pt_workers.proofs.TurnsOf.{turn_more}
use Rattle.pt_workers.proofs.stillness.turn_each.Goals as goal

pub loop-d-preserved : goal.loop-d-preserved
loop-d-preserved c =
    let inv = c.loop-d.invariant in
    let desks = c.loop-d.desks.items in
    let k = c.from.result in
    let old = c.index_mut.result.now in
    let new = c.turn-turned.new.self in
    let turned = c.turn-turned.result in
    let at : k ≡ c.loop-d.d = c.from.ensures in
    let node = c.requires.1 in
    let r = c.index.result.now in
    let config_is : c.config-d-end.result ≡ c.requires.0 = c.config-d-end.ensures ∙ ap (λ (x : DeskState). x.shard.config) c.index.ensures ∙ node.configs 0 r node.some in
    let count : length c.args.desks.now.items ≡ c.config-d-end.result.desks = node.count ∙ sym (ap (λ (z : Config). z.desks) config_is) in
    let within : k < length desks = omega (arith, at, c.loop-d-test.true, inv.count, count) in
    let is = c.index_mut.ensures.value in
    let goes = c.turn-turned.ensures.goes_on in
    record {
      count = length-set desks k new ∙ inv.count;
      turns =
          turn_more c.args.budget desks c.loop-d.d k old new turned at within is c.turn-turned.ensures.turns goes c.args.desks.now.items c.loop-d.did inv.turns c.both-did.result
          (c.both-did.ensures ∙ ap (λ s. both_rested c.loop-d.did (record { handled = turned.handled; stopped = s })) c.at_desk.ensures);
      node = still_desks desks k old new inv.node within is (goes.place, goes.shard.config, goes.sight.directory, goes.shard.start);
    }
