-- `perform`: its contract.
use Rattle.std.proofs.Common.{[]}
use Rattle.example_scenes.proofs.team.perform.Goals as goal

pub returns : goal.returns
returns g c = λ teams. record {
  hold = c.paused_children_live.ensures.run [] 18446744073709551615 256 c.args.node.now c.run.new.self c.args.crews.now.items c.run.new.works.items c.run.result c.run.ensures teams.hold;
  here = (c.children_here_live.ensures.runs (λ time b d me item next now e births h. (h.1, h.2))).run [] 18446744073709551615 256 c.args.node.now c.run.new.self c.args.crews.now.items c.run.new.works.items c.run.result c.run.ensures teams.hold.uphold teams.here;
}
