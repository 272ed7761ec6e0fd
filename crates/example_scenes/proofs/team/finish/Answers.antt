-- `finish`: its contract.
use Rattle.example_scenes.proofs.team.finish.Goals as goal

pub returns : goal.returns
returns c = λ past teams.
    let rest = c.in_ok-come_to_rest.ensures in
    let at_rest = rest.holds past teams in
    c.children_here_live.ensures.gathered past c.come_to_rest.new.crews.items c.come_to_rest.new.node c.in_ok-quiet.quiet.gathered at_rest.hold.uphold rest.still.0 (c.in_ok-quiet.ensures.desks rest.still.1)
    c.in_ok-quiet.ensures.lawful.0 c.in_ok-quiet.ensures.lawful.1 at_rest.here
