-- `come_to_rest`: its clauses `holds` and `still`.
use Rattle.std.proofs.Common.{◌≡◌, false, List, Option, Some, None, is_some, sym, ◌∙◌, refl, subst}
use Rattle.pt_desk.specs.DeskState.{DeskState}
use Rattle.pt_crew.specs.declared.crew.Crew.{Crew}
use Rattle.pt_crew.specs.Running.{AreIdle}
use Rattle.example_scenes.specs.declared.team.Teammate.{Teammate}
use Rattle.example_scenes.proofs.team.come_to_rest.Goals as goal

none_of : {X : Type 0} (o : Option X) → is_some o ≡ false → o ≡ None
none_of None h = refl
none_of (Some x) h = absurd (cc)

pub returns-clause-holds : goal.returns-clause-holds
returns-clause-holds c =
    λ past a. record {
      hold = c.paused_children_live.ensures.rests past 256 c.run_single.new.self c.turn_until_still.new.self c.run_single.new.works.items c.turn_until_still.result c.turn_until_still.ensures.rounds
          (c.paused_children_live.ensures.rounds past 8 256 c.args.node.now c.run_single.new.self c.args.crews.now.items c.run_single.new.works.items c.run_single.result c.run_single.ensures a.hold);
      here = (c.children_here_live.ensures.runs (λ time b d me item next now e births h. (h.1, h.2))).rounds past 8 256 c.args.node.now c.run_single.new.self c.args.crews.now.items c.run_single.new.works.items c.run_single.result c.run_single.ensures a.hold.uphold a.here;
    }

pub returns-clause-still : goal.returns-clause-still
returns-clause-still c =
    let crews = c.as_slice.result.now in
    let idle : AreIdle crews c.turn_until_still.new.self =
    subst (λ (ds : List DeskState). AreIdle crews ds) c.desks.ensures.desks c.if-not-are_idle.ensures in
    let none = none_of c.turn_until_still.result.stopped (sym c.is_some.ensures ∙ c.if-is_some.false) in (
      subst (λ (cs : List (Crew Teammate)). AreIdle cs c.turn_until_still.new.self) c.as_slice.ensures.value idle,
      c.turn_until_still.ensures.still none,
    )
