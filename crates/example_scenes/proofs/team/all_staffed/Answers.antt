-- `all_staffed`: its clauses `upholds`, `here` and `from`, and its loop over `place`.
use Rattle.std.proofs.Common.{◌≡◌, ◌<◌, ◌++◌, ◌∷◌, [], List, length, set, sym, ap, subst, ◌∙◌, length-append, arith}
use Rattle.std.proofs.lemmas.List.{length-set}
use Rattle.pt_crew.specs.declared.crew.Crew.{Crew}
use Rattle.pt_crew.proofs.Runs.{FirstUphold, one_more}
use Rattle.pt_crew.specs.Running.{UpholdsOn}
use Rattle.pt_supervisor.specs.Keeping.{Keeps}
use Rattle.example_scenes.specs.declared.team.Teammate.{Teammate}
use Rattle.example_scenes.specs.Team.{boss_of}
use Rattle.pt_pauses.specs.Here.{CrewHere, CrewsHere}
use Rattle.example_scenes.proofs.Staffing.{more_here, one_keeps}
use Rattle.example_scenes.proofs.team.all_staffed.Goals as goal

pub loop-place-preserved : goal.loop-place-preserved
loop-place-preserved c =
    let inv = c.loop-place.invariant in
    let crews = c.loop-place.crews.items in
    let desks = c.loop-place.desks.items in
    let place = c.loop-place.place in
    let desk = c.staffed.new.desk in
    let crew : Crew Teammate = c.new-work.result in
    let within : place < length desks = omega (arith, c.loop-place-test.true, inv.same, c.len-place-end.ensures) in
    let upholds = subst (λ (w : Crew Teammate). UpholdsOn (Keeps [] boss_of) w desk.shard) (sym c.new-work.ensures) c.in_ok-crew.ensures.upholds in
    let more = c.in_ok-push.ensures.items in
    let grown : FirstUphold (Keeps [] boss_of) (crews ++ crew ∷ []) (set desks (length crews) desk) =
    one_more (Keeps [] boss_of) crews desks crew desk (omega (arith, within, inv.count)) inv.first upholds in
    record {
      count = let l = ap length more in let a = length-append crews (crew ∷ []) in omega (arith, l, a, inv.count);
      same = length-set desks place desk ∙ inv.same;
      first = subst (λ (cs : List (Crew Teammate)). FirstUphold (Keeps [] boss_of) cs (set desks place desk)) (sym more)
          (subst (λ n. FirstUphold (Keeps [] boss_of) (crews ++ crew ∷ []) (set desks n desk)) inv.count grown);
      here = subst (CrewsHere boss_of) (sym more)
          (more_here boss_of crews crew inv.here (subst (CrewHere boss_of) (sym c.new-work.ensures) c.in_ok-crew.ensures.here));
      from = λ f. one_keeps desks place c.index_mut.result.now desk within c.index_mut.ensures.value c.staffed.ensures.goes_on (inv.from f);
    }

pub returns-clause-upholds : goal.returns-clause-upholds
returns-clause-upholds c =
    let inv = c.loop-place.invariant in
    let count : length c.loop-place.crews.items ≡ length c.loop-place.desks.items = omega (arith, inv.count, inv.same, c.loop-place-test.false, c.loop-place.auto.place-end, c.len-place-end.ensures) in
    record { count = count; each = λ d crew x l. inv.first d crew x (omega (arith, l, count)) }

pub returns-clause-here : goal.returns-clause-here
returns-clause-here c = c.loop-place.invariant.here

pub returns-in_err-crew-clause-from : goal.returns-in_err-crew-clause-from
returns-in_err-crew-clause-from c =
    let inv = c.loop-place.invariant in
    λ f. one_keeps c.loop-place.desks.items c.loop-place.place c.index_mut.result.now c.staffed.new.desk (omega (arith, c.loop-place-test.true, inv.same, c.len-place-end.ensures)) c.index_mut.ensures.value c.staffed.ensures.goes_on
    (inv.from f)

pub returns-in_err-push-clause-from : goal.returns-in_err-push-clause-from
returns-in_err-push-clause-from c =
    let inv = c.loop-place.invariant in
    λ f. one_keeps c.loop-place.desks.items c.loop-place.place c.index_mut.result.now c.staffed.new.desk (omega (arith, c.loop-place-test.true, inv.same, c.len-place-end.ensures)) c.index_mut.ensures.value c.staffed.ensures.goes_on
    (inv.from f)
