-- `run_watched`: its contract.
use Rattle.std.proofs.Common.{List, sym, subst}
use Rattle.std.specs.Prelude.{⊤}
use Rattle.pt_workers.specs.NodeRunning.{RunsNode}
use Rattle.pt_workers.specs.Running.{AllWork, HearRelation, StepRelation, begins_by}
use Rattle.pt_crew.specs.declared.crew.Crew.{Crew}
use Rattle.pt_crew.specs.Running.{CrewsDo}
use Rattle.pt_epochs.specs.Driving.{AllWorkLet, lets_short}
use Rattle.pt_epochs.specs.Watching.{Watching, WatchedDoes, WatchedHears, watched_standing}
use Rattle.pt_epochs.proofs.Driving.{works_run}
use Rattle.pt_epochs.proofs.workers.run_watched.Goals as goal

pub returns : goal.returns
returns g c =
    let does : StepRelation (Crew g.row.B.Denot) = (CrewsDo g.B.Behaviour.answers).0 in
    let hears : HearRelation (Crew g.row.B.Denot) = (CrewsDo g.B.Behaviour.answers).1 in
    let ran = subst
    (λ (works : List (Watching (Crew g.row.B.Denot))). RunsNode
    (AllWork (begins_by watched_standing (λ desk turn begins. ⊤)) (WatchedDoes does, WatchedHears hears) c.args.turns c.args.plan.budget)
    c.args.node.now works c.run-ran.result c.run-ran.new.self c.run-ran.new.works.items)
    c.watch_all.ensures.works c.run-ran.ensures in
    subst (λ (crews : List (Crew g.row.B.Denot)). RunsNode
    (AllWorkLet (lets_short c.args.plan.events) (CrewsDo g.B.Behaviour.answers) c.args.turns c.args.plan.budget)
    c.args.node.now c.args.crews.now.items c.run-ran.result c.run-ran.new.self crews)
    (sym {A = List (Crew g.row.B.Denot)} c.release_all.ensures)
    (works_run does hears (λ desk turn begins. ⊤) c.args.turns c.args.plan.budget c.args.plan.events c.args.node.now c.args.crews.now.items c.run-ran.result c.run-ran.new.self c.run-ran.new.works.items ran)
