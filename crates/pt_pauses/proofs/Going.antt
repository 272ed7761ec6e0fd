-- What supervisors uphold on desks that go on from a history stays so through a run, and while the node is turned.
use Rattle.std.proofs.Common.{List, Result, Ok, Err, sym, subst}
use Rattle.pt_events.specs.History.{Past}
use Rattle.pt_desk.specs.DeskState.{DeskState}
use Rattle.pt_workers.specs.NodeRunning.{RunsNode}
use Rattle.pt_workers.specs.Running.{AllWork, BeginRelation, InRounds}
use Rattle.pt_workers.specs.declared.run_fault.RunFault.{RunFault}
use Rattle.pt_workers.specs.declared.run_fault.RunFault.TheVariants.{Works, Memory}
use Rattle.pt_node.specs.Pasts.{GoOnFrom}
use Rattle.pt_node.proofs.Pasts.{go_on_past}
use Rattle.pt_node.proofs.RoundByRound.{all_rounds_go_on}
use Rattle.pt_crew.specs.declared.crew.Crew.{Crew}
use Rattle.pt_behaviour.specs.Behaving.{Answers}
use Rattle.pt_crew.specs.Running.{CrewsDo}
use Rattle.pt_crew.proofs.Runs.{rest_upholds, rounds_uphold, run_upholds}
use Rattle.pt_supervisor.specs.Keeping.{Keeps, PartOf, SuperviseAs}
use Rattle.pt_supervisor.proofs.Tending.{upheld}
use Rattle.pt_epochs.proofs.Whole.{desks_past}
use Rattle.pt_pauses.specs.Pauses.{RestHolds, RoundsHold, RunHolds, StaysFrom}

pub stays_from : StaysFrom
stays_from past old new on from = desks_past old new on past from

-- a run, or a refusal
run_from : {W : Type 0} (Runs : List (DeskState × W) → List (DeskState × W) → Type 0) (old : List DeskState) (works : List W) (result : Result (Unit {0}) RunFault) (new : List DeskState) (later : List W) → RunsNode Runs old works result new later
    → (past : Past) → GoOnFrom past old → GoOnFrom past new
run_from Runs old works (Ok done) new later r past from =
    subst (GoOnFrom past) r.ended.firsts (go_on_past r.before r.after r.each past (subst (GoOnFrom past) (sym r.begun.firsts) from))
run_from Runs old works (Err Works) new later r past from = subst (GoOnFrom past) (sym r.1) from
run_from Runs old works (Err Memory) new later r past from = subst (GoOnFrom past) (sym r.1) from

module _ {B : Type 0} (answers : Answers B) (part : PartOf B) (law : SuperviseAs answers part) where
  pub run_holds : (lets : BeginRelation (Crew B)) → RunHolds answers part lets
  run_holds lets past turns budget old new crews later result r h = record {
    uphold = run_upholds answers (Keeps past part) (upheld past part answers law) lets turns budget old new crews later result r h.uphold;
    from = run_from (AllWork lets (CrewsDo answers) turns budget) old crews result new later r past h.from;
  }

  pub rounds_hold : (lets : BeginRelation (Crew B)) → RoundsHold answers part lets
  rounds_hold lets past turns budget old new crews later result r h = record {
    uphold = rounds_uphold answers (Keeps past part) (upheld past part answers law) lets turns budget old new crews later result r h.uphold;
    from = run_from (λ before after. AllWork lets (CrewsDo answers) turns budget before after × InRounds lets (CrewsDo answers) turns budget before after) old crews result new later r past h.from;
  }

  pub rest_holds : RestHolds part
  rest_holds past budget old new crews did r h = record {
    uphold = rest_upholds answers (Keeps past part) (upheld past part answers law) budget old new crews did r h.uphold;
    from = desks_past old new (all_rounds_go_on budget old did new r) past h.from;
  }
