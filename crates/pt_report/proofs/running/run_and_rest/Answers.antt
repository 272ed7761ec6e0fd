-- `run_and_rest`: its clauses `runs`, `begins` and `quiet`.
use Rattle.std.proofs.Common.{◌≡◌, Bool, true, false, List, refl, subst}
use Rattle.std.specs.Prelude.{MatchBool}
use Rattle.pt_runner.specs.declared.runner.Runner.{Runner}
use Rattle.pt_runner.specs.Waiting.{RunnersIdle}
use Rattle.pt_report.specs.Epochs.{Staffed}
use Rattle.pt_report.proofs.Attending.{quiet, rested_begins, same_count}
use Rattle.pt_report.proofs.running.run_and_rest.Goals as goal

pub returns-in-Some-clause-runs : goal.returns-in-Some-clause-runs
returns-in-Some-clause-runs g c = record {
  ran = (c.run_once.new.node, c.run_once.new.runners.items);
  runs = c.in_ok-run_once.ensures.runs;
  rested = c.turn_until_still-rested.result;
  rests = c.turn_until_still-rested.ensures.rounds;
  goes_on = c.turn_until_still-rested.ensures.goes_on;
  same = refl;
}

pub returns-in-Some-clause-begins : goal.returns-in-Some-clause-begins
returns-in-Some-clause-begins g c =
    let ran : Staffed = (c.run_once.new.node, c.run_once.new.runners.items) in
    let runs = c.in_ok-run_once.ensures.runs in
    rested_begins ran _ (same_count ran.0 ran.1 runs.after runs.ended) c.in_ok-run_once.ensures.begins c.turn_until_still-rested.ensures.goes_on

pub returns-in-Some-clause-quiet : goal.returns-in-Some-clause-quiet
returns-in-Some-clause-quiet g c = λ q. absurd (let e : false ≡ true = q in cc)

pub returns-in-None-clause-runs : goal.returns-in-None-clause-runs
returns-in-None-clause-runs g c = record {
  ran = (c.run_once.new.node, c.run_once.new.runners.items);
  runs = c.in_ok-run_once.ensures.runs;
  rested = c.turn_until_still-rested.result;
  rests = c.turn_until_still-rested.ensures.rounds;
  goes_on = c.turn_until_still-rested.ensures.goes_on;
  same = refl;
}

pub returns-in-None-clause-begins : goal.returns-in-None-clause-begins
returns-in-None-clause-begins g c =
    let ran : Staffed = (c.run_once.new.node, c.run_once.new.runners.items) in
    let runs = c.in_ok-run_once.ensures.runs in
    rested_begins ran _ (same_count ran.0 ran.1 runs.after runs.ended) c.in_ok-run_once.ensures.begins c.turn_until_still-rested.ensures.goes_on

pub returns-in-None-clause-quiet : goal.returns-in-None-clause-quiet
returns-in-None-clause-quiet g c = λ q.
    let ran : Staffed = (c.run_once.new.node, c.run_once.new.runners.items) in
    let desks = c.turn_until_still-rested.new.self in
    let runs = c.in_ok-run_once.ensures.runs in
    let begins = rested_begins ran desks (same_count ran.0 ran.1 runs.after runs.ended) c.in_ok-run_once.ensures.begins c.turn_until_still-rested.ensures.goes_on in
    let told : RunnersIdle c.as_slice.result.now c.desks.result.now = subst (λ (b : Bool). MatchBool b (RunnersIdle c.as_slice.result.now c.desks.result.now) (RunnersIdle c.as_slice.result.now c.desks.result.now → ⊥)) q c.are_idle.ensures in
    let idle : RunnersIdle ran.1 desks = subst (λ (rs : List Runner). RunnersIdle rs desks) c.as_slice.ensures.value (subst (RunnersIdle c.as_slice.result.now) c.desks.ensures.desks told) in
    quiet (desks, ran.1) begins (c.turn_until_still-rested.ensures.still c.in-None.is) idle
