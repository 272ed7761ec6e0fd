-- `run_epochs`: its clauses `fault`, `node` and `told`, and what its call of `run_once` asks.
use Rattle.std.proofs.Common.{◌≡◌, ◌⊎◌, ◌-◌, Err, List, subst, inl, inr, rules}
use Rattle.std.specs.Prelude.{MatchBool}
use Rattle.pt_desk.specs.DeskState.{DeskState}
use Rattle.pt_runner.specs.declared.runner.Runner.{Runner}
use Rattle.pt_runner.specs.Waiting.{RunnersIdle}
use Rattle.pt_report.specs.Epochs.{alive_in, HasWritten, IsOfEpochs, PassEpochs, RunsEpoch, Staffed}
use Rattle.pt_report.specs.Reports.{IsOfRun, RunIsBegun}
use Rattle.pt_report.proofs.Passing.{node_of, run_of_epochs}
use Rattle.pt_report.proofs.Attending.{begun_begins, epoch_begins}
use Rattle.pt_report.proofs.Rest.{all_faults, left_is}
use Rattle.pt_report.proofs.running.run_epochs.Goals as goal

pub pass_epochs-requires-clause-begins : goal.pass_epochs-requires-clause-begins
pass_epochs-requires-clause-begins g c κs within = begun_begins c.args.script.now (c.args.node, c.args.runners.items) c.requires.begun

pub run_epoch-requires-after_bounds : goal.run_epoch-requires-after_bounds
run_epoch-requires-after_bounds g c κs within =
    let options = c.args.options.now in
    let first : Staffed = (c.args.node, c.args.runners.items) in
    let last : Staffed = (c.in_ok-node.node, c.pass_epochs.new.runners.items) in
    let so = c.in_ok-node.ensures.passed in
    epoch_begins options _ (options.epochs - 1) first so.0 last (begun_begins c.args.script.now first c.requires.begun) so.1

pub returns-in_err-node-clause-fault : goal.returns-in_err-node-clause-fault
returns-in_err-node-clause-fault g c =
    let options = c.args.options.now in
    let first : Staffed = (c.args.node, c.args.runners.items) in
    let f = c.in_err-node.field-0.0 in
    let is : IsOfRun options c.args.script.now f = run_of_epochs options c.args.script.now first f c.requires.begun (subst (λ b. IsOfEpochs options b first f) c.budget-budget.ensures.budget c.in_err-node.ensures.fault) in
    let told : c.from_residual.result ≡ Err f = search rules in
    rw told is

pub returns-in-Ok-clause-node : goal.returns-in-Ok-clause-node
returns-in-Ok-clause-node g c =
    let options = c.args.options.now in
    let first : Staffed = (c.args.node, c.args.runners.items) in
    let last : Staffed = (c.in_ok-node.node, c.pass_epochs.new.runners.items) in
    let ran : Staffed = (c.run_epoch.new.node, c.run_epoch.new.runners.items) in
    let so = c.in_ok-node.ensures.passed in
    let same = c.budget-budget.ensures.budget in
    let staff = c.as_slice-staff.result.now in
    let alive : c.alive_in-alive.result ≡ alive_in ran = subst (λ (rs : List Runner). c.alive_in-alive.result ≡ alive_in (ran.0, rs)) c.as_slice-staff.ensures.value
    (subst (λ (ds : List DeskState). c.alive_in-alive.result ≡ alive_in (ds, staff)) c.desks-desks.ensures.desks c.alive_in-alive.ensures) in
    let idle : MatchBool c.are_idle-idle.result (RunnersIdle ran.1 ran.0) (RunnersIdle ran.1 ran.0 → ⊥) = subst (λ (rs : List Runner). MatchBool c.are_idle-idle.result (RunnersIdle rs ran.0) (RunnersIdle rs ran.0 → ⊥)) c.as_slice-staff.ensures.value
    (subst (λ (ds : List DeskState). MatchBool c.are_idle-idle.result (RunnersIdle staff ds) (RunnersIdle staff ds → ⊥)) c.desks-desks.ensures.desks c.are_idle-idle.ensures) in (
      so.0,
      node_of options c.args.script.now (options.epochs - 1) first so.0 last ran c.in-Ok.gathered c.requires.begun (subst (λ b. PassEpochs options b (options.epochs - 1) first so.0 last) same so.1)
          (subst (λ b. RunsEpoch options b last ran) same c.in_ok-run_epoch.ensures.runs) c.in-Ok.ensures.gathers,
      so.2,
      left_is ran c.in-Ok.gathered c.in_ok-run_epoch.ensures.begins c.are_idle-idle.result idle c.alive_in-alive.result c.in_ok-left-in-Ok.left alive c.in_ok-left-in-Ok.ensures,
    )

pub returns-in-Ok-clause-told : goal.returns-in-Ok-clause-told
returns-in-Ok-clause-told g c =
    let first : Staffed = (c.args.node, c.args.runners.items) in
    elim c.in_ok-node.ensures.told [
      | inl same ↦ inl same
      | inr has ↦ inr (first, c.requires.begun, subst (λ b. HasWritten c.args.options.now b first (g.W.Write.contents c.args.out.now) (g.W.Write.contents c.pass_epochs.new.out)) c.budget-budget.ensures.budget has)
    ]

pub returns-in_err-left-in-Ok-clause-untouched : goal.returns-in_err-left-in-Ok-clause-untouched
returns-in_err-left-in-Ok-clause-untouched g c =
    let contents = g.W.Write.contents in
    let first : Staffed = (c.args.node, c.args.runners.items) in
    let told : (c.pass_epochs.new.out ≡ c.args.out.now) ⊎ ((begun : Staffed) × RunIsBegun c.args.script.now begun × HasWritten c.args.options.now c.args.script.now.settings.budget begun (contents c.args.out.now) (contents c.pass_epochs.new.out)) =
    elim c.in_ok-node.ensures.told [
      | inl same ↦ inl same
      | inr has ↦ inr (first, c.requires.begun, subst (λ b. HasWritten c.args.options.now b first (contents c.args.out.now) (contents c.pass_epochs.new.out)) c.budget-budget.ensures.budget has)
    ] in
    search (rules, told, all_faults)
