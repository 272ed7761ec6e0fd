-- `RunnerWork::step`: its clauses `steps` and `idle`, and its loop over `index`.
use Rattle.std.proofs.Common.{◌≡◌, length, subst, ◌∙◌, arith}
use Rattle.pt_desk.proofs.Turning.{goes_on_then}
use Rattle.pt_runner.specs.Acting.{EachActs, EachDoesNext, table, living}
use Rattle.pt_runner.specs.Stepping.{ProcessesStep, processes_here}
use Rattle.pt_runner.proofs.Acting.{each_acts_then}
use Rattle.pt_runner.proofs.Stepping.{steps, idle}
use Rattle.pt_runner.proofs.runner.RunnerWork.step.Goals as goal

pub loop-index-preserved : goal.loop-index-preserved
loop-index-preserved c =
    let inv = c.loop-index.invariant in
    let old = c.args.desk.now in
    record {
      does = λ attends. each_acts_then c.loop-index.index (living old.shard (table c.args.self.now)) (table c.loop-index.self) (table c.act.new.self) old.shard c.loop-index.desk.shard c.act.new.desk.shard (inv.does attends) (c.act.ensures.acts (inv.abreast attends));
      abreast = λ attends. c.act.ensures.abreast (inv.abreast attends);
      count = inv.count;
      len = omega (arith, inv.len, c.act.ensures.len);
      ends = (c.act.ensures.ends.0 ∙ inv.ends.0, c.act.ensures.ends.1 ∙ inv.ends.1);
      goes_on = goes_on_then old c.loop-index.desk c.act.new.desk inv.goes_on c.act.ensures.goes_on;
    }

pub returns-clause-steps : goal.returns-clause-steps
returns-clause-steps c = λ attends.
    let old = c.args.desk.now.shard in
    let inv = c.loop-index.invariant in
    let new = c.loop-index.desk.shard in
    let last : c.loop-index.index ≡ length (living old (table c.args.self.now)).actors = omega (arith, c.loop-index-test.false, inv.count attends, c.loop-index.auto.index-end) in
    let does : EachDoesNext (table c.args.self.now) old (table c.loop-index.self) new = subst (λ n. EachActs n (living old (table c.args.self.now)) old (table c.loop-index.self) new) last (inv.does attends) in
    steps c.args.self.now c.loop-index.self old new does

pub returns-clause-idle : goal.returns-clause-idle
returns-clause-idle c = λ attends none.
    let old = c.args.desk.now.shard in
    let inv = c.loop-index.invariant in
    let new = c.loop-index.desk.shard in
    let last : c.loop-index.index ≡ length (living old (table c.args.self.now)).actors = omega (arith, c.loop-index-test.false, inv.count attends, c.loop-index.auto.index-end) in
    let does : EachDoesNext (table c.args.self.now) old (table c.loop-index.self) new = subst (λ n. EachActs n (living old (table c.args.self.now)) old (table c.loop-index.self) new) last (inv.does attends) in
    let one : ProcessesStep (processes_here c.args.self.now) old (processes_here c.loop-index.self) new = steps c.args.self.now c.loop-index.self old new does in
    idle (processes_here c.args.self.now) (processes_here c.loop-index.self) old new one none
