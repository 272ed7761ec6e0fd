-- `run_until_quiet`: its clauses `runs` and `begins`, and its loop.
use Rattle.std.proofs.Common.{◌≡◌, suc, ◌+◌, inl, inr, refl, subst, arith}
use Rattle.pt_render.specs.declared.choices.Options.{Options}
use Rattle.pt_report.specs.Epochs.{RunsAgain, RunsAndRests, Staffed, most_runs, with_a_turn}
use Rattle.pt_report.proofs.running.run_until_quiet.Goals as goal

pub loop-run-init : goal.loop-run-init
loop-run-init g c = (refl, c.requires)

pub loop-run-preserved : goal.loop-run-preserved
loop-run-preserved g c =
    let i = c.loop-run._run in
    let next : suc i ≡ i + 1 = omega arith in
    let first : Staffed = (c.args.node.now, c.args.runners.now.items) in
    let mid : Staffed = (c.loop-run.node, c.loop-run.runners.items) in
    let last : Staffed = (c.run_and_rest.new.node, c.run_and_rest.new.runners.items) in
    let run : RunsAndRests (with_a_turn c.args.options.now) c.args.budget mid last = subst (λ (o : Options). RunsAndRests o c.args.budget mid last) c.with_a_turn-each.ensures c.in_ok-quiet.ensures.runs in
    (subst (λ n. RunsAgain (with_a_turn c.args.options.now) c.args.budget n first last) next (mid, c.loop-run.invariant.0, run), c.in_ok-quiet.ensures.begins)

pub returns-then-quiet-clause-runs : goal.returns-then-quiet-clause-runs
returns-then-quiet-clause-runs g c =
    let mid : Staffed = (c.loop-run.node, c.loop-run.runners.items) in
    let last : Staffed = (c.run_and_rest.new.node, c.run_and_rest.new.runners.items) in
    let run : RunsAndRests (with_a_turn c.args.options.now) c.args.budget mid last = subst (λ (o : Options). RunsAndRests o c.args.budget mid last) c.with_a_turn-each.ensures c.in_ok-quiet.ensures.runs in
    record {
      count = suc c.loop-run._run;
      some = omega arith;
      few = omega (arith, c.loop-run-test.true, c.most_runs-run-end.ensures);
      runs = (mid, c.loop-run.invariant.0, run);
      ends = inl (c.in_ok-quiet.ensures.quiet c.if-quiet.true);
    }

pub returns-clause-runs : goal.returns-clause-runs
returns-clause-runs g c =
    let all : c.loop-run._run ≡ most_runs c.args.options.now = omega (arith, c.loop-run-test.false, c.loop-run.auto._run-end, c.most_runs-run-end.ensures) in
    record {
      count = c.loop-run._run;
      some = omega (arith, all);
      few = omega (arith, all);
      runs = c.loop-run.invariant.0;
      ends = inr all;
    }
