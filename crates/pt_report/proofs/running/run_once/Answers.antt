-- `run_once`: its clauses `runs` and `begins`.
use Rattle.std.proofs.Common.{◌≡◌, sym, ◌∙◌}
use Rattle.pt_render.specs.declared.choices.Mode.TheVariants.{Single, Many}
use Rattle.pt_workers.specs.Running.{always}
use Rattle.pt_report.proofs.Attending.{all_do, all_know, attended, can_begin, in_rounds}
use Rattle.pt_report.proofs.running.run_once.Goals as goal

pub returns-in_ok-run_single-in-Single-clause-runs : goal.returns-in_ok-run_single-in-Single-clause-runs
returns-in_ok-run_single-in-Single-clause-runs g c =
    let p = c.in_ok-run_single-in-Single.ensures in
    let at = attended c.args.node.now c.args.runners.now.items p.before p.begun c.requires in
    let turns = c.args.options.now.turns in
    record {
      before = p.before;
      after = p.after;
      begun = p.begun;
      ended = p.ended;
      each = p.each;
      runs = record {
        turns = all_do (λ desk _. always desk) turns c.args.budget p.before p.after at p.runs.0;
        rounds = λ single. in_rounds (λ desk _. always desk) turns c.args.budget p.before p.after at p.runs.1;
      };
    }

pub returns-in_ok-run_single-in-Single-clause-begins : goal.returns-in_ok-run_single-in-Single-clause-begins
returns-in_ok-run_single-in-Single-clause-begins g c =
    let p = c.in_ok-run_single-in-Single.ensures in
    let at = attended c.args.node.now c.args.runners.now.items p.before p.begun c.requires in
    can_begin _ _ p.after p.ended (all_know (λ desk _. always desk) c.args.options.now.turns c.args.budget p.before p.after at p.each.count p.runs.0)

pub returns-in_ok-run-in-Many-clause-runs : goal.returns-in_ok-run-in-Many-clause-runs
returns-in_ok-run-in-Many-clause-runs g c =
    let p = c.in_ok-run-in-Many.ensures in
    let at = attended c.args.node.now c.args.runners.now.items p.before p.begun c.requires in
    record {
      before = p.before;
      after = p.after;
      begun = p.begun;
      ended = p.ended;
      each = p.each;
      runs = record {
        turns = all_do (λ desk _. always desk) c.args.options.now.turns c.args.budget p.before p.after at p.runs;
        rounds = λ single. absurd (let e : Many ≡ Single = sym c.in-Many.is ∙ single in cc);
      };
    }

pub returns-in_ok-run-in-Many-clause-begins : goal.returns-in_ok-run-in-Many-clause-begins
returns-in_ok-run-in-Many-clause-begins g c =
    let p = c.in_ok-run-in-Many.ensures in
    let at = attended c.args.node.now c.args.runners.now.items p.before p.begun c.requires in
    can_begin _ _ p.after p.ended (all_know (λ desk _. always desk) c.args.options.now.turns c.args.budget p.before p.after at p.each.count p.runs)
