-- `Runner::act`: its clause `acts`.
use Rattle.std.proofs.Common.{◌≡◌, ◌<◌, true, ℕ, List, length, ap, sym, subst, ◌∙◌, arith}
use Rattle.std.proofs.lemmas.List.Elements.{All-get_or}
use Rattle.pt_runner.specs.Waiting.{IsTrueOf, sleeps}
use Rattle.pt_runner.proofs.Waiting.{asleep, skipped}
use Rattle.pt_runner.proofs.runner.Runner.act.Goals as goal

pub returns-then-sleeps-clause-acts : goal.returns-then-sleeps-clause-acts
returns-then-sleeps-clause-acts c = λ abreast.
    let r = c.args.self.now in
    let d = c.args.desk.now.shard in
    let i = c.args.index in
    let a = c.index.result.now in
    let plans = r.script.now.processes in
    let within : i < length r.actors.items = omega (arith, c.requires, r.actors.ok.0) in
    let so : sleeps r.came.items a ≡ true = ap (λ (came : List ℕ). sleeps came a) (sym c.as_slice.ensures.value) ∙ sym c.sleeps.ensures ∙ c.if-sleeps.true in
    let h : IsTrueOf plans r.pids.items d a = subst (IsTrueOf plans r.pids.items d) (sym c.index.ensures) (All-get_or (IsTrueOf plans r.pids.items d) r.actors.items i a within abreast.0.waits) in
    skipped plans r.pids.items r.actors.items i a d within c.index.ensures (asleep plans r.pids.items r.actors.items r.came.items r.read d a abreast.0 abreast.1 h so)
