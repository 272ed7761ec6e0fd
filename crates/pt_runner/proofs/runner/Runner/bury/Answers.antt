-- `Runner::bury`: its clauses `table` and `abreast`.
use Rattle.std.proofs.Common.{◌≡◌, ◌||◌, true, List, map, ap, sym, subst, ◌∙◌, rules}
use Rattle.std.specs.List.{All, filter}
use Rattle.std.proofs.lemmas.Fn.{filter_same}
use Rattle.std.proofs.lemmas.List.Elements.{All-filter, All-weaker}
use Rattle.pt_shard.specs.ShardState.{lives}
use Rattle.pt_runner.specs.declared.runner.Actor.{Actor}
use Rattle.pt_runner.specs.Acting.{Acting, acting}
use Rattle.pt_runner.specs.Waiting.{IsTrueOf, sleeps}
use Rattle.pt_runner.proofs.Acting.{living_actors}
use Rattle.pt_runner.proofs.Waiting.{asleep, buried, with_waits}
use Rattle.pt_runner.proofs.runner.Runner.bury.Goals as goal

pub returns-clause-table : goal.returns-clause-table
returns-clause-table c = λ abreast.
    let s = c.args.desk.now.shard in
    let r = c.args.self.now in
    let plans = r.script.now.processes in
    let came = c.as_slice-came.result.now in
    let kept : c.retain.new.self.items ≡ filter (λ (a : Actor). sleeps came a || lives s a.pid) r.actors.items = filter_same _ (λ (a : Actor). sleeps came a || lives s a.pid) _ (λ x b f' k. search rules) _ _ c.retain.ensures.filtered in
    let here : All (λ (a : Actor). sleeps came a ≡ true → lives s a.pid ≡ true) r.actors.items =
    All-weaker (IsTrueOf plans r.pids.items s) (λ (a : Actor). sleeps came a ≡ true → lives s a.pid ≡ true)
    (λ a h. λ so. (asleep plans r.pids.items r.actors.items r.came.items r.read s a abreast.0 abreast.1 h (ap (λ (n : List _). sleeps n a) (sym c.as_slice-came.ensures.value) ∙ so)).alive) r.actors.items abreast.0.waits in
    let alive = kept ∙ buried (sleeps came) (λ (a : Actor). lives s a.pid) r.actors.items here in
    ap (λ (xs : List Acting). record { plans = plans; pids = r.pids.items; actors = xs }) (ap (map acting) alive ∙ living_actors (lives s) r.actors.items)

pub returns-clause-abreast : goal.returns-clause-abreast
returns-clause-abreast c = λ abreast.
    let s = c.args.desk.now.shard in
    let r = c.args.self.now in
    let plans = r.script.now.processes in
    let came = c.as_slice-came.result.now in
    let test = (λ (a : Actor). sleeps came a || lives s a.pid) in
    let kept : c.retain.new.self.items ≡ filter test r.actors.items = filter_same _ test _ (λ x b f' k. search rules) _ _ c.retain.ensures.filtered in
    let left : All (IsTrueOf plans r.pids.items s) c.retain.new.self.items =
    subst (All (IsTrueOf plans r.pids.items s)) (sym kept) (All-filter test (IsTrueOf plans r.pids.items s) r.actors.items abreast.0.waits) in
    (with_waits plans r.pids.items r.actors.items c.retain.new.self.items r.pids.items r.came.items r.read s abreast.0 left, abreast.1)
