-- `runner_of`: its contract, and its loop over `index`.
use Rattle.std.proofs.Common.{◌+◌, List, Vec, Global, Option, map, get_or, subst, sym, ap, ◌∙◌, arith}
use Rattle.std.specs.List.{All}
use Rattle.std.proofs.lemmas.List.Elements.{All-push}
use Rattle.pt_signal.specs.declared.pid.Pid.{Pid}
use Rattle.pt_script.specs.declared.values.Top.{Top}
use Rattle.pt_runner.specs.declared.runner.Actor.{Actor}
use Rattle.pt_runner.specs.Acting.{acting}
use Rattle.pt_runner.specs.Waiting.{IsUnmarked}
use Rattle.pt_runner.proofs.Starting.{Listed, are_at, listed_here, listed_beside, runner_made}
use Rattle.pt_runner.proofs.start.runner_of.Goals as goal
use Rattle.pt_runner.proofs.start.runner_of.Goals.{then-pid-desk+in_ok-push, else-pid-desk}

abbrev items : Vec Actor Global → List Actor
items v = v.items

pub loop-index-preserved : goal.loop-index-preserved
loop-index-preserved c =
    let s = c.args.script.now in
    let born = c.args.born.now in
    let d = c.args.desk in
    let i = c.loop-index.index in
    let none : Top = record { process = 0; desk = 0 } in
    let nobody : Pid = record { shard = 0; slot = 0; version = 0 } in
    let t = get_or c.tops-tops.result.now i none in
    let p = get_or born i nobody in
    let actors = c.loop-index.actors.items in
    let here = are_at s born c.tops-tops.result.now i none nobody c.tops-tops.ensures.tops c.requires.born c.loop-index-test.true in
    elim c.if-pid-desk.branch [
      | then-pid-desk+in_ok-push w ↦
          subst (λ (xs : List Actor). Listed s born d (i + 1) xs × All IsUnmarked xs) (sym (ap items w.actors-is ∙ w.in_ok-push.ensures.items))
          (listed_here s born d i t p actors here c.loop-index.invariant.0 w.new.result w.if-pid-desk.true w.new.ensures.acting, All-push IsUnmarked actors w.new.result c.loop-index.invariant.1 w.new.ensures.waits)
      | else-pid-desk w ↦
          subst (λ (xs : List Actor). Listed s born d (i + 1) xs × All IsUnmarked xs) (sym (ap items w.actors-is)) (listed_beside s born d i t p actors here c.loop-index.invariant.0 w.if-pid-desk.false, c.loop-index.invariant.1)
    ]

pub returns : goal.returns
returns c =
    let s = c.args.script.now in
    let actors = c.loop-index.actors.items in
    runner_made s c.args.born.now c.args.desk c.loop-index.index actors c.args.pids.now c.new-2.result
    (omega (arith, c.loop-index-test.false)) c.loop-index.invariant.0 c.requires.pids c.new-2.ensures.script
    (record { unread = c.new-2.ensures.unread; unmarked = subst (All IsUnmarked) (sym c.new-2.ensures.actors) c.loop-index.invariant.1 })
    (c.new-2.ensures.table ∙ ap (λ (ps : List (Option Pid)). record { plans = s.processes; pids = ps; actors = map acting actors }) c.in_ok-from_slice.ensures.items)
