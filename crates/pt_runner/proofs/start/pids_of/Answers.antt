-- `pids_of`: its contract, and its loop over `index`.
use Rattle.std.proofs.Common.{List, Option, None, length, replicate, get_or, ap, ◌∙◌, arith}
use Rattle.std.specs.Prelude.{fold}
use Rattle.pt_signal.specs.declared.pid.Pid.{Pid}
use Rattle.pt_script.specs.declared.values.Top.{Top}
use Rattle.pt_runner.specs.Starting.{put_pid}
use Rattle.pt_runner.proofs.Starting.{are_at, named_all, numbered_more}
use Rattle.pt_runner.proofs.start.pids_of.Goals as goal

pub loop-index-preserved : goal.loop-index-preserved
loop-index-preserved c =
    let s = c.args.script.now in
    let born = c.args.born.now in
    let i = c.loop-index.index in
    let none : Top = record { process = 0; desk = 0 } in
    let nobody : Pid = record { shard = 0; slot = 0; version = 0 } in
    let start : List (Option Pid) = replicate (length s.processes) None in
    let here = are_at s born c.tops-tops.result.now i none nobody c.tops-tops.ensures.tops c.requires c.loop-index-test.true in
    c.put_pid.ensures ∙ numbered_more s born i (get_or c.tops-tops.result.now i none) (get_or born i nobody) start c.loop-index.pids.items here c.loop-index.invariant

pub returns : goal.returns
returns c =
    let s = c.args.script.now in
    let start : List (Option Pid) = replicate (length s.processes) None in
    c.loop-index.invariant ∙ ap (fold put_pid start) (named_all s c.args.born.now c.loop-index.index (omega (arith, c.loop-index-test.false)))
