-- `pids_of`: what holds in its loop over `index`.
use Rattle.std.proofs.Common.{◌≡◌, length, take, None, replicate}
use Rattle.std.specs.Prelude.{fold}
use Rattle.pt_runner.specs.Starting.{named_tops, put_pid}
use Rattle.pt_runner.proofs.start.pids_of.Given as goal

abbrev pub invariant-loop-index : goal.invariant-loop-index
invariant-loop-index l = l.pids.items ≡ fold put_pid (replicate (length l.script.processes) None) (take l.index (named_tops l.script l.born))
