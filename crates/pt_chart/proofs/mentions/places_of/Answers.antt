-- `places_of`: its contract, and its loop over `at`.
use Rattle.std.proofs.Common.{arith}
use Rattle.pt_signal.specs.declared.pid.Pid.{Pid}
use Rattle.pt_chart.proofs.Naming.{places_next, places_all}
use Rattle.pt_chart.proofs.mentions.places_of.Goals as goal

abbrev nobody : Pid
nobody = record { shard = 0; slot = 0; version = 0 }

pub loop-at-preserved : goal.loop-at-preserved
loop-at-preserved c = places_next c.args.pids.now c.loop-at.at nobody c.loop-at.places c.push.new.self (omega arith) c.loop-at.invariant c.in_ok-push.ensures

pub returns : goal.returns
returns c = places_all c.args.pids.now c.loop-at.at c.loop-at.places (omega arith) c.loop-at.invariant
