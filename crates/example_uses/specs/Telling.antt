-- What the steps do that the recipes share.
use Rattle.std.specs.Prelude.{◌≡◌, ℕ, ℤ, MatchBool, Some, None, Result, Ok, Err}
use Rattle.pt_signal.specs.declared.pid.Pid.{Pid}
use Rattle.pt_signal.specs.declared.signal.Signal.{Signal}
use Rattle.pt_events.specs.declared.event.Event.TheVariants.{Said}
use Rattle.pt_shard.specs.ShardState.{ShardState, lives}
use Rattle.pt_shard.specs.Known.{knows}
use Rattle.pt_shard.specs.Calls.{Calls}
use Rattle.pt_shard.specs.declared.fault.Fault.{Fault}
use Rattle.pt_shard.specs.declared.fault.Fault.TheVariants.{NoProc}
use Rattle.pt_desk.specs.Reaching.{IsReached}
use Rattle.example_uses.specs.Doing.{Doing, Idles}

-- a message without a pid
abbrev pub plain_message : ℕ → ℤ → Signal
plain_message kind num = Signal.Message (record { kind = kind; num = num; who = None })

-- who has ended is not told, and a message to him is lost without a word
abbrev pub unheard : Result (Unit {0}) Fault → Result (Unit {0}) Fault
unheard (Err NoProc) = Ok tt
unheard answer = answer

-- a message is said to a pid that the desk knows; of any other it is lost, as it is of one that is seen to have ended
unfoldable pub SaysTo : Pid → Pid → Signal → Doing ShardState (Unit {0})
SaysTo from to signal old r new =
    MatchBool (knows old to)
    ((answer : Result (Unit {0}) Fault)
    × IsReached (lives old from) from to
    (Calls from (Some (Said from to signal)) (tt {0}) old answer new) old answer new
    × (r ≡ unheard answer))
    (Idles (tt {0}) old r new)
