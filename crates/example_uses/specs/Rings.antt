-- What a sender of a ring does in a step.
use Rattle.std.specs.Prelude.{◌≡◌, pos, ◌+ℤ◌, Result, Ok, Err}
use Rattle.std.specs.Int.{w64, saturate_signed}
use Rattle.pt_shard.specs.declared.fault.Fault.{Fault}
use Rattle.pt_desk.specs.DeskState.{DeskState, HasSameEnds}
use Rattle.example_uses.specs.declared.desks_on_threads.Sender.{Sender}
use Rattle.example_uses.specs.Telling.{SaysTo, plain_message}

-- one more message is sent, where it was not refused
abbrev pub counted_sent : Sender → Result (Unit {0}) Fault → Sender
counted_sent s (Ok _) = record s { sent = saturate_signed w64 (s.sent +ℤ pos 1) }
counted_sent s (Err fault) = s

-- it says a message with the number of those that it has sent, which is lost where the desk does not know the receiver
abbrev pub SaysNext : Sender → DeskState → Sender → DeskState → Type 0
SaysNext r old s new =
    (answer : Result (Unit {0}) Fault) × SaysTo r.me r.to (plain_message 1 r.sent) old.shard answer new.shard
    × (s ≡ counted_sent r answer) × HasSameEnds old new
