-- What a letter makes of the process that stands in the place of its receiver. No public clause cites this module.
use Rattle.std.specs.Prelude.{Bool, false, List, ◌++◌, Option, Some, None, is_some}
use Rattle.std.specs.Option.{option_map}
use Rattle.pt_signal.specs.declared.pid.Pid.{Pid}
use Rattle.pt_signal.specs.declared.reason.Reason.{Reason}
use Rattle.pt_signal.specs.declared.letter.Letter.{Letter}
use Rattle.pt_signal.specs.Process.{ProcessState, Handled, handle, Sent, bounce}
use Rattle.pt_events.specs.History.{end_sends}
use Rattle.pt_shard.specs.declared.loss.Loss.{Loss}
use Rattle.pt_shard.specs.declared.loss.Loss.TheVariants.{Exited}
use Rattle.pt_shard.specs.Losses.{stray}

-- a live process by its pid and its state, if there is one
abbrev pub Receiver : Type 0
Receiver = Option (Pid × ProcessState)

-- what the letter does to a live process
abbrev pub handle_letter : Letter → Pid × ProcessState → Handled
handle_letter l r = handle r.0 r.1 l.from l.signal

abbrev pub unless_ended : Option Reason → Pid → ProcessState → Receiver
unless_ended None me s = Some (me, s)
unless_ended (Some r) me s = None

-- what stands there after the letter
abbrev pub remains : Letter → Receiver → Receiver
remains l None = None
remains l (Some r) = let h = handle_letter l r in unless_ended h.ending r.0 h.state

abbrev pub is_ended_by : Letter → Receiver → Bool
is_ended_by l None = false
is_ended_by l (Some r) = is_some (handle_letter l r).ending

-- what the letter makes the receiver send, or the desk in its place
abbrev pub letter_replies : Letter → Receiver → List Sent
letter_replies l None = bounce l.to l.from l.signal
letter_replies l (Some r) = let h = handle_letter l r in h.answer ++ end_sends r.0 h.ending h.state

-- what is lost by the letter
abbrev pub letter_loss : Letter → Receiver → Option Loss
letter_loss l None = stray l.to l.from l.signal
letter_loss l (Some r) = let h = handle_letter l r in option_map (λ why. Exited r.0 why h.state.waiting) h.ending
