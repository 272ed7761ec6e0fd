-- How a call is made, and how it is answered.
use Rattle.std.specs.Prelude.{◌≡◌, ◌⊎◌, ℕ, cond, pos, Bool, true, false, Option, Some, None, Result, Ok, Err}
use Rattle.pt_signal.specs.declared.pid.Pid.{Pid}
use Rattle.pt_signal.specs.declared.ids.Ref.{Ref}
use Rattle.pt_signal.specs.declared.item.Body.{Body}
use Rattle.pt_signal.specs.declared.item.Item.{Item}
use Rattle.pt_signal.specs.declared.item.Item.TheVariants.{User}
use Rattle.pt_signal.specs.Values.{is_pid}
use Rattle.pt_shard.specs.declared.fault.Fault.{Fault}
use Rattle.pt_shard.specs.declared.fault.Fault.TheVariants.{NoProc}
use Rattle.pt_desk.specs.DeskState.{DeskState}
use Rattle.pt_behaviour.specs.declared.call_fault.CallFault.{CallFault}
use Rattle.pt_behaviour.specs.declared.call_fault.CallFault.TheVariants.{Refused}
use Rattle.pt_names.specs.declared.ask_fault.AskFault.{AskFault}
use Rattle.pt_names.specs.declared.ask_fault.AskFault.TheVariants.{Unasked, LeftOpen}
use Rattle.pt_behaviour.specs.Telling.{SendsTo, Watches, Unwatches}
use Rattle.pt_names.specs.declared.pending.Pending.{Pending}
use Rattle.pt_names.specs.declared.request.Request.{Request}

-- the message speaks of the process
abbrev pub speaks_of : Body → Pid → Bool
speaks_of body p = is_pid body.who p

-- a request is a message that speaks of its own sender
abbrev pub request_of : Item → Option Request
request_of (User from body) =
    cond (speaks_of body from) (Some (record { from = from; number = body.num; asks = body.kind })) None
request_of _ = None

-- the client asks under the number of its monitor
abbrev pub request_message : Pid → Ref → ℕ → Body
request_message client m asks = record { kind = asks; num = pos m.number; who = Some client }

-- the answer is a message that speaks of its receiver, under the same number
abbrev pub answer : Request → ℕ → Body
answer r n = record { kind = n; num = r.number; who = Some r.from }

-- the fault for which a request was not sent; none where the server was seen to have ended, since its DOWN comes
abbrev pub refusal : Result (Unit {0}) CallFault → Option CallFault
refusal (Ok done) = None
refusal (Err (Refused NoProc)) = None
refusal (Err f) = Some f

-- what the client is told of a request that could not be sent: the monitor that stands still, where it was refused to give
-- it up
abbrev pub unsent_fault : CallFault → Ref → Result Bool Fault → AskFault
unsent_fault f m (Ok was_open) = Unasked f
unsent_fault f m (Err why) = LeftOpen f m

-- the monitor stands, and the request could not be sent: the monitor is given up, or the client is told that it is not
pub record IsUnsent (me server : Pid) (asks : ℕ) (old : DeskState) (told_of : AskFault) (new : DeskState) : Type 0 where
  pub monitor : Ref
  pub watching : DeskState
  pub watches : Watches me server old (Ok monitor) watching
  pub untold : DeskState
  pub told : Result (Unit {0}) CallFault
  pub tells : SendsTo me server (request_message me monitor asks) watching told untold
  pub fault : CallFault
  pub refused : refusal told ≡ Some fault
  pub given_up : Result Bool Fault
  pub gives_up : Unwatches me monitor untold given_up new
  pub tells_client : told_of ≡ unsent_fault fault monitor given_up

-- the call is made: its monitor stands, and its request went out; it has this deadline, or none
pub record IsMade (me server : Pid) (asks : ℕ) (deadline : Option ℕ) (old : DeskState) (p : Pending)
    (new : DeskState) : Type 0 where
  pub watching : DeskState
  pub watches : Watches me server old (Ok p.monitor) watching
  pub told : Result (Unit {0}) CallFault
  pub tells : SendsTo me server (request_message me p.monitor asks) watching told new
  pub asked : refusal told ≡ None
  pub pending : p ≡ record {
    client = me;
    server = server;
    monitor = p.monitor;
    number = pos p.monitor.number;
    deadline = deadline;
    waits = true;
    left_open = false;
  }

-- the monitor could not be made, for this fault
abbrev pub IsUnwatched : Pid → Pid → DeskState → AskFault → DeskState → Type 0
IsUnwatched me server old f new = (why : CallFault) × (f ≡ Unasked why) × Watches me server old (Err why) new

abbrev pub Asks : Pid → Pid → ℕ → Option ℕ → DeskState → Result Pending AskFault → DeskState → Type 0
Asks me server asks deadline old (Ok p) new = IsMade me server asks deadline old p new
Asks me server asks deadline old (Err f) new = IsUnwatched me server old f new ⊎ IsUnsent me server asks old f new
