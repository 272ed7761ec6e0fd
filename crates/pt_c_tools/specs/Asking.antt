-- Calls that are answered, as C keeps them: what is asked, heard and replied.
use Rattle.std.specs.Prelude.{◌≡◌, ℕ, pos, cond, ◌&&◌, ◌||◌, not, Bool, true, false, is_some, List, [], MatchOption}
use Rattle.std.specs.Prelude.{Option, Some, None, Result, Ok, Err}
use Rattle.pt_signal.specs.declared.pid.Pid.{Pid}
use Rattle.pt_signal.specs.declared.ids.Ref.{Ref}
use Rattle.pt_signal.specs.declared.item.Body.{Body}
use Rattle.pt_signal.specs.declared.item.Item.{Item}
use Rattle.pt_signal.specs.declared.item.Item.TheVariants.{User}
use Rattle.pt_desk.specs.DeskState.{DeskState, GoesOn}
use Rattle.pt_behaviour.specs.declared.call_fault.CallFault.{CallFault}
use Rattle.pt_behaviour.specs.declared.call_fault.CallFault.TheVariants.{Unknown, Refused}
use Rattle.pt_names.specs.declared.ask_fault.AskFault.{AskFault}
use Rattle.pt_names.specs.declared.ask_fault.AskFault.TheVariants.{Unasked, LeftOpen}
use Rattle.pt_names.specs.declared.pending.Pending.{Pending}
use Rattle.pt_names.specs.declared.pending.Heard.{Heard}
use Rattle.pt_names.specs.declared.request.Request.{Request}
use Rattle.pt_names.specs.Asking.{Asks, answer, request_message, request_of, speaks_of}
use Rattle.pt_behaviour.specs.Telling.{SendsTo}
use Rattle.pt_names.specs.Ending.{CallEvent, Closes, Expires, ends_reported, first_call_end, heard_by_call, is_due}
use Rattle.pt_names.specs.Ending.{is_expired, says_to_call}
use Rattle.pt_c_values.specs.Places.{ShowsCode}
use Rattle.pt_c_values.specs.declared.types.PtItem.{PtItem}
use Rattle.pt_c_values.specs.Codes.{bad_code, code_of, unknown}
use Rattle.pt_c_values.specs.Crossing.{no_reason, pid_crossed, pid_out, reason_out, ref_in, ref_out}
use Rattle.pt_c_tools.specs.declared.types.PtCall.{PtCall}
use Rattle.pt_c_tools.specs.declared.types.PtHeard.{PtHeard}
use Rattle.pt_c_tools.specs.declared.types.PtRequest.{PtRequest}
use Rattle.pt_c_tools.specs.Items.{item_in}

-- the structs ------------------------------------------------------------------------

abbrev pub deadline_of : Bool → ℕ → Option ℕ
deadline_of true deadline = Some deadline
deadline_of false deadline = None

-- the call of a behaviour that the struct is
abbrev pub pending_of : PtCall → Pending
pending_of c = record {
  client = pid_crossed c.client;
  server = pid_crossed c.server;
  monitor = ref_in c.monitor;
  number = pos c.monitor.number;
  deadline = deadline_of c.has_deadline c.deadline;
  waits = c.waits;
  left_open = c.left_open;
}

-- the struct of a call under this reference, which waits, or has ended with its monitor left open
abbrev pub call_under : Pid → Pid → Ref → Bool → Bool → ℕ → PtCall
call_under client server monitor waits has_deadline deadline = record {
  client = pid_out client;
  server = pid_out server;
  monitor = ref_out monitor;
  has_deadline = has_deadline;
  waits = waits;
  left_open = not waits;
  deadline = deadline;
}

abbrev pub heard_out : Heard → PtHeard
heard_out (Heard.Answer n) = record { code = 0; answer = n; reason = no_reason }
heard_out (Heard.Down r) = record { code = 1; answer = 0; reason = reason_out r }
heard_out Heard.Late = record { code = 2; answer = 0; reason = no_reason }
heard_out Heard.NotMine = record { code = 3; answer = 0; reason = no_reason }

abbrev pub request_out : Request → PtRequest
request_out r = record { from = pid_out r.from; asks = r.asks; number = r.number }

abbrev pub request_in : PtRequest → Request
request_in r = record { from = pid_crossed r.from; number = r.number; asks = r.asks }

-- the codes --------------------------------------------------------------------------

abbrev pub fault_code : CallFault → ℕ
fault_code Unknown = unknown
fault_code (Refused f) = code_of f

abbrev pub told_code : {A : Type 0} → Result A CallFault → ℕ
told_code (Ok a) = 0
told_code (Err f) = fault_code f

-- asking -----------------------------------------------------------------------------

-- the call that was made under this reference, or the fault for which none was
abbrev pub pending_asked : Pid → Pid → Option ℕ → Result Ref AskFault → Result Pending AskFault
pending_asked client server deadline (Ok m) = Ok (record {
  client = client;
  server = server;
  monitor = m;
  number = pos m.number;
  deadline = deadline;
  waits = true;
  left_open = false;
})
pending_asked client server deadline (Err f) = Err f

-- the struct of the call; where none was made, what was there, unless its monitor was left open
abbrev pub call_or : PtCall → Pid → Pid → Bool → ℕ → Result Ref AskFault → PtCall
call_or before client server has_deadline deadline (Ok m) = call_under client server m true has_deadline deadline
call_or before client server has_deadline deadline (Err (Unasked f)) = before
call_or before client server has_deadline deadline (Err (LeftOpen f m)) =
    call_under client server m false has_deadline deadline

-- it says why a call was not made, whether or not its monitor was left open
abbrev pub asked_code : Result Ref AskFault → ℕ
asked_code (Ok m) = 0
asked_code (Err (Unasked f)) = fault_code f
asked_code (Err (LeftOpen f m)) = fault_code f

-- a call is asked as a behaviour's; the code says whether it was made, and so the struct
unfoldable pub AsksServer : Pid → Pid → ℕ → Bool → ℕ → ℕ → PtCall → PtCall → DeskState → DeskState → Type 0
AsksServer me server asks has_deadline deadline code before after old new =
    (r : Result Ref AskFault) × (code ≡ asked_code r) × (after ≡ call_or before me server has_deadline deadline r)
    × Asks me server asks (deadline_of has_deadline deadline) old (pending_asked me server (deadline_of has_deadline deadline) r) new
    × GoesOn old new

-- hearing ----------------------------------------------------------------------------

-- the call once its client got the item
abbrev pub call_after : PtCall → Item → PtCall
call_after c item = record c { waits = c.waits && not (is_some (says_to_call (pending_of c) item)) }

-- the call, of which it is known whether its monitor was left open
abbrev pub call_noting : Bool → PtCall → PtCall
call_noting left_open c = record c { left_open = left_open }

-- the item means to the call what it means to that of a behaviour
abbrev pub HearsOne : Item → ℕ → PtCall → PtCall → PtHeard → DeskState → DeskState → Type 0
HearsOne item code call left after old new =
    (code ≡ 0) × (after ≡ heard_out (heard_by_call (pending_of call) item)) × (left ≡ call_noting left.left_open (call_after call item))
    × Closes (pending_of call) item old left.left_open new × GoesOn old new

-- if its code means nothing, the code says so, and nothing has changed
unfoldable pub HearsItem : PtItem → ℕ → PtCall → PtCall → PtHeard → PtHeard → DeskState → DeskState → Type 0
HearsItem item code call left before after old new =
    MatchOption (item_in item) ((code ≡ bad_code) × (left ≡ call) × (after ≡ before) × (new ≡ old))
    (λ i. HearsOne i code call left after old new)

-- whether it ends by its deadline, and then its monitor is given up, or left open
unfoldable pub ExpiresCode : ℕ → ℕ → PtCall → PtCall → Bool → DeskState → DeskState → Type 0
ExpiresCode now code call left is old new =
    (code ≡ 0) × (is ≡ is_expired (pending_of call) now)
    × (left ≡ call_noting left.left_open (record call { waits = call.waits && not (is_due (pending_of call) now) }))
    × Expires (pending_of call) now old left.left_open new × GoesOn old new

-- an open call reports one end, by the first event that is one
abbrev pub CallsEndOnce : Type 0
CallsEndOnce =
    (c : PtCall) (events : List CallEvent)
    → ends_reported (pending_of c) events ≡ cond c.waits (first_call_end (pending_of c) events) []

-- replying ---------------------------------------------------------------------------

-- the request that the item is; if its code means nothing, the code says so
unfoldable pub ReadsRequest : PtItem → ℕ → PtRequest → PtRequest → Type 0
ReadsRequest item code before after =
    MatchOption (item_in item) ((code ≡ bad_code) × (after ≡ before))
    (λ i. ShowsCode code before after request_out (request_of i))

unfoldable pub RepliesCode : Pid → PtRequest → ℕ → ℕ → DeskState → DeskState → Type 0
RepliesCode me request n code old new =
    (r : Result (Unit {0}) CallFault) × (code ≡ told_code r)
    × SendsTo me (pid_crossed request.from) (answer (request_in request) n) old r new × GoesOn old new

-- telling ----------------------------------------------------------------------------

-- the message is of a call: a request, which names its sender, or an answer, which names the process that got it
abbrev pub is_of_call : Pid → Item → Bool
is_of_call me (User from body) = speaks_of body from || speaks_of body me
is_of_call me _ = false

-- whether the item that the process got is of a call; if its code means nothing, the code says so
unfoldable pub TellsIfCall : Pid → PtItem → ℕ → Bool → Bool → Type 0
TellsIfCall me item code before after =
    MatchOption (item_in item) ((code ≡ bad_code) × (after ≡ before)) (λ i. (code ≡ 0) × (after ≡ is_of_call me i))

-- requests and answers are told; and what is told to be neither is no request, and no answer to a call of its receiver
pub record CallsAreTold : Type 0 where
  pub requests : (me client : Pid) (m : Ref) (asks : ℕ)
      → is_of_call me (User client (request_message client m asks)) ≡ true
  pub answers : (server : Pid) (r : Request) (n : ℕ) → is_of_call r.from (User server (answer r n)) ≡ true
  pub no_request : (me : Pid) (i : Item) → is_of_call me i ≡ false → request_of i ≡ None
  pub no_answer : (c : PtCall) (from : Pid) (body : Body) → is_of_call (pid_crossed c.client) (User from body) ≡ false
      → says_to_call (pending_of c) (User from body) ≡ None
