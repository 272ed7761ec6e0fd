-- How a call ends: by its answer, by the end of its server or by its deadline, once.
use Rattle.std.specs.Prelude.{◌≡◌, ℕ, ◌+◌, cond, ◌&&◌, not, MatchBool, Bool, true, false, is_err, is_some, nat_le}
use Rattle.std.specs.Prelude.{List, [], ◌∷◌, ◌++◌}
use Rattle.std.specs.Prelude.{Option, Some, None, Result}
use Rattle.std.specs.Bool.{then_some}
use Rattle.std.specs.List.{list_any}
use Rattle.std.specs.Ordering.{int_eq}
use Rattle.pt_signal.specs.declared.pid.Pid.{Pid}
use Rattle.pt_signal.specs.declared.ids.Ref.{Ref}
use Rattle.pt_signal.specs.declared.reason.Reason.{Reason}
use Rattle.pt_signal.specs.declared.item.Body.{Body}
use Rattle.pt_signal.specs.declared.item.Item.{Item}
use Rattle.pt_signal.specs.declared.item.Item.TheVariants.{User, Down}
use Rattle.pt_signal.specs.Values.{same_pid, same_ref}
use Rattle.pt_shard.specs.declared.fault.Fault.{Fault}
use Rattle.pt_desk.specs.DeskState.{DeskState}
use Rattle.pt_names.specs.declared.pending.Pending.{Pending}
use Rattle.pt_names.specs.declared.pending.Heard.{Heard}
use Rattle.pt_names.specs.Asking.{speaks_of}
use Rattle.pt_behaviour.specs.Telling.{Unwatches}

-- the call waits for its answer, or for the end of its server
abbrev pub is_pending : Pending → Bool
is_pending p = p.waits

-- the message is an answer of the server, under the number of the call
abbrev pub is_answer_to_call : Pending → Pid → Body → Bool
is_answer_to_call p from body = same_pid from p.server && speaks_of body p.client && int_eq body.num p.number

-- what the item says to the call while it is open: its answer, or the end of its server
abbrev pub says_to_call : Pending → Item → Option Heard
says_to_call p (User from body) = cond (is_answer_to_call p from body) (Some (Heard.Answer body.kind)) None
says_to_call p (Down m q reason) = cond (same_ref m p.monitor) (Some (Heard.Down reason)) None
says_to_call p _ = None

-- one that has ended does not end again
abbrev pub heard_as : Bool → Option Heard → Heard
heard_as waits None = Heard.NotMine
heard_as true (Some said) = said
heard_as false (Some said) = Heard.Late

abbrev pub heard_by_call : Pending → Item → Heard
heard_by_call p item = heard_as p.waits (says_to_call p item)

abbrev pub after_item : Pending → Item → Pending
after_item p item = record p { waits = p.waits && not (is_some (says_to_call p item)) }

-- its monitor is given up; where that was refused, the call says that it is left open
abbrev pub IsGivenUp : Pending → DeskState → Bool → DeskState → Type 0
IsGivenUp p old left_open new =
    (result : Result Bool Fault) × Unwatches p.client p.monitor old result new × (left_open ≡ is_err result)

-- where the call ends its monitor is given up; else nothing is done
abbrev pub ClosesIf : Bool → Pending → DeskState → Bool → DeskState → Type 0
ClosesIf ends p old left_open new =
    MatchBool ends (IsGivenUp p old left_open new) ((left_open ≡ p.left_open) × (new ≡ old))

-- so it is as an item comes
abbrev pub Closes : Pending → Item → DeskState → Bool → DeskState → Type 0
Closes p item old left_open new = ClosesIf (p.waits && is_some (says_to_call p item)) p old left_open new

-- the call, of which this is known
abbrev pub noting : Bool → Pending → Pending
noting left_open p = record p { left_open = left_open }

-- the monitor that was left open as the call ended
abbrev pub monitor_left : Pending → Option Ref
monitor_left p = then_some p.left_open p.monitor

-- the call has ended by what was heard
abbrev pub is_end : Heard → Bool
is_end (Heard.Answer n) = true
is_end (Heard.Down reason) = true
is_end Heard.Late = false
is_end Heard.NotMine = false

-- how often a call ends, of items that it hears in this order
abbrev pub ends_among : Pending → List Item → ℕ
ends_among p [] = 0
ends_among p (i ∷ items) = cond (is_end (heard_by_call p i)) 1 0 + ends_among (after_item p i) items

-- the item is its answer, or the end of its server
abbrev pub is_its : Pending → Item → Bool
is_its p item = is_some (says_to_call p item)

-- Whatever items come, an open call ends once where one of them is its answer or the end of its server, and else not;
-- and one that has ended does not end again. So never by both.
abbrev pub EndsOnce : Type 0
EndsOnce = (p : Pending) (items : List Item) → ends_among p items ≡ cond (p.waits && list_any (is_its p) items) 1 0

-- deadlines -------------------------------------------------------------------------------

-- the deadline, if there is one, is not above this moment
abbrev pub is_past : Option ℕ → ℕ → Bool
is_past None now = false
is_past (Some deadline) now = nat_le deadline now

abbrev pub is_due : Pending → ℕ → Bool
is_due p now = is_past p.deadline now

-- the deadline of a call that is open
abbrev pub waits_until : Pending → Option ℕ
waits_until p = cond p.waits p.deadline None

-- an open call ends at this moment
abbrev pub is_expired : Pending → ℕ → Bool
is_expired p now = p.waits && is_due p now

abbrev pub after_moment : Pending → ℕ → Pending
after_moment p now = record p { waits = p.waits && not (is_due p now) }

-- and as its deadline comes
abbrev pub Expires : Pending → ℕ → DeskState → Bool → DeskState → Type 0
Expires p now old left_open new = ClosesIf (is_expired p now) p old left_open new

-- what a call is told of: an item that its client got, or the time
pub data CallEvent : Type 0 where
  item : Item → CallEvent
  moment : ℕ → CallEvent

-- what a call ends by
pub data CallEnd : Type 0 where
  answered : ℕ → CallEnd
  server_down : Reason → CallEnd
  timed_out : CallEnd

-- the end that was heard, if any
abbrev pub end_heard : Heard → List CallEnd
end_heard (Heard.Answer n) = answered n ∷ []
end_heard (Heard.Down reason) = server_down reason ∷ []
end_heard Heard.Late = []
end_heard Heard.NotMine = []

-- the end that the call reports as it is told of the event, if any: by what `hear` or `expire` returns
abbrev pub end_reported : Pending → CallEvent → List CallEnd
end_reported p (item i) = end_heard (heard_by_call p i)
end_reported p (moment now) = cond (is_expired p now) (timed_out ∷ []) []

abbrev pub after_event : Pending → CallEvent → Pending
after_event p (item i) = after_item p i
after_event p (moment now) = after_moment p now

-- the ends that a call reports, of events of which it is told in this order
abbrev pub ends_reported : Pending → List CallEvent → List CallEnd
ends_reported p [] = []
ends_reported p (e ∷ events) = end_reported p e ++ ends_reported (after_event p e) events

-- what the event is an end of the call by, if the call is open: its answer, the end of its server, or its deadline
abbrev pub end_said : Option Heard → List CallEnd
end_said None = []
end_said (Some h) = end_heard h

abbrev pub end_by : Pending → CallEvent → List CallEnd
end_by p (item i) = end_said (says_to_call p i)
end_by p (moment now) = cond (is_due p now) (timed_out ∷ []) []

-- the first of them, if any
abbrev pub or_first : List CallEnd → List CallEnd → List CallEnd
or_first [] later = later
or_first (first ∷ more) later = first ∷ []

abbrev pub first_call_end : Pending → List CallEvent → List CallEnd
first_call_end p [] = []
first_call_end p (e ∷ events) = or_first (end_by p e) (first_call_end p events)

-- Whatever items come, and whatever the time is in between, an open call reports one end: by the first event that is
-- its answer, the end of its server or its deadline. It reports none where no event is, or where it had ended before.
-- So never two of them.
abbrev pub EndsFirst : Type 0
EndsFirst = (p : Pending) (events : List CallEvent) → ends_reported p events ≡ cond p.waits (first_call_end p events) []
