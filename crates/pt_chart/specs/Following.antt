-- One process as a chart follows it: whether it was born, and what it holds while it lives.
use Rattle.std.specs.Prelude.{ℕ, Bool, true, not, cond, Option, Some, None, IfSome, List, [], ◌∷◌, ◌++◌, ⊤}
use Rattle.std.specs.Option.{option_map}
use Rattle.pt_signal.specs.declared.pid.Pid.{Pid}
use Rattle.pt_signal.specs.declared.ids.LinkId.{LinkId}
use Rattle.pt_signal.specs.declared.reason.Reason.{Reason}
use Rattle.pt_signal.specs.declared.signal.Signal.{Signal}
use Rattle.pt_signal.specs.Values.{same_pid, fits, without_first}
use Rattle.pt_signal.specs.Process.{ProcessState, Sent, fresh, handle, say, sent, estate, bounce}
use Rattle.pt_events.specs.declared.event.Event.{Event}
use Rattle.pt_events.specs.declared.event.Event.TheVariants.{Born, Said, Came, Took, Flag, Left, Refused}
use Rattle.pt_events.specs.History.{Phase, living, linked, is_the, is_unborn, end_sends}
use Rattle.pt_process.specs.Outcome.{IsAnew}

pub record Followed : Type 0 where
  pub me : Pid
  pub born : Bool
  pub state : Option ProcessState

abbrev pub live_state : Phase → Option ProcessState
live_state (living s) = Some s
live_state _ = None

-- what is followed of a phase
abbrev pub followed : Pid → Phase → Followed
followed p f = record { me = p; born = not (is_unborn f); state = live_state f }

-- what an event does to it ------------------------------------------------------------------------

abbrev pub lives_on : Option Reason → ProcessState → Option ProcessState
lives_on None s = Some s
lives_on (Some r) s = None

abbrev pub gets_followed : Pid → Pid → Signal → Option ProcessState → Option ProcessState
gets_followed me from x None = None
gets_followed me from x (Some s) = let h = handle me s from x in lives_on h.ending h.state

abbrev pub begins_followed : Option Pid → Option LinkId → Followed → Followed
begins_followed parent link w = cond w.born w (record w { born = true; state = Some (linked parent link fresh) })

abbrev pub changes : (ProcessState → ProcessState) → Followed → Followed
changes step w = record w { state = option_map step w.state }

abbrev pub seen_followed : Event → Followed → Followed
seen_followed (Born q parent link) w =
    cond (same_pid w.me q) (begins_followed parent link w) (cond (is_the w.me parent) (changes (linked (Some q) link) w) w)
seen_followed (Said a b x) w = cond (same_pid w.me a) (changes (λ s. say s b x) w) w
seen_followed (Came a b x) w = cond (same_pid w.me b) (record w { state = gets_followed w.me a x w.state }) w
seen_followed (Took q k i) w =
    cond (same_pid w.me q) (changes (λ s. record s { waiting = without_first (fits k) s.waiting }) w) w
seen_followed (Flag q on) w = cond (same_pid w.me q) (changes (λ s. record s { traps = on }) w) w
seen_followed (Left q r) w = cond (same_pid w.me q) (record w { state = None }) w
seen_followed (Refused a b) w = w

-- what it sends by the event ------------------------------------------------------------------------

abbrev pub got_sent : Pid → Pid → Signal → Option ProcessState → List Sent
got_sent me from x None = bounce me from x
got_sent me from x (Some s) = let h = handle me s from x in h.answer ++ end_sends me h.ending h.state

abbrev pub left_sent : Pid → Reason → Option ProcessState → List Sent
left_sent me r None = []
left_sent me r (Some s) = estate me s r

abbrev pub sends_followed : Event → Followed → List Sent
sends_followed (Said a b x) w = cond (same_pid w.me a) (sent w.me b x ∷ []) []
sends_followed (Came a b x) w = cond (same_pid w.me b) (got_sent w.me a x w.state) []
sends_followed (Left q r) w = cond (same_pid w.me q) (left_sent w.me r w.state) []
sends_followed _ w = []

-- the reason with which it ends by the event, if it does --------------------------------------------

abbrev pub got_end : Pid → Pid → Signal → Option ProcessState → Option Reason
got_end me from x None = None
got_end me from x (Some s) = (handle me s from x).ending

abbrev pub left_end : Reason → Option ProcessState → Option Reason
left_end r None = None
left_end r (Some s) = Some r

abbrev pub ends_followed : Event → Followed → Option Reason
ends_followed (Came a b x) w = cond (same_pid w.me b) (got_end w.me a x w.state) None
ends_followed (Left q r) w = cond (same_pid w.me q) (left_end r w.state) None
ends_followed _ w = None

-- its end, where this is the reason with which it ends by an event, if it does
abbrev pub noted : ℕ → Option Reason → Option (ℕ × Reason) → Option (ℕ × Reason)
noted event None before = before
noted event (Some r) before = Some (event, r)

-- it opens no monitor under a reference that it has open
abbrev pub OpensAnew : Event → Followed → Type 0
OpensAnew (Said a b x) w = IfSome w.state (IsAnew x)
OpensAnew _ w = ⊤
