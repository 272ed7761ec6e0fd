-- What an event changes, told from what each process is before it, and what these changes give a reader who applies them.
use Rattle.std.specs.Prelude.{◌≡◌, ℕ, true, false, cond, Option, Some, None, is_some, option_to_list, List, [], ◌∷◌, ◌++◌, map}
use Rattle.std.specs.Prelude.{position, remove}
use Rattle.std.specs.List.{flat_map}
use Rattle.std.specs.Map.{lookup, remove_entry, set_value}
use Rattle.pt_signal.specs.declared.pid.Pid.{Pid}
use Rattle.pt_signal.specs.declared.ids.LinkId.{LinkId}
use Rattle.pt_signal.specs.declared.ids.Ids.{Ids}
use Rattle.pt_signal.specs.declared.item.Pick.{Pick}
use Rattle.pt_signal.specs.declared.item.Item.{Item}
use Rattle.pt_signal.specs.declared.item.Item.TheVariants.{User}
use Rattle.pt_signal.specs.declared.signal.Signal.{Signal}
use Rattle.pt_signal.specs.declared.signal.Signal.TheVariants.{Message, Unlink, LinkExit, Monitor, Demonitor}
use Rattle.pt_signal.specs.declared.signal.Signal.TheVariants.{AliveSay}
use Rattle.pt_signal.specs.Values.{same_pid, same_ref, fits, without_first}
use Rattle.pt_signal.specs.Process.{ProcessState, fresh, held, one_id, add_id, holds_any, without_ids, keep, same_watch}
use Rattle.pt_signal.specs.Process.{Verdict, drops, queues, ends, verdict, Sent, sent, bounce}
use Rattle.pt_events.specs.declared.event.Event.{Event}
use Rattle.pt_events.specs.declared.event.Event.TheVariants.{Said, Came, Took, Flag, Left}
use Rattle.pt_events.specs.History.{Phase, unborn, living, ended, is_living, state_of, reason_of, open_monitors, end_sends}
use Rattle.pt_events.specs.History.{after, landed}
use Rattle.pt_judge.specs.Judging.{JudgeState, now_is, known_state, cause, lived, answered, IsStep}
use Rattle.pt_auditor.specs.declared.change.Change.{Change}
use Rattle.pt_auditor.specs.declared.change.Did.{Did}
use Rattle.pt_auditor.specs.declared.begun.Begun.{Begun}

-- what an event changes ------------------------------------------------------------------------

abbrev pub did : Pid → Change → Did
did p c = record { of = p; change = c }

abbrev pub dids : Pid → List Change → List Did
dids p cs = map (did p) cs

abbrev pub both : Option Change → Option Change → List Change
both a b = option_to_list a ++ option_to_list b

-- the ids of a link, after one more entered
abbrev pub ids_entered : Option Ids → LinkId → Ids
ids_entered None i = one_id i
ids_entered (Some ids) i = add_id ids i

abbrev pub left_linked : Option Ids → Pid → List Change
left_linked None q = Change.Unlink q ∷ []
left_linked (Some ids) q = Change.Link q ids ∷ []

-- the named ids leave at q
abbrev pub cut_changes : Option Ids → Pid → Ids → List Change
cut_changes None q named = []
cut_changes (Some ids) q named = left_linked (without_ids named ids) q

abbrev pub obeyed : Verdict → List Change
obeyed drops = []
obeyed (queues item) = Change.Queue item ∷ []
obeyed (ends r) = Change.End r ∷ []

-- of the sender
abbrev pub say_changes : ProcessState → Pid → Signal → List Change
say_changes s to (Signal.Link i) = Change.Link to (ids_entered (held s.links to) i) ∷ []
say_changes s to (Unlink ids) = cut_changes (held s.links to) to ids
say_changes s to (Monitor m) = Change.Watch m to ∷ []
say_changes s to (Demonitor m) = Change.Unwatch m to ∷ []
say_changes s to _ = []

-- of a live receiver
abbrev pub receipt_changes : Pid → Phase → Pid → Signal → List Change
receipt_changes me f from (Message body) = Change.Queue (User from body) ∷ []
receipt_changes me f from (Signal.Link i) = Change.Link from (ids_entered (held (state_of f).links from) i) ∷ []
receipt_changes me f from (Unlink ids) = cut_changes (held (state_of f).links from) from ids
receipt_changes me f from (Signal.Exit r) = obeyed (verdict false (state_of f).traps (same_pid from me) from r)
receipt_changes me f from (LinkExit ids r) =
    cond (holds_any (held (state_of f).links from) ids)
    (Change.Unlink from ∷ obeyed (verdict true (state_of f).traps (same_pid from me) from r)) []
receipt_changes me f from (Monitor m) = Change.Watched m from ∷ []
receipt_changes me f from (Demonitor m) =
    cond (is_some (lookup (same_ref m) (state_of f).kept)) (Change.Unwatched m from ∷ []) []
receipt_changes me f from (Signal.Down m r) =
    cond (is_some (lookup (same_ref m) (open_monitors f))) (Change.Unwatch m from ∷ Change.Queue (Item.Down m from r) ∷ []) []
receipt_changes me f from (AliveSay m x) = Change.Queue (Item.Alive m from x) ∷ []
receipt_changes me f from _ = []

abbrev pub birth_changes : (Pid → Phase) → Pid → Option Pid → Option LinkId → List Did
birth_changes is p (Some q) (Some i) =
    did p Change.Born
    ∷ did p (Change.Link q (one_id i))
    ∷ did q (Change.Link p (ids_entered (held (state_of (is q)).links p) i))
    ∷ []
birth_changes is p parent link = did p Change.Born ∷ []

abbrev pub taken_change : Option ℕ → List Change
taken_change None = []
taken_change (Some n) = Change.Take n ∷ []

abbrev pub take_changes : Phase → Pick → List Change
take_changes f k = cond (is_living f) (taken_change (position (fits k) (state_of f).waiting)) []

-- of what processes hold, where each is this before the event
abbrev pub held_changes : (Pid → Phase) → Event → List Did
held_changes is (Event.Born p parent link) = birth_changes is p parent link
held_changes is (Said a b x) = dids a (cond (is_living (is a)) (say_changes (state_of (is a)) b x) [])
held_changes is (Came a b x) = dids b (cond (is_living (is b)) (receipt_changes b (is b) a x) [])
held_changes is (Took p k i) = dids p (take_changes (is p) k)
held_changes is (Flag p on) = did p (Change.Trap on) ∷ []
held_changes is (Left p r) = did p (Change.End r) ∷ []
held_changes is _ = []

-- what the event sends besides itself: an answer, and what a process owes that it ends
abbrev pub sends_besides : (Pid → Phase) → Event → List Sent
sends_besides is (Came a b x) =
    let now = after b (Came a b x) (is b) in
    cond (is_living (is b)) (answered b a x ++ end_sends b (reason_of now) (state_of now)) (bounce b a x)
sends_besides is (Left p r) =
    let now = after p (Left p r) (is p) in cond (is_living (is p)) (end_sends p (reason_of now) (state_of now)) []
sends_besides is _ = []

abbrev pub did_send : Sent → Did
did_send l = did l.from (Change.Send l.to l.signal)

-- all that the event changes, in order, where each process is this before it
abbrev pub event_changes : (Pid → Phase) → Event → List Did
event_changes is e = held_changes is e ++ map did_send (sends_besides is e)

-- what is known of the event before it happens
pub record IsToldBefore (old : JudgeState) (e : Event) (b : Begun) : Type 0 where
  pub event : b.event ≡ e
  pub lived_is : b.lived ≡ lived old.lives e
  pub told : b.then.items ≡ held_changes (now_is old) e

-- what the changes give a reader who applies them ----------------------------------------------

abbrev pub links_with : Option Ids → Pid → Ids → List (Pid × Ids) → List (Pid × Ids)
links_with None q ids links = links ++ (q, ids) ∷ []
links_with (Some old) q ids links = set_value (same_pid q) links ids

-- a change of what a live process holds
abbrev pub apply_held : Change → ProcessState → ProcessState
apply_held (Change.Trap on) s = record s { traps = on }
apply_held (Change.Queue item) s = record s { waiting = s.waiting ++ item ∷ [] }
apply_held (Change.Take n) s = record s { waiting = remove s.waiting n }
apply_held (Change.Link q ids) s = record s { links = links_with (held s.links q) q ids s.links }
apply_held (Change.Unlink q) s = record s { links = remove_entry (same_pid q) s.links }
apply_held (Change.Watch m t) s = record s { watching = s.watching ++ (m, t) ∷ [] }
apply_held (Change.Unwatch m t) s = record s { watching = remove_entry (same_ref m) s.watching }
apply_held (Change.Watched m w) s = record s { kept = keep m w s.kept }
apply_held (Change.Unwatched m w) s = record s { kept = without_first (same_watch m w) s.kept }
apply_held _ s = s

-- a change of a process
abbrev pub apply : Change → Phase → Phase
apply Change.Born unborn = living fresh
apply (Change.End r) (living s) = ended r s
apply c (living s) = living (apply_held c s)
apply c f = f

-- the changes, in order, at one process
abbrev pub apply_all : Pid → List Did → Phase → Phase
apply_all p [] f = f
apply_all p (d ∷ ds) f = apply_all p ds (cond (same_pid p d.of) (apply d.change f) f)

-- what each process is, and what is on its way
pub record ReaderState : Type 0 where
  pub is : Pid → Phase
  pub flights : List Sent

abbrev pub sends_of_change : Pid → Change → List Sent
sends_of_change p (Change.Send to x) = sent p to x ∷ []
sends_of_change p _ = []

abbrev pub said_by : Event → List Sent
said_by (Said a b x) = sent a b x ∷ []
said_by _ = []

-- the event, and then its changes
abbrev pub next_reader : Event → List Did → ReaderState → ReaderState
next_reader e ds v = record {
  is = λ p. apply_all p ds (v.is p);
  flights = landed e v.flights ++ (said_by e ++ flat_map (λ d. sends_of_change d.of d.change) ds);
}

-- the reader has what the judge knows of processes and of what is on its way
pub record IsReaderOf (s : JudgeState) (v : ReaderState) : Type 0 where
  pub alike : (p : Pid) → v.is p ≡ now_is s p
  pub flies : v.flights ≡ s.flights

-- the changes of an event, applied to the state before it, give the state after it
abbrev pub KeepsState : Type 0
KeepsState =
    (old new : JudgeState) (e : Event) (v : ReaderState)
    → cause (known_state old) e ≡ None
    → IsStep old e new
    → IsReaderOf old v
    → IsReaderOf new (next_reader e (event_changes (now_is old) e) v)

-- an event that may come, with its changes, leads the judge from one state to the other
pub record IsStepTold (old : JudgeState) (step : Event × List Did) (new : JudgeState) : Type 0 where
  pub may : cause (known_state old) step.0 ≡ None
  pub next : IsStep old step.0 new
  pub told : step.1 ≡ event_changes (now_is old) step.0

-- these events with their changes, the newest first, lead the judge from one state to the other
abbrev pub StepsLead : JudgeState → List (Event × List Did) → JudgeState → Type 0
StepsLead start [] s = s ≡ start
StepsLead start (step ∷ past) s = (old : JudgeState) × StepsLead start past old × IsStepTold old step s

abbrev pub reader_after : ReaderState → List (Event × List Did) → ReaderState
reader_after start [] = start
reader_after start (step ∷ past) = next_reader step.0 step.1 (reader_after start past)

-- a reader who applies the changes of all events up to a place has what the judge knows there
abbrev pub StepsTellState : Type 0
StepsTellState =
    (start s : JudgeState) (steps : List (Event × List Did)) (v : ReaderState)
    → StepsLead start steps s
    → IsReaderOf start v
    → IsReaderOf s (reader_after v steps)

-- before any event
abbrev pub judge_of_nothing : JudgeState
judge_of_nothing = record { links = []; refs = []; lives = []; flights = [] }

abbrev pub reader_of_nothing : ReaderState
reader_of_nothing = record { is = λ p. unborn; flights = [] }

-- so does a reader who begins with nothing
abbrev pub StepsTellAll : Type 0
StepsTellAll =
    (s : JudgeState) (steps : List (Event × List Did))
    → StepsLead judge_of_nothing steps s
    → IsReaderOf s (reader_after reader_of_nothing steps)
