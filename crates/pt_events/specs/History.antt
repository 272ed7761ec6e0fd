-- A history, the newest event first: what each process is after it, and the letters on their way.
--
-- Letters, here and in all that stands on this:
--   a b     pids, the sender and the receiver       p q     pids of any other part
--   w t     pids, the watcher and the target        x       a signal
--   e       an event; beside d, the number of a desk
--   past    the events before                       s       a live process's state; in journals, a stamped event
--   f       a phase: unborn, living or ended        r       an exit reason
--   i j     link ids                                m n     references; of numbers, n is a stamp
--   k       a pick                                  l       a letter, stamped or not
--   d e     desks, by their numbers                 low top the number above which stamps begin, the highest version
use Rattle.std.specs.Prelude.{◌≡◌, Bool, true, false, cond, ◌&&◌, ◌||◌, Option, Some, None, List, [], ◌∷◌, ◌++◌, map}
use Rattle.std.specs.Prelude.{filter, ⊤}
use Rattle.std.specs.Map.{lookup}
use Rattle.std.specs.List.{find}
use Rattle.pt_signal.specs.declared.pid.Pid.{Pid}
use Rattle.pt_signal.specs.declared.ids.Ref.{Ref}
use Rattle.pt_signal.specs.declared.ids.LinkId.{LinkId}
use Rattle.pt_signal.specs.declared.item.Item.{Item}
use Rattle.pt_signal.specs.declared.reason.Reason.{Reason}
use Rattle.pt_signal.specs.declared.signal.Signal.{Signal}
use Rattle.pt_signal.specs.declared.signal.Signal.TheVariants.{Message, Link, Unlink, LinkExit, Monitor, Demonitor}
use Rattle.pt_signal.specs.declared.signal.Signal.TheVariants.{AliveAsk, AliveSay}
use Rattle.pt_events.specs.declared.event.Event.{Event}
use Rattle.pt_events.specs.declared.event.Event.TheVariants.{Born, Said, Came, Took, Flag, Left, Refused}
use Rattle.pt_signal.specs.Values.{same_pid, same_ref, same_link, fits, without_first}
use Rattle.pt_signal.specs.Process.{ProcessState, fresh, held, enter, handle, say, Sent, sent, estate, bounce}

abbrev pub Past : Type 0
Past = List Event

abbrev pub is_born : Event → Bool
is_born (Born p parent link) = true
is_born _ = false

-- the life of one pid ----------------------------------------------------------------

pub data Phase : Type 0 where
  unborn : Phase
  living : ProcessState → Phase
  ended : Reason → ProcessState → Phase

-- the state that a history begins with; [] where nothing was before
abbrev pub Start : Type 0
Start = List (Pid × Phase)

abbrev pub phase_or_unborn : Option Phase → Phase
phase_or_unborn None = unborn
phase_or_unborn (Some f) = f

abbrev pub at_start : Start → Pid → Phase
at_start start p = phase_or_unborn (lookup (same_pid p) start)

abbrev pub is_living : Phase → Bool
is_living (living s) = true
is_living _ = false

-- what it holds; for an ended process what it held just after its end
abbrev pub state_of : Phase → ProcessState
state_of unborn = fresh
state_of (living s) = s
state_of (ended r s) = s

-- the references that a live process has open, with their targets
abbrev pub open_monitors : Phase → List (Ref × Pid)
open_monitors (living s) = s.watching
open_monitors _ = []

abbrev pub reason_of : Phase → Option Reason
reason_of (ended r s) = Some r
reason_of _ = None

abbrev pub is_the : Pid → Option Pid → Bool
is_the p None = false
is_the p (Some q) = same_pid p q

-- the event is p's birth
abbrev pub is_birth : Pid → Event → Bool
is_birth p (Born q parent link) = same_pid p q
is_birth p _ = false

-- the event is one of p's own: its birth, the birth of its child, what it says, takes, sets or gets, its exit; a
-- refused call changes nobody, and is nobody's
abbrev pub touches : Pid → Event → Bool
touches p (Born q parent link) = same_pid p q || is_the p parent
touches p (Said a b x) = same_pid p a
touches p (Came a b x) = same_pid p b
touches p (Took q k i) = same_pid p q
touches p (Flag q on) = same_pid p q
touches p (Left q r) = same_pid p q
touches p (Refused a b) = false

abbrev pub is_unborn : Phase → Bool
is_unborn unborn = true
is_unborn _ = false

abbrev pub is_ended : Phase → Bool
is_ended (ended r s) = true
is_ended _ = false

abbrev pub linked : Option Pid → Option LinkId → ProcessState → ProcessState
linked (Some q) (Some i) s = record s { links = enter q i s.links }
linked _ _ s = s

abbrev pub newborn : Option Pid → Option LinkId → Phase → Phase
newborn parent link unborn = living (linked parent link fresh)
newborn parent link f = f

abbrev pub while_living : (ProcessState → ProcessState) → Phase → Phase
while_living step (living s) = living (step s)
while_living step f = f

abbrev pub live_or_end : Option Reason → ProcessState → Phase
live_or_end None s = living s
live_or_end (Some r) s = ended r s

abbrev pub gets : Pid → Pid → Signal → Phase → Phase
gets p from x (living s) = let h = handle p s from x in live_or_end h.ending h.state
gets p from x f = f

abbrev pub leaves : Reason → Phase → Phase
leaves r (living s) = ended r s
leaves r f = f

-- what one of p's own events does to it
abbrev pub change : Pid → Event → Phase → Phase
change p (Born q parent link) f = cond (same_pid p q) (newborn parent link f) (while_living (linked (Some q) link) f)
change p (Said a b x) f = while_living (λ s. say s b x) f
change p (Came a b x) f = gets p a x f
change p (Took q k i) f = while_living (λ s. record s { waiting = without_first (fits k) s.waiting }) f
change p (Flag q on) f = while_living (λ s. record s { traps = on }) f
change p (Left q r) f = leaves r f
change p (Refused a b) f = f

abbrev pub after : Pid → Event → Phase → Phase
after p e f = cond (touches p e) (change p e f) f

abbrev pub is_between : Pid → Pid → Sent → Bool
is_between a b l = same_pid a l.from && same_pid b l.to

-- what the end of a process sends, or the answer to a signal that finds it not alive
abbrev pub end_sends : Pid → Option Reason → ProcessState → List Sent
end_sends p None s = []
end_sends p (Some r) s = estate p s r

abbrev pub got_sends : Phase → Pid → Pid → Signal → List Sent
got_sends (living s) b a x = let h = handle b s a x in h.answer ++ end_sends b h.ending h.state
got_sends _ b a x = bounce b a x

abbrev pub left_sends : Phase → Pid → Reason → List Sent
left_sends (living s) p r = estate p s r
left_sends _ p r = []

-- without the letter that came
abbrev pub landed : Event → List Sent → List Sent
landed (Came a b x) flying = without_first (is_between a b) flying
landed _ flying = flying

-- the items that the signal queues
abbrev pub items_of : Phase → Pid → Pid → Signal → List Item
items_of (living s) p a x = (handle p s a x).items
items_of _ p a x = []

-- the link id is made by the event
abbrev pub is_this : LinkId → Option LinkId → Bool
is_this i None = false
is_this i (Some j) = same_link i j

abbrev pub makes_link : LinkId → Event → Bool
makes_link i (Born q parent link) = is_this i link
makes_link i (Said a b (Link j)) = same_link i j
makes_link i _ = false

-- as a monitor, or as the question whether a process is alive
abbrev pub makes_ref : Ref → Event → Bool
makes_ref m (Said a b (Monitor n)) = same_ref m n
makes_ref m (Said a b (AliveAsk n)) = same_ref m n
makes_ref m _ = false

abbrev pub made_link : Past → LinkId → Bool
made_link [] i = false
made_link (e ∷ past) i = makes_link i e || made_link past i

abbrev pub made_ref : Past → Ref → Bool
made_ref [] m = false
made_ref (e ∷ past) m = makes_ref m e || made_ref past m

-- the signals that came to b from a
abbrev pub came_by : Pid → Pid → Event → List Signal
came_by a b (Came c d x) = cond (same_pid a c && same_pid b d) (x ∷ []) []
came_by a b _ = []

abbrev pub came : Past → Pid → Pid → List Signal
came [] a b = []
came (e ∷ past) a b = came past a b ++ came_by a b e

module _ (start : Start) where
  -- what p is after the history
  abbrev pub life : Past → Pid → Phase
  life [] p = at_start start p
  life (e ∷ past) p = after p e (life past p)

  abbrev pub alive : Past → Pid → Bool
  alive past p = is_living (life past p)

  abbrev pub state : Past → Pid → ProcessState
  state past p = state_of (life past p)

  -- what the event sends, in order
  abbrev pub sent_by : Past → Event → List Sent
  sent_by past (Said a b x) = sent a b x ∷ []
  sent_by past (Came a b x) = got_sends (life past b) b a x
  sent_by past (Left p r) = left_sends (life past p) p r
  sent_by past _ = []

  -- all that was sent, in order
  abbrev pub all_sent : Past → List Sent
  all_sent [] = []
  all_sent (e ∷ past) = all_sent past ++ sent_by past e

  -- what was sent and has not come, in order
  abbrev pub flying : Past → List Sent
  flying [] = []
  flying (e ∷ past) = landed e (flying past) ++ sent_by past e

  abbrev pub emitted : Past → Pid → Pid → List Signal
  emitted past a b = map (λ l. l.signal) (filter (is_between a b) (all_sent past))

  abbrev pub flight : Past → Pid → Pid → List Signal
  flight past a b = map (λ l. l.signal) (filter (is_between a b) (flying past))

  -- the items that p's queue ever got
  abbrev pub arrives : Past → Pid → Event → List Item
  arrives past p (Came a b x) = cond (same_pid p b) (items_of (life past p) p a x) []
  arrives past p _ = []

  abbrev pub arrived_since : Past → Pid → List Item
  arrived_since [] p = []
  arrived_since (e ∷ past) p = arrived_since past p ++ arrives past p e

  abbrev pub arrived : Past → Pid → List Item
  arrived past p = (state_of (at_start start p)).waiting ++ arrived_since past p

  -- which event may come next --------------------------------------------------------

  abbrev pub MaySay : Past → ProcessState → Pid → Pid → Signal → Type 0
  MaySay past s a b (Message body) = ⊤
  MaySay past s a b (Signal.Exit r) = ⊤
  MaySay past s a b (Link i) = (made_link past i ≡ false) × (held s.links b ≡ None) × (same_pid a b ≡ false)
  MaySay past s a b (Unlink ids) = held s.links b ≡ Some ids
  MaySay past s a b (Monitor m) = (made_ref past m ≡ false) × (same_pid a b ≡ false)
  MaySay past s a b (Demonitor m) = lookup (same_ref m) s.watching ≡ Some b
  MaySay past s a b (LinkExit ids r) = ⊥
  MaySay past s a b (Signal.Down m r) = ⊥
  MaySay past s a b (AliveAsk m) = made_ref past m ≡ false
  MaySay past s a b (AliveSay m x) = ⊥

  abbrev pub MayBear : Past → Option Pid → Option LinkId → Type 0
  MayBear past None None = ⊤
  MayBear past None (Some i) = ⊥
  MayBear past (Some q) None = alive past q ≡ true
  MayBear past (Some q) (Some i) = (alive past q ≡ true) × (made_link past i ≡ false)

  abbrev pub May : Past → Event → Type 0
  May past (Born p parent link) = (life past p ≡ unborn) × MayBear past parent link
  May past (Said a b x) = (alive past a ≡ true) × MaySay past (state past a) a b x
  May past (Came a b x) = find (is_between a b) (flying past) ≡ Some (sent a b x)
  May past (Took p k i) = (alive past p ≡ true) × (find (fits k) (state past p).waiting ≡ Some i)
  May past (Flag p on) = alive past p ≡ true
  May past (Left p r) = alive past p ≡ true
  May past (Refused a b) = (alive past a ≡ true) × (is_ended (life past b) ≡ true)

  abbrev pub IsLegal : Past → Type 0
  IsLegal [] = ⊤
  IsLegal (e ∷ past) = May past e × IsLegal past
