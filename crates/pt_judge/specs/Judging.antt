-- What the judge knows, and what its own functions say.
use Rattle.std.specs.Prelude.{◌≡◌, Bool, true, false, cond, not, ◌&&◌, ◌||◌, Option, Some, None, is_some, is_none, List}
use Rattle.std.specs.Prelude.{[], ◌∷◌, ◌++◌}
use Rattle.std.specs.Map.{lookup, keys_of}
use Rattle.std.specs.List.{find, list_any}
use Rattle.std.specs.Option.{option_map}
use Rattle.pt_signal.specs.declared.pid.Pid.{Pid}
use Rattle.pt_signal.specs.declared.ids.LinkId.{LinkId}
use Rattle.pt_signal.specs.declared.ids.Ref.{Ref}
use Rattle.pt_signal.specs.declared.ids.Ids.{Ids}
use Rattle.pt_signal.specs.declared.item.Item.{Item}
use Rattle.pt_signal.specs.declared.reason.Reason.{Reason}
use Rattle.pt_signal.specs.declared.reason.Reason.TheVariants.{Normal, Kill}
use Rattle.pt_signal.specs.declared.signal.Signal.{Signal}
use Rattle.pt_signal.specs.declared.signal.Signal.TheVariants.{Message, Link, Unlink, LinkExit, Monitor, Demonitor}
use Rattle.pt_signal.specs.declared.signal.Signal.TheVariants.{AliveAsk, AliveSay}
use Rattle.pt_judge.specs.declared.cause.Cause.{Cause}
use Rattle.pt_judge.specs.declared.cause.Cause.TheVariants.{BornTwice, NotAlive, NotFront, NotFirstMatch, Unlawful}
use Rattle.pt_events.specs.declared.event.Event.{Event}
use Rattle.pt_events.specs.declared.event.Event.TheVariants.{Born, Said, Came, Took, Flag, Left, Refused}
use Rattle.pt_signal.specs.contracts.item.ItemPartialEq.TheImpl.{ghosts as of_item}
use Rattle.pt_signal.specs.contracts.ids.IdsPartialEq.TheImpl.{ghosts as of_ids}
use Rattle.pt_signal.specs.contracts.signal.SignalPartialEq.TheImpl.{ghosts as of_signal}
use Rattle.pt_signal.specs.Values.{same_pid, same_ref, same_link, fits}
use Rattle.pt_signal.specs.Process.{ProcessState, held, handle, obey, verdict, Sent, sent, bounce}
use Rattle.pt_events.specs.History.{Past, Start, Phase, unborn, is_birth, is_living, is_unborn, is_the, is_between}
use Rattle.pt_events.specs.History.{at_start, after, landed, reason_of, state_of, end_sends, life, flying, makes_link}
use Rattle.pt_events.specs.History.{makes_ref, made_link, made_ref}

-- what the judge knows: the ids of links and the references that were made; what each process is that was born; and
-- what is on its way
pub record JudgeState : Type 0 where
  pub links : List LinkId
  pub refs : List Ref
  pub lives : Start
  pub flights : List Sent

-- what the process is
abbrev pub now_is : JudgeState → Pid → Phase
now_is s p = at_start s.lives p

-- what decides whether an event may come: which ids of links and references were made, what each pid is, and what is on
-- its way
pub record Known : Type 0 where
  pub links : LinkId → Bool
  pub refs : Ref → Bool
  pub is : Pid → Phase
  pub flights : List Sent

abbrev pub known_state : JudgeState → Known
known_state s = record {
  links = λ i. list_any (same_link i) s.links;
  refs = λ m. list_any (same_ref m) s.refs;
  is = now_is s;
  flights = s.flights;
}

abbrev pub known_after : Start → Past → Known
known_after start past = record {
  links = made_link past;
  refs = made_ref past;
  is = life start past;
  flights = flying start past;
}

-- the table lists those that were born, and no other
abbrev pub ListsBorn : Start → Type 0
ListsBorn lives = (p : Pid) → is_some (lookup (same_pid p) lives) ≡ not (is_unborn (at_start lives p))

-- these are the link ids, and these the references, that the history made
abbrev pub ListsLinks : List LinkId → Past → Type 0
ListsLinks ids past = (i : LinkId) → list_any (same_link i) ids ≡ made_link past i

abbrev pub ListsRefs : List Ref → Past → Type 0
ListsRefs refs past = (m : Ref) → list_any (same_ref m) refs ≡ made_ref past m

abbrev pub is_kill : Reason → Bool
is_kill Kill = true
is_kill _ = false

abbrev pub is_normal : Reason → Bool
is_normal Normal = true
is_normal _ = false

-- the state and the ending after an exit signal that is not dropped for its ids
pub record IsObeyed (by_link : Bool) (me : Pid) (old : ProcessState) (from : Pid) (r : Reason) (new : ProcessState)
    (ending : Option Reason) : Type 0 where
  pub state : new ≡ (obey (verdict by_link old.traps (same_pid from me) from r) old).state
  pub end : ending ≡ (obey (verdict by_link old.traps (same_pid from me) from r) old).ending

-- the state and the ending after a signal
pub record IsHandled (me : Pid) (old : ProcessState) (from : Pid) (x : Signal) (new : ProcessState)
    (ending : Option Reason) : Type 0 where
  pub state : new ≡ (handle me old from x).state
  pub end : ending ≡ (handle me old from x).ending

-- a process after the event
abbrev pub shown : Event → Pid × Phase → Pid × Phase
shown e l = (l.0, after l.0 e l.1)

-- a birth is of a pid that the table does not have
abbrev pub MayBeBorn : Start → Event → Type 0
MayBeBorn start (Born p parent link) = is_some (lookup (same_pid p) start) ≡ false
MayBeBorn start _ = Unit {0}

-- the process of the pid has seen the event, and no other has changed
abbrev pub ShownTo : Pid → Event → Start → Start → Type 0
ShownTo q e old new =
    (p : Pid)
    → lookup (same_pid p) new
    ≡ cond (same_pid p q) (option_map (after p e) (lookup (same_pid p) old)) (lookup (same_pid p) old)

abbrev pub IsShownToParent : Option Pid → Event → Start → Start → Type 0
IsShownToParent parent e old new =
    (p : Pid)
    → lookup (same_pid p) new
    ≡ cond (is_the p parent) (option_map (after p e) (lookup (same_pid p) old)) (lookup (same_pid p) old)

-- the pids of the table, in its order
abbrev pub ListsPids : List Pid → Start → Type 0
ListsPids pids lives = pids ≡ keys_of lives

-- the table after the event
pub record IsObserved (old new : Start) (e : Event) : Type 0 where
  pub lives : (p : Pid) → at_start new p ≡ after p e (at_start old p)
  pub known : (p : Pid) → is_some (lookup (same_pid p) new) ≡ is_some (lookup (same_pid p) old) || is_birth p e

-- the receiver of what came, or who leaves, lives
abbrev pub lived : Start → Event → Bool
lived start (Came a b x) = is_living (at_start start b)
lived start (Left p r) = is_living (at_start start p)
lived start _ = false

-- what the process owes, if it has ended
abbrev pub owed : Start → Pid → List Sent
owed start p = end_sends p (reason_of (at_start start p)) (state_of (at_start start p))

-- what a live process answers
abbrev pub answered : Pid → Pid → Signal → List Sent
answered p a (AliveAsk m) = sent p a (AliveSay m true) ∷ []
answered p a _ = []

-- what the event sends, told from the table after it, and from whether its process lived before it
abbrev pub judge_sends : Start → Bool → Event → List Sent
judge_sends start lived (Said a b x) = sent a b x ∷ []
judge_sends start lived (Came a b x) = cond lived (answered b a x ++ owed start b) (bounce b a x)
judge_sends start lived (Left p r) = cond lived (owed start p) []
judge_sends start lived _ = []

-- what the judge knows after the event
pub record IsStep (old : JudgeState) (e : Event) (new : JudgeState) : Type 0 where
  pub links : (i : LinkId) → list_any (same_link i) new.links ≡ makes_link i e || list_any (same_link i) old.links
  pub refs : (m : Ref) → list_any (same_ref m) new.refs ≡ makes_ref m e || list_any (same_ref m) old.refs
  pub lives : (p : Pid) → now_is new p ≡ after p e (now_is old p)
  pub flights : new.flights ≡ landed e old.flights ++ judge_sends new.lives (lived old.lives e) e

-- what the process holds, or held just after its end; None for a pid that is unborn
abbrev pub IsHeldBy : JudgeState → Pid → Option ProcessState → Type 0
IsHeldBy s p None = now_is s p ≡ unborn
IsHeldBy s p (Some held) = held ≡ state_of (now_is s p)

-- whether it is there and the same, as the derived `==` of its type tells
abbrev pub is_item : Option Item → Item → Bool
is_item None i = false
is_item (Some j) i = of_item.eq j i

abbrev pub is_ids : Option Ids → Ids → Bool
is_ids None ids = false
is_ids (Some held) ids = of_ids.eq held ids

abbrev pub is_signal : Option Signal → Signal → Bool
is_signal None x = false
is_signal (Some y) x = of_signal.eq y x

abbrev pub may_say : Known → Pid → Pid → Signal → Bool
may_say k a b (Message body) = true
may_say k a b (Signal.Exit r) = true
may_say k a b (Link i) = not (k.links i) && is_none (held (state_of (k.is a)).links b) && not (same_pid a b)
may_say k a b (Unlink ids) = is_ids (held (state_of (k.is a)).links b) ids
may_say k a b (Monitor m) = not (k.refs m) && not (same_pid a b)
may_say k a b (Demonitor m) = is_the b (lookup (same_ref m) (state_of (k.is a)).watching)
may_say k a b (LinkExit ids r) = false
may_say k a b (Signal.Down m r) = false
may_say k a b (AliveAsk m) = not (k.refs m)
may_say k a b (AliveSay m x) = false

-- a parent is named that is not alive
abbrev pub lacks : Known → Option Pid → Bool
lacks k None = false
lacks k (Some q) = not (is_living (k.is q))

-- a link without a parent, or an id that was made before
abbrev pub unlawful_link : Known → Option Pid → Option LinkId → Bool
unlawful_link k parent None = false
unlawful_link k None (Some i) = true
unlawful_link k (Some q) (Some i) = k.links i

-- why the event may not come next, by tests
abbrev pub cause : Known → Event → Option Cause
cause k (Born p parent link) =
    cond (is_unborn (k.is p))
    (cond (lacks k parent) (Some NotAlive) (cond (unlawful_link k parent link) (Some Unlawful) None)) (Some BornTwice)
cause k (Said a b x) = cond (is_living (k.is a)) (cond (may_say k a b x) None (Some Unlawful)) (Some NotAlive)
cause k (Came a b x) =
    cond (is_signal (option_map (λ l. l.signal) (find (is_between a b) k.flights)) x) None (Some NotFront)
cause k (Took p j i) =
    cond (is_living (k.is p)) (cond (is_item (find (fits j) (state_of (k.is p)).waiting) i) None (Some NotFirstMatch))
    (Some NotAlive)
cause k (Flag p on) = cond (is_living (k.is p)) None (Some NotAlive)
cause k (Left p r) = cond (is_living (k.is p)) None (Some NotAlive)
cause k (Refused a b) =
    cond (is_living (k.is a)) (cond (is_some (reason_of (k.is b))) None (Some Unlawful)) (Some NotAlive)
