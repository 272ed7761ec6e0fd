-- What a desk loses: messages and other items that nobody will ever take.
use Rattle.std.specs.Prelude.{◌≡◌, Bool, true, false, cond, List, [], ◌∷◌, ◌++◌, Option, Some, None}
use Rattle.std.specs.Option.{option_map, option_to_list}
use Rattle.pt_signal.specs.declared.pid.Pid.{Pid}
use Rattle.pt_signal.specs.declared.item.Body.{Body}
use Rattle.pt_signal.specs.declared.item.Item.{Item}
use Rattle.pt_signal.specs.declared.reason.Reason.{Reason}
use Rattle.pt_signal.specs.declared.signal.Signal.{Signal}
use Rattle.pt_signal.specs.declared.signal.Signal.TheVariants.{Message}
use Rattle.pt_signal.specs.Process.{ProcessState, handle}
use Rattle.pt_events.specs.declared.event.Event.{Event}
use Rattle.pt_events.specs.declared.event.Event.TheVariants.{Came, Left}
use Rattle.pt_events.specs.History.{Past, Phase, Start, living, ended, life, alive}
use Rattle.pt_shard.specs.declared.loss.Loss.{Loss}
use Rattle.pt_shard.specs.declared.loss.Loss.TheVariants.{Exited, Stray}

-- the receiver
abbrev pub loser : Loss → Pid
loser (Exited p r items) = p
loser (Stray p item) = p

-- the reason with which it exited; none if it was not alive as the message came
abbrev pub reason_lost : Loss → Option Reason
reason_lost (Exited p r items) = Some r
reason_lost (Stray p item) = None

-- the items, the oldest first
abbrev pub items_lost : Loss → List Item
items_lost (Exited p r items) = items
items_lost (Stray p item) = item ∷ []

-- a message from a that comes to b, which is not alive, is lost; other signals are answered, or mean nothing
abbrev pub stray : Pid → Pid → Signal → Option Loss
stray b a (Message body) = Some (Stray b (Item.User a body))
stray b a _ = None

-- what is lost as the signal from a comes to b: if b exits by it, what waits in its mailbox
abbrev pub lost_at : Phase → Pid → Pid → Signal → Option Loss
lost_at (living s) b a x = let h = handle b s a x in option_map (λ r. Exited b r h.state.waiting) h.ending
lost_at _ b a x = stray b a x

-- what is lost as p exits by its own
abbrev pub lost_by_exit : Phase → Pid → Reason → Option Loss
lost_by_exit (living s) p r = Some (Exited p r s.waiting)
lost_by_exit _ p r = None

-- what the event loses, after those before it
abbrev pub lost_in : Start → Past → Event → Option Loss
lost_in start past (Came a b x) = lost_at (life start past b) b a x
lost_in start past (Left p r) = lost_by_exit (life start past p) p r
lost_in start past _ = None

-- what is kept to be told, with one more loss, if losses are kept
abbrev pub with_loss : Bool → Option Loss → List Loss → List Loss
with_loss keeps None kept = kept
with_loss keeps (Some x) kept = cond keeps (kept ++ x ∷ []) kept

-- what the journal lost, in the order of its events
abbrev pub losses : Start → Past → List Loss
losses start [] = []
losses start (e ∷ past) = losses start past ++ option_to_list (lost_in start past e)

-- what an event loses is what its process held just after its exit, or a message that came to one not alive; and
-- nothing else is lost
pub record AreLosses : Type 0 where
  pub exits : (start : Start) (past : Past) (e : Event) (p : Pid) (r : Reason) (s : ProcessState) → alive start past p ≡ true
      → life start (e ∷ past) p ≡ ended r s → lost_in start past e ≡ Some (Exited p r s.waiting)
  pub exited : (start : Start) (past : Past) (e : Event) (p : Pid) (r : Reason) (items : List Item)
      → lost_in start past e ≡ Some (Exited p r items)
      → (alive start past p ≡ true) × (s : ProcessState) × (life start (e ∷ past) p ≡ ended r s) × (s.waiting ≡ items)
  pub strays : (start : Start) (past : Past) (a p : Pid) (body : Body) → alive start past p ≡ false
      → lost_in start past (Came a p (Message body)) ≡ Some (Stray p (Item.User a body))
  pub stray : (start : Start) (past : Past) (e : Event) (p : Pid) (item : Item)
      → lost_in start past e ≡ Some (Stray p item)
      → (alive start past p ≡ false)
      × (a : Pid) × (body : Body) × (e ≡ Came a p (Message body)) × (item ≡ Item.User a body)
