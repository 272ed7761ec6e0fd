-- One sender's messages to one mailbox.
use Rattle.std.specs.Prelude.{◌≡◌, Bool, cond, ◌&&◌, List, [], ◌∷◌, ◌++◌}
use Rattle.pt_signal.specs.declared.pid.Pid.{Pid}
use Rattle.pt_signal.specs.declared.item.Body.{Body}
use Rattle.pt_signal.specs.declared.item.Item.{Item}
use Rattle.pt_signal.specs.declared.item.Item.TheVariants.{User}
use Rattle.pt_signal.specs.declared.letter.Letter.{Letter}
use Rattle.pt_signal.specs.declared.signal.Signal.{Signal}
use Rattle.pt_signal.specs.declared.signal.Signal.TheVariants.{Message}
use Rattle.pt_events.specs.declared.event.Event.{Event}
use Rattle.pt_events.specs.declared.event.Event.TheVariants.{Said, Came}
use Rattle.pt_signal.specs.Values.{same_pid}
use Rattle.pt_signal.specs.Process.{Sent}
use Rattle.pt_events.specs.History.{Past, Start, Phase, life, arrived_since, is_unborn, is_ended}
use Rattle.pt_events.specs.Journal.{Journals, content, events}

abbrev pub body_of : Signal → List Body
body_of (Message b) = b ∷ []
body_of _ = []

module _ (a p : Pid) where
  -- the body, where it is a message from a to p
  abbrev pub message_of : Sent → List Body
  message_of l = cond (same_pid a l.from && same_pid p l.to) (body_of l.signal) []

  abbrev pub messages : List Letter → List Body
  messages [] = []
  messages (l ∷ ls) = message_of (content l) ++ messages ls

  abbrev pub said_by : Event → List Body
  said_by (Said c d x) = cond (same_pid a c && same_pid p d) (body_of x) []
  said_by _ = []

  -- the messages that a said to p
  abbrev pub said_messages : Past → List Body
  said_messages [] = []
  said_messages (e ∷ past) = said_messages past ++ said_by e

  abbrev pub user_of : Item → List Body
  user_of (User c b) = cond (same_pid a c) (b ∷ []) []
  user_of _ = []

  -- the bodies of the items from a
  abbrev pub users : List Item → List Body
  users [] = []
  users (i ∷ is) = user_of i ++ users is

  abbrev pub came_by_when : (Phase → Bool) → Phase → Event → List Body
  came_by_when test f (Came c d x) = cond (same_pid a c && same_pid p d) (cond (test f) (body_of x) []) []
  came_by_when test f _ = []

  -- the messages from a that came to p while its phase passes
  abbrev pub came_when : Start → (Phase → Bool) → Past → List Body
  came_when start test [] = []
  came_when start test (e ∷ past) = came_when start test past ++ came_by_when test (life start past p) e

  -- a's messages to p: those that came before its birth, those that arrived, those that came after its end, and those
  -- left over
  abbrev pub IsSenderFront : Start → Journals → List Letter → Type 0
  IsSenderFront start journal over =
      said_messages (events (journal a.shard))
      ≡ came_when start is_unborn (events (journal p.shard))
      ++ users (arrived_since start (events (journal p.shard)) p)
      ++ came_when start is_ended (events (journal p.shard))
      ++ messages over
