-- A history in which a message has each fate, and what cannot be said of it.
use Rattle.std.specs.Prelude.{◌≡◌, ℕ, pos, None, List, [], ◌∷◌}
use Rattle.pt_signal.specs.declared.pid.Pid.{Pid}
use Rattle.pt_signal.specs.declared.item.Body.{Body}
use Rattle.pt_signal.specs.declared.item.Item.{Item}
use Rattle.pt_signal.specs.declared.item.Item.TheVariants.{User}
use Rattle.pt_signal.specs.declared.item.Pick.{Pick}
use Rattle.pt_signal.specs.declared.reason.Reason.TheVariants.{Normal}
use Rattle.pt_signal.specs.declared.signal.Signal.TheVariants.{Message}
use Rattle.pt_events.specs.declared.event.Event.TheVariants.{Born, Said, Came, Took, Left}
use Rattle.pt_events.specs.History.{Past, life, flight, IsLegal}
use Rattle.pt_events.specs.Takes.{taken}
use Rattle.pt_laws.specs.Sender.{said_messages}
use Rattle.pt_shard.specs.Losses.{losses}
use Rattle.pt_history.specs.Custody.{mailbox, all_lost_to, messages_in, HasEachOnce}

abbrev pub sender : Pid
sender = record { shard = 0; slot = 2; version = 1 }

abbrev pub receiver : Pid
receiver = record { shard = 1; slot = 0; version = 1 }

-- the message with this kind
abbrev pub body_of_kind : ℕ → Body
body_of_kind k = record { kind = k; num = pos 0; who = None }

abbrev pub item : ℕ → Item
item k = User sender (body_of_kind k)

-- Five messages are sent and three come. The receiver takes the second and exits, so the first and the third are lost. Then
-- the fourth comes and is lost, too. The fifth is on its way.
abbrev pub story : Past
story =
    Came sender receiver (Message (body_of_kind 4))
    ∷ Left receiver Normal
    ∷ Took receiver (Pick.Kind 2) (item 2)
    ∷ Came sender receiver (Message (body_of_kind 3))
    ∷ Came sender receiver (Message (body_of_kind 2))
    ∷ Came sender receiver (Message (body_of_kind 1))
    ∷ Said sender receiver (Message (body_of_kind 5))
    ∷ Said sender receiver (Message (body_of_kind 4))
    ∷ Said sender receiver (Message (body_of_kind 3))
    ∷ Said sender receiver (Message (body_of_kind 2))
    ∷ Said sender receiver (Message (body_of_kind 1))
    ∷ Born receiver None None
    ∷ Born sender None None
    ∷ []

-- what the receiver is said to have of it: this was taken, this waits, this was lost, this is on its way
abbrev pub StoryTells : List Item → List Item → List Item → List Body → Type 0
StoryTells took waiting lost on_way =
    HasEachOnce receiver (λ a. said_messages a receiver story) took waiting lost (λ a. on_way)

-- what the law says of it is true of nothing less and of nothing more: not where the lost are left out, nor those on their
-- way, nor where one is told twice
pub record TellsEachFate : Type 0 where
  pub legal : IsLegal [] story
  pub took : taken story receiver ≡ item 2 ∷ []
  pub waiting : mailbox (life [] story receiver) ≡ []
  pub lost : all_lost_to receiver (losses [] story) ≡ item 1 ∷ item 3 ∷ item 4 ∷ []
  pub on_way : messages_in (flight [] story sender receiver) ≡ body_of_kind 5 ∷ []
  pub without_lost : ¬ StoryTells (item 2 ∷ []) [] [] (body_of_kind 5 ∷ [])
  pub without_on_way : ¬ StoryTells (item 2 ∷ []) [] (item 1 ∷ item 3 ∷ item 4 ∷ []) []
  pub told_twice : ¬ StoryTells (item 2 ∷ []) [] (item 1 ∷ item 3 ∷ item 3 ∷ item 4 ∷ []) (body_of_kind 5 ∷ [])
