-- The law of custody: what was sent to a process was taken, waits, was lost or is on its way, each once and in order.
use Rattle.std.specs.Prelude.{◌≡◌, ◌+◌, Bool, true, false, cond, List, [], ◌++◌, length, map, filter, flat_map, IsPermutation}
use Rattle.pt_signal.specs.declared.pid.Pid.{Pid}
use Rattle.pt_signal.specs.declared.item.Body.{Body}
use Rattle.pt_signal.specs.declared.item.Item.{Item}
use Rattle.pt_signal.specs.declared.signal.Signal.{Signal}
use Rattle.pt_signal.specs.Values.{same_pid}
use Rattle.pt_events.specs.History.{Past, Start, Phase, living, at_start, life, flight, IsLegal}
use Rattle.pt_events.specs.Takes.{taken}
use Rattle.pt_laws.specs.Sender.{body_of, said_messages, users}
use Rattle.pt_shard.specs.declared.loss.Loss.{Loss}
use Rattle.pt_shard.specs.Losses.{items_lost, loser, losses}

-- what became of an item that came to a process: the process took it, it waits, or nobody will ever take it
pub data ItemFate : Type 0 where
  was_taken : ItemFate
  waits : ItemFate
  was_lost : ItemFate

abbrev pub is_fate : ItemFate → ItemFate → Bool
is_fate was_taken was_taken = true
is_fate waits waits = true
is_fate was_lost was_lost = true
is_fate _ _ = false

-- the items with this fate, in order
abbrev pub items_with : ItemFate → List (Item × ItemFate) → List Item
items_with fate came = map (λ c. c.0) (filter (λ c. is_fate fate c.1) came)

-- what waits in the mailbox; one that is not alive has none
abbrev pub mailbox : Phase → List Item
mailbox (living s) = s.waiting
mailbox _ = []

-- the items that the loss was p's of
abbrev pub lost_to : Pid → Loss → List Item
lost_to p loss = cond (same_pid p (loser loss)) (items_lost loss) []

abbrev pub all_lost_to : Pid → List Loss → List Item
all_lost_to p told = flat_map (lost_to p) told

-- the messages among the signals
abbrev pub messages_in : List Signal → List Body
messages_in signals = flat_map body_of signals

-- Each item that came to p has one fate. What a process sent p is, in order, its messages among those items and then
-- those on their way. What was taken is what p took, in the order of coming; what waits is its mailbox, and what was
-- lost is what its losses tell, both in order.
pub record HasEachOnce (p : Pid) (sent : Pid → List Body) (took waiting lost : List Item)
    (on_way : Pid → List Body) : Type 0 where
  pub came : List (Item × ItemFate)
  pub sent_is : (a : Pid) → sent a ≡ users a p (map (λ c. c.0) came) ++ on_way a
  pub taken_are : IsPermutation (items_with was_taken came) took
  pub waiting_are : items_with waits came ≡ waiting
  pub lost_are : items_with was_lost came ≡ lost

-- so it is in each legal history; what waited as it began counts as sent
abbrev pub CustodyHolds : Type 0
CustodyHolds =
    (start : Start) (past : Past) (p : Pid) → IsLegal start past
    → HasEachOnce p (λ a. users a p (mailbox (at_start start p)) ++ said_messages a p past) (taken past p)
    (mailbox (life start past p)) (all_lost_to p (losses start past)) (λ a. messages_in (flight start past a p))

-- so the messages of one process are as many as were taken, wait, were lost and are on their way
abbrev pub EachCounts : Type 0
EachCounts =
    (p : Pid) (sent : Pid → List Body) (took waiting lost : List Item) (on_way : Pid → List Body) (a : Pid)
    → HasEachOnce p sent took waiting lost on_way
    → length (sent a)
    ≡ length (users a p took) + length (users a p waiting) + length (users a p lost) + length (on_way a)
