-- What is kept beside the table under the numbers of messages.
use Rattle.std.specs.Prelude.{◌≡◌, ℕ, ℤ, pos, negsuc, Bool, cond, not, ◌&&◌, ◌==◌, Option, Some, None, Result, Ok, Err}
use Rattle.std.specs.Option.{option_map}
use Rattle.std.specs.declared.string.String.{String}
use Rattle.std.specs.declared.alloc.Global.{Global}
use Rattle.slab.specs.Slab.{Slab, get, Updates, SameValues}
use Rattle.pt_signal.specs.declared.pid.Pid.{Pid}
use Rattle.pt_signal.specs.declared.item.Item.{Item}
use Rattle.pt_signal.specs.declared.item.Item.TheVariants.{User}
use Rattle.pt_signal.specs.declared.item.Pick.{Pick}
use Rattle.pt_shard.specs.declared.fault.Fault.{Fault}
use Rattle.pt_shard.specs.ShardState.{ShardState, lives}
use Rattle.pt_shard.specs.Known.{knows}
use Rattle.pt_shard.specs.Calls.{Calls, take_event, first_match}
use Rattle.example_uses.specs.declared.payloads.Sent.{Sent}
use Rattle.example_uses.specs.declared.payloads.TheConstants.{TEXT}
use Rattle.example_uses.specs.Doing.{Doing, OrNoMemory}
use Rattle.example_uses.specs.Telling.{SaysTo, plain_message}

-- the number, where the message that names it was not refused
abbrev pub number_if_sent : ℕ → Result (Unit {0}) Fault → Result ℕ Fault
number_if_sent key (Ok _) = Ok key
number_if_sent key (Err fault) = Err fault

-- a message that names a number is said, and the answer is the number
abbrev pub SaysNumber : Pid → Pid → Doing ShardState ℕ
SaysNumber from to old r new =
    OrNoMemory
    (λ old r new. (key : ℕ) × (answer : Result (Unit {0}) Fault)
    × SaysTo from to (plain_message TEXT (pos key)) old answer new × (r ≡ number_if_sent key answer))
    old r new

-- what is sent stands under a number that was free, and all else as before; after a refusal all is as before
abbrev pub Stores : Sent → Result ℕ Fault → Slab Sent → Slab Sent → Type 0
Stores what (Ok key) old new = (get old key ≡ None) × Updates old new key (Some what)
Stores what (Err fault) old new = new.slots ≡ old.slots

abbrev pub with_key : Pid → ℤ → Option (Pid × ℕ)
with_key from (pos key) = Some (from, key)
with_key from (negsuc n) = None

-- who sent an item, and the number that it names
abbrev pub named_sender : Option Item → Option (Pid × ℕ)
named_sender (Some (User from body)) = with_key from body.num
named_sender _ = None

-- the text under that number, and who sent it
abbrev pub text_of : Slab Sent → Option (Pid × ℕ) → Option (Pid × String Global)
text_of kept None = None
text_of kept (Some (from, key)) = option_map (λ (s : Sent). (from, s.text)) (get kept key)

-- the oldest message with a text that waits for p
abbrev pub next_text : ShardState → Pid → Option Item
next_text d p = first_match d p (Pick.Kind TEXT)

-- it is taken, if there is one, and the answer is the text that it names, and who sent it
abbrev pub TakesText : Slab Sent → Pid → Doing ShardState (Option (Pid × String Global))
TakesText kept p old r new =
    Calls p (take_event old p (Pick.Kind TEXT)) (text_of kept (named_sender (next_text old p))) old r new

-- what that number names stands here no more, and all else as before
abbrev pub TakesTextOut : Option (Pid × ℕ) → Slab Sent → Slab Sent → Type 0
TakesTextOut None old new = SameValues old new
TakesTextOut (Some (from, key)) old new = Updates old new key None

-- a process of this desk that has ended: nothing that was sent to it is received any more
abbrev pub is_lost : ShardState → Pid → Bool
is_lost d p = (p.shard == d.number) && knows d p && not (lives d p)

-- without what was sent to a lost process
abbrev pub keep_unless : (Pid → Bool) → Option Sent → Option Sent
keep_unless lost None = None
keep_unless lost (Some s) = cond (lost s.to) None (Some s)

-- what was sent to a lost process goes, and all else stays where it stood
abbrev pub LetsGo : (Pid → Bool) → Slab Sent → Slab Sent → Type 0
LetsGo lost old new = (key : ℕ) → get new key ≡ keep_unless lost (get old key)
