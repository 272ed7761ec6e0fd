-- Two processes of a desk that exchange a message each.
use Rattle.std.specs.Prelude.{◌≡◌, pos, List, length, slice_index_or, Option, None, Result, Ok}
use Rattle.pt_signal.specs.declared.pid.Pid.{Pid}
use Rattle.pt_signal.specs.declared.item.Item.{Item}
use Rattle.pt_signal.specs.declared.item.Pick.{Pick}
use Rattle.pt_signal.specs.declared.signal.Signal.{Signal}
use Rattle.pt_signal.specs.declared.config.Config.{Config}
use Rattle.pt_shard.specs.declared.fault.Fault.{Fault}
use Rattle.pt_shard.specs.Opening.{fresh_shard}
use Rattle.pt_shard.specs.ShardState.{ShardState}
use Rattle.pt_shard.specs.Calls.{Calls, Bears, take_event, first_match}
use Rattle.pt_desk.specs.DeskState.{DeskState, HasSameEnds}
use Rattle.pt_desk.specs.Turns.{Turns}
use Rattle.pt_desk.specs.declared.turned.Turned.{Turned}
use Rattle.pt_gathered.specs.Gathered.{GatheredState, journals}
use Rattle.example_uses.specs.declared.two_processes.TheConstants.{ASK, ANSWER}
use Rattle.example_uses.specs.Doing.{Doing, Idles, AndThen}
use Rattle.example_uses.specs.Telling.{SaysTo, plain_message}

-- what a desk does while nothing is posted and nothing collected
abbrev pub WithinDesk : {A : Type 0} → Doing ShardState A → Doing DeskState A
WithinDesk does old r new = does old.shard r new.shard × HasSameEnds old new

-- a signal is said, the desk has a turn of up to 16 letters, and the receiver takes the first item that fits, if
-- there is one
abbrev pub HandsOver : Pid → Pid → Signal → Pick → Doing DeskState (Option Item)
HandsOver from to signal pick old r new =
    AndThen (WithinDesk (SaysTo from to signal) old)
    (λ _ said r new.
    (came : DeskState) × (turned : Turned) × Turns 16 said turned came
    × WithinDesk (λ desk. Calls to (take_event desk to pick) (first_match desk to pick) desk) came r new) r new

-- ping is born and pong is born; ping asks with the number 7, and pong takes the question; pong answers with the
-- number 8, and ping takes what came from pong
abbrev pub Exchanges : Doing DeskState (Unit {0})
Exchanges old r new =
    AndThen (WithinDesk (Bears None None) old)
    (λ ping first. AndThen (WithinDesk (Bears None None) first)
    (λ pong both. AndThen (HandsOver ping pong (plain_message ASK (pos 7)) (Pick.Kind ASK) both)
    (λ _ asked. AndThen (HandsOver pong ping (plain_message ANSWER (pos 8)) (Pick.From pong) asked) (λ _. Idles (tt {0}))))) r
    new

-- the exchange happened on the first of the desks
abbrev pub ExchangesOnFirst : List DeskState → Result (Unit {0}) Fault → List DeskState → Type 0
ExchangesOnFirst desks r then =
    (old : DeskState) × (new : DeskState) × (old ≡ slice_index_or desks 0 old) × (new ≡ slice_index_or then 0 new)
    × Exchanges old r new

-- a node of one desk, on which nothing happened but the exchange
pub record HasExchanged (g : GatheredState) : Type 0 where
  pub config : Config
  pub old : DeskState
  pub new : DeskState
  pub fresh : old.shard ≡ fresh_shard config 0
  pub exchanges : Exchanges old (Ok (tt {0})) new
  pub desks : length g.shards ≡ 1
  pub journal : journals g 0 ≡ new.shard.journal
