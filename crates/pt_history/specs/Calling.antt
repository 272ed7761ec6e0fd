-- Each call of a desk keeps what the audit has of the calls of a node: each clause has what that call of `Desk` promises.
use Rattle.std.specs.Prelude.{◌≡◌, true, is_some, [], length, slice_get, Bool, Option, Some, None, Result}
use Rattle.pt_signal.specs.declared.pid.Pid.{Pid}
use Rattle.pt_signal.specs.declared.ids.Ref.{Ref}
use Rattle.pt_signal.specs.declared.item.Body.{Body}
use Rattle.pt_signal.specs.declared.item.Item.{Item}
use Rattle.pt_signal.specs.declared.item.Pick.{Pick}
use Rattle.pt_signal.specs.declared.letter.Letter.{Letter}
use Rattle.pt_signal.specs.declared.reason.Reason.{Reason}
use Rattle.pt_signal.specs.declared.signal.Signal.{Signal}
use Rattle.pt_signal.specs.declared.signal.Signal.TheVariants.{Message, AliveAsk}
use Rattle.pt_events.specs.declared.event.Event.TheVariants.{Said, Flag, Left}
use Rattle.pt_events.specs.Journal.{Journals, gots, posts}
use Rattle.pt_shard.specs.declared.fault.Fault.{Fault}
use Rattle.pt_shard.specs.declared.stop.Stop.{Stop}
use Rattle.pt_shard.specs.Calls.{Bears, BearsChild, Calls, Monitors, demonitor_event, first_match, link_event, new_ref}
use Rattle.pt_shard.specs.Calls.{take_event, unlink_event}
use Rattle.pt_shard.specs.Known.{knows}
use Rattle.pt_shard.specs.ShardState.{ShardState, Handles, lives, state_in}
use Rattle.pt_desk.specs.DeskState.{DeskState, IsDesk}
use Rattle.pt_desk.specs.Reaching.{Reaches, has_link_to_make, has_monitor_to_make}
use Rattle.pt_history.specs.Passing.{AllCalledHere}

-- all that the desk wrote is as the audit has it, where these are the journals of all desks
abbrev pub IsCalledDesk : Journals → ShardState → Type 0
IsCalledDesk journal d = AllCalledHere d.config.start d.number journal d.journal

-- on a desk before whose journal nobody was
module _ (journal : Journals) (old new : DeskState) where
  abbrev pub StaysCalled : Type 0
  StaysCalled = IsCalledDesk journal old.shard → IsCalledDesk journal new.shard

  pub record CallsKeep : Type 0 where
    pub spawn : (r : Result Pid Fault) → Bears None None old.shard r new.shard → StaysCalled
    pub spawn_child : (p : Pid) (linked : Bool) (r : Result Pid Fault)
        → BearsChild p linked old.shard r new.shard → StaysCalled
    pub send : (p t : Pid) (body : Body) (r : Result (Unit {0}) Fault) → knows old.shard t ≡ true
        → Reaches (lives old.shard p) p t (Calls p (Some (Said p t (Message body))) tt old.shard r new.shard) old r new
        → StaysCalled
    pub exit_signal : (p t : Pid) (reason : Reason) (r : Result (Unit {0}) Fault) → knows old.shard t ≡ true
        → Calls p (Some (Said p t (Signal.Exit reason))) tt old.shard r new.shard → StaysCalled
    pub link : (p t : Pid) (r : Result (Unit {0}) Fault) → knows old.shard t ≡ true
        → Reaches (has_link_to_make old.shard p t) p t (Calls p (link_event old.shard p t) tt old.shard r new.shard) old r
        new
        → StaysCalled
    pub unlink : (p t : Pid) (r : Result (Unit {0}) Fault) → knows old.shard t ≡ true
        → Calls p (unlink_event old.shard p t) tt old.shard r new.shard → StaysCalled
    pub monitor : (p t : Pid) (r : Result Ref Fault) → knows old.shard t ≡ true
        → Reaches (has_monitor_to_make old.shard p t) p t (Monitors p t old.shard r new.shard) old r new → StaysCalled
    pub demonitor : (p : Pid) (m : Ref) (flush : Bool) (r : Result Bool Fault)
        → Calls p (demonitor_event old.shard p m flush) (is_some (demonitor_event old.shard p m flush)) old.shard r
        new.shard
        → StaysCalled
    pub ask_alive : (p t : Pid) (r : Result Ref Fault) → knows old.shard t ≡ true
        → Calls p (Some (Said p t (AliveAsk (new_ref old.shard)))) (new_ref old.shard) old.shard r new.shard → StaysCalled
    pub trap : (p : Pid) (on : Bool) (r : Result Bool Fault)
        → Calls p (Some (Flag p on)) (state_in old.shard p).traps old.shard r new.shard → StaysCalled
    pub receive : (p : Pid) (k : Pick) (r : Result (Option Item) Fault)
        → Calls p (take_event old.shard p k) (first_match old.shard p k) old.shard r new.shard → StaysCalled
    pub exit : (p : Pid) (reason : Reason) (r : Result (Unit {0}) Fault)
        → Calls p (Some (Left p reason)) tt old.shard r new.shard → StaysCalled
    -- the letter is that of those posted to the desk which comes next
    pub receipt : (l : Letter) (r : Result (Option Pid) Stop)
        → slice_get (posts [] (journal l.from.shard) old.shard.number) (length (gots old.shard.journal l.from.shard))
        ≡ Some l
        → Handles l old.shard r new.shard → StaysCalled

-- a desk that opens has it, and each call and each receipt keeps it
pub record DesksKeep : Type 0 where
  pub opens : (journal : Journals) (d : ShardState) → d.journal ≡ [] → IsCalledDesk journal d
  pub calls : (journal : Journals) (old new : DeskState) → IsDesk old → old.shard.start ≡ []
      → CallsKeep journal old new
