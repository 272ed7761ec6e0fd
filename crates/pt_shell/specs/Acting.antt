-- What a call that changes a node answers, and what it leaves.
use Rattle.std.specs.Prelude.{◌≡◌, ℕ, Bool, max, length, is_some, List, Option, Some, None, Result, Ok}
use Rattle.std.specs.Prelude.{IfSome}
use Rattle.pt_signal.specs.declared.pid.Pid.{Pid}
use Rattle.pt_signal.specs.declared.ids.Ref.{Ref}
use Rattle.pt_signal.specs.declared.item.Item.{Item}
use Rattle.pt_signal.specs.declared.signal.Signal.{Signal}
use Rattle.pt_events.specs.declared.event.Event.{Event}
use Rattle.pt_shard.specs.ShardState.{lives, state_in}
use Rattle.pt_shard.specs.Calls.{Calls, Monitors, Bears, BearsChild, link_event, unlink_event, first_match}
use Rattle.pt_shard.specs.Calls.{take_event, demonitor_event, new_ref}
use Rattle.pt_desk.specs.declared.turned.Turned.{Turned}
use Rattle.pt_desk.specs.DeskState.{DeskState}
use Rattle.pt_desk.specs.Reaching.{Reaches, has_link_to_make, has_monitor_to_make}
use Rattle.pt_node.specs.declared.node_fault.NodeFault.{NodeFault}
use Rattle.pt_workers.specs.declared.stillness.Rested.{Rested}
use Rattle.pt_node.specs.Node.{CallsAt, CallsTo, Inside, TurnsAll, TurnsAt}
use Rattle.pt_workers.specs.Stillness.{AreStill, RunsRounds, StoppedAt}
use Rattle.pt_shell.specs.declared.lines.call.Act.{Act}
use Rattle.pt_shell.specs.declared.answer.Answer.{Answer}

-- the answer is of this kind, and what it holds is so
abbrev pub IfMade : Answer → (Result Pid NodeFault → Type 0) → Type 0
IfMade (Answer.Made r) P = P r
IfMade _ P = ⊥

abbrev pub IfDone : Answer → (Result (Unit {0}) NodeFault → Type 0) → Type 0
IfDone (Answer.Done r) P = P r
IfDone _ P = ⊥

abbrev pub IfNamed : Answer → (Result Ref NodeFault → Type 0) → Type 0
IfNamed (Answer.Named r) P = P r
IfNamed _ P = ⊥

abbrev pub IfTold : Answer → (Result Bool NodeFault → Type 0) → Type 0
IfTold (Answer.Told r) P = P r
IfTold _ P = ⊥

abbrev pub IfTaken : Answer → (Result (Option Item) NodeFault → Type 0) → Type 0
IfTaken (Answer.Taken r) P = P r
IfTaken _ P = ⊥

abbrev pub IfTurned : Answer → (Result Turned NodeFault → Type 0) → Type 0
IfTurned (Answer.Turned r) P = P r
IfTurned _ P = ⊥

abbrev pub IfTurnedAll : Answer → (Turned → Type 0) → Type 0
IfTurnedAll (Answer.Turned (Ok t)) P = P t
IfTurnedAll _ P = ⊥

abbrev pub IfRested : Answer → (Rested → Type 0) → Type 0
IfRested (Answer.Rested r) P = P r
IfRested _ P = ⊥

-- rounds of turns until nothing waits, or a turn was stopped
pub record Rests (budget : ℕ) (old : List DeskState) (did : Rested) (new : List DeskState) : Type 0 where
  pub rounds : RunsRounds (max budget 1) old did new
  pub still : did.stopped ≡ None → AreStill new
  pub stopped : IfSome did.stopped (λ s. StoppedAt (max budget 1) s new)

-- each call answers what the node's call of that name does, and leaves what that leaves
abbrev pub DoesAct : Act → List DeskState → Answer → List DeskState → Type 0
DoesAct (Act.Spawn desk) old a new = IfMade a (λ r. CallsAt desk (Inside (Bears None None)) old r new)
DoesAct (Act.SpawnChild parent linked) old a new =
    IfMade a (λ r. CallsAt parent.shard (Inside (BearsChild parent linked)) old r new)
DoesAct (Act.Send from to body) old a new =
    IfDone a (λ r. CallsTo from.shard to
    (λ x s y. Reaches (lives x.shard from) from to
    (Calls from (Some (Event.Said from to (Signal.Message body))) tt x.shard s y.shard) x s y) old r new)
DoesAct (Act.ExitSignal from to reason) old a new =
    IfDone a (λ r. CallsTo from.shard to
    (Inside (λ x s y. Calls from (Some (Event.Said from to (Signal.Exit reason))) tt x s y)) old r new)
DoesAct (Act.Link p to) old a new =
    IfDone a (λ r. CallsTo p.shard to
    (λ x s y. Reaches (has_link_to_make x.shard p to) p to (Calls p (link_event x.shard p to) tt x.shard s y.shard) x s y)
    old r new)
DoesAct (Act.Unlink p to) old a new =
    IfDone a (λ r. CallsTo p.shard to (Inside (λ x s y. Calls p (unlink_event x p to) tt x s y)) old r new)
DoesAct (Act.Trap p on) old a new =
    IfTold a (λ r. CallsAt p.shard (Inside (λ x s y. Calls p (Some (Event.Flag p on)) (state_in x p).traps x s y)) old r new)
DoesAct (Act.Exit p reason) old a new =
    IfDone a (λ r. CallsAt p.shard (Inside (λ x s y. Calls p (Some (Event.Left p reason)) tt x s y)) old r new)
DoesAct (Act.Monitor w t) old a new =
    IfNamed a (λ r. CallsTo w.shard t
    (λ x s y. Reaches (has_monitor_to_make x.shard w t) w t (Monitors w t x.shard s y.shard) x s y) old r new)
DoesAct (Act.Demonitor w m flush) old a new =
    IfTold a (λ r. CallsAt w.shard
    (Inside (λ x s y. Calls w (demonitor_event x w m flush) (is_some (demonitor_event x w m flush)) x s y)) old r new)
DoesAct (Act.AskAlive p t) old a new =
    IfNamed a (λ r. CallsTo p.shard t
    (Inside (λ x s y. Calls p (Some (Event.Said p t (Signal.AliveAsk (new_ref x)))) (new_ref x) x s y)) old r new)
DoesAct (Act.Receive p pick) old a new =
    IfTaken a (λ r. CallsAt p.shard (Inside (λ x s y. Calls p (take_event x p pick) (first_match x p pick) x s y)) old r new)
DoesAct (Act.Turn desk budget) old a new = IfTurned a (λ r. TurnsAt desk budget old r new)
DoesAct (Act.TurnAll budget) old a new = IfTurnedAll a (λ t. TurnsAll budget (length old) old t new)
DoesAct (Act.TurnUntilStill budget) old a new = IfRested a (λ r. Rests budget old r new)
