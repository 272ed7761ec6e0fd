-- What a call of a node does to its desks.
use Rattle.std.specs.Prelude.{◌≡◌, ℕ, zero, suc, ◌+◌, ◌-◌, ◌^◌, ◌<◌, ◌≤◌, false, true, min, Option, Some, None, List}
use Rattle.std.specs.Prelude.{length, slice_index_or, Result, Ok, Err}
use Rattle.pt_signal.specs.declared.pid.Pid.{Pid}
use Rattle.pt_signal.specs.declared.config.Config.{Config}
use Rattle.pt_signal.specs.declared.config.OpenError.{OpenError}
use Rattle.pt_signal.specs.declared.config.OpenError.TheVariants.{Bounds, Memory}
use Rattle.pt_shard.specs.declared.fault.Fault.{Fault}
use Rattle.pt_shard.specs.declared.stop.Stop.{Stop}
use Rattle.pt_shard.specs.Known.{knows}
use Rattle.pt_signal.specs.Settings.{IsFirstOut, IsInRange}
use Rattle.pt_shard.specs.ShardState.{ShardState}
use Rattle.pt_desk.specs.DeskState.{DeskState, HasSameEnds}
use Rattle.pt_desk.specs.declared.turned.Turned.{Turned}
use Rattle.pt_desk.specs.Turns.{Turns}
use Rattle.pt_workers.specs.Desks.{OnDesk}
use Rattle.pt_node.specs.Opening.{AreFresh}
use Rattle.pt_node.specs.declared.node_fault.NodeFault.{NodeFault}
use Rattle.pt_node.specs.declared.node_fault.NodeFault.TheVariants.{NoDesk, Unknown, Refused}

-- a new node has the desks of one opening, on which nothing has happened
abbrev pub OpensNode : Config → Result (List DeskState) OpenError → Type 0
OpensNode config (Ok desks) = IsInRange config × AreFresh config desks
OpensNode config (Err (Bounds setting)) = (¬ IsInRange config) × IsFirstOut config setting
OpensNode config (Err Memory) = IsInRange config

-- what a desk's call does where it reads nothing of its directory
abbrev pub Inside : {A : Type 0} → (ShardState → Result A Fault → ShardState → Type 0) → DeskState → Result A Fault
    → DeskState → Type 0
Inside Does old result new = Does old.shard result new.shard × (new.sight ≡ old.sight)

-- the answer of a desk, as the node gives it
abbrev pub node_answered : {A : Type 0} → Result A Fault → Result A NodeFault
node_answered (Ok a) = Ok a
node_answered (Err f) = Err (Refused f)

-- a call of desk d, which does what the desk's own call does
abbrev pub CallsAt : {A : Type 0} → ℕ → (DeskState → Result A Fault → DeskState → Type 0) → List DeskState
    → Result A NodeFault → List DeskState → Type 0
CallsAt d Does old (Ok a) new = OnDesk d (λ x y. Does x (Ok a) y × HasSameEnds x y) old new
CallsAt d Does old (Err NoDesk) new = (length old ≤ d) × (new ≡ old)
CallsAt d Does old (Err Unknown) new = ⊥
CallsAt d Does old (Err (Refused f)) new = OnDesk d (λ x y. Does x (Err f) y × HasSameEnds x y) old new

-- the same with a target: one that the desk does not know is refused
abbrev pub CallsTo : {A : Type 0} → ℕ → Pid → (DeskState → Result A Fault → DeskState → Type 0) → List DeskState
    → Result A NodeFault → List DeskState → Type 0
CallsTo d to Does old (Ok a) new =
    OnDesk d (λ x y. (knows x.shard to ≡ true) × Does x (Ok a) y × HasSameEnds x y) old new
CallsTo d to Does old (Err NoDesk) new = (length old ≤ d) × (new ≡ old)
CallsTo d to Does old (Err Unknown) new =
    (d < length old) × ((x : DeskState) → knows (slice_index_or old d x).shard to ≡ false) × (new ≡ old)
CallsTo d to Does old (Err (Refused f)) new =
    OnDesk d (λ x y. (knows x.shard to ≡ true) × Does x (Err f) y × HasSameEnds x y) old new

-- a turn of desk d
abbrev pub TurnsAt : ℕ → ℕ → List DeskState → Result Turned NodeFault → List DeskState → Type 0
TurnsAt d budget old (Ok turn) new = OnDesk d (λ x y. Turns budget x turn y) old new
TurnsAt d budget old (Err NoDesk) new = (length old ≤ d) × (new ≡ old)
TurnsAt d budget old (Err Unknown) new = ⊥
TurnsAt d budget old (Err (Refused f)) new = ⊥

-- the stop of turns is that of the first which stopped
abbrev pub first_stop : Option Stop → Option Stop → Option Stop
first_stop None next = next
first_stop (Some stop) next = Some stop

-- what turns did together with the one after them
abbrev pub both_turned : Turned → Turned → Turned
both_turned before next = record {
  posted = min (before.posted + next.posted) (2 ^ 64 - 1);
  handled = min (before.handled + next.handled) (2 ^ 64 - 1);
  stopped = first_stop before.stopped next.stopped;
}

-- a turn of each of the first n desks, from desk 0 upwards
abbrev pub TurnsAll : ℕ → ℕ → List DeskState → Turned → List DeskState → Type 0
TurnsAll budget zero old turned new = (turned ≡ record { posted = 0; handled = 0; stopped = None }) × (new ≡ old)
TurnsAll budget (suc d) old turned new =
    (mid : List DeskState) × (before : Turned) × (next : Turned) × TurnsAll budget d old before mid
    × OnDesk d (λ x y. Turns budget x next y) mid new
    × (turned ≡ both_turned before next)

-- what is read of desk d, and what is answered where the node has no such desk
pub record ReadsAt {A : Type 0} (d : ℕ) (reads : DeskState → A) (none : A) (desks : List DeskState)
    (result : A) : Type 0 where
  pub there : (x : DeskState) → d < length desks → result ≡ reads (slice_index_or desks d x)
  pub beyond : length desks ≤ d → result ≡ none
