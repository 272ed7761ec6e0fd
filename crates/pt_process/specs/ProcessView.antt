-- A process, and what it owes once it has ended, as their owner sees them.
use Rattle.std.specs.Prelude.{ℕ, List}
use Rattle.pt_signal.specs.declared.item.Item.{Item}
use Rattle.pt_signal.specs.declared.pid.Pid.{Pid}
use Rattle.pt_signal.specs.declared.reason.Reason.{Reason}
use Rattle.pt_signal.specs.Process.{ProcessState, Sent, estate}

pub record ProcessView : Type 0 where
  pub me : Pid
  pub state : ProcessState
  -- how many more links it surely takes without memory
  pub room : ℕ

-- what an ended process owes, each signal from itself, and what it leaves
pub record Owing : Type 0 where
  pub from : Pid
  pub owed : List Sent
  -- the items that waited in its mailbox, the oldest first
  pub waiting : List Item

-- what a process leaves that ends with this reason
abbrev pub owing_of : Pid → ProcessState → Reason → Owing
owing_of me s r = record { from = me; owed = estate me s r; waiting = s.waiting }
