-- One process, as the walk over its desk's journal knows it.
use Rattle.std.specs.Prelude.{ℕ, ◌+◌, length}
use Rattle.pt_signal.specs.declared.pid.Pid.{Pid}
use Rattle.pt_events.specs.History.{Phase, reason_of, state_of}
use Rattle.pt_accounts.specs.declared.account.Account.{Account}

-- what it is, and how many items it took
pub record LifeState : Type 0 where
  pub pid : Pid
  pub phase : Phase
  pub taken : ℕ

-- what is told of it
abbrev pub account_of : LifeState → Account
account_of l = record {
  ended = reason_of l.phase;
  arrived = l.taken + length (state_of l.phase).waiting;
  taken = l.taken;
  waiting = length (state_of l.phase).waiting;
}
