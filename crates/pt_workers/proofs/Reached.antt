-- A call that reaches for another process, told without what the desk has read.
use Rattle.std.proofs.Common.{ℕ, inl, inr, Bool, true, false, Option, Some, None, Result, refl}
use Rattle.std.specs.Prelude.{IsErrAnd, MatchOption}
use Rattle.pt_signal.specs.declared.pid.Pid.{Pid}
use Rattle.pt_shard.specs.declared.fault.Fault.{Fault}
use Rattle.pt_shard.specs.Calls.{Refuses}
use Rattle.pt_desk.specs.DeskState.{DeskState}
use Rattle.pt_desk.specs.Reaching.{Reaches, IsReached}

looked : {A : Type 0} (p t : Pid) (call : Type 0) (old : DeskState) (answer : Result A Fault) (new : DeskState) (seen : Option ℕ)
    → MatchOption seen call (λ n. IsErrAnd answer (λ f. Refuses p t n old.shard f new.shard)) → IsReached true p t call old.shard answer new.shard
looked p t call old answer new None does = inl does
looked p t call old answer new (Some n) does = inr (refl, n, does)

pub reached : {A : Type 0} (looks : Bool) (p t : Pid) (call : Type 0) (old : DeskState) (answer : Result A Fault) (new : DeskState) → Reaches looks p t call old answer new → IsReached looks p t call old.shard answer new.shard
reached true p t call old answer new h = looked p t call old answer new h.seen h.does
reached false p t call old answer new h = inl h.0
