-- The calls of a behaviour: how the desk answered.
use Rattle.std.proofs.Common.{◌≡◌, Bool, true, Result, sym, subst}
use Rattle.pt_shard.specs.declared.fault.Fault.{Fault}
use Rattle.pt_desk.specs.DeskState.{DeskState}
use Rattle.pt_behaviour.specs.declared.call_fault.CallFault.{CallFault}
use Rattle.pt_behaviour.specs.Telling.{call_answered, IfKnown}

-- the desk knows the target, and was called
pub is_answered : {A : Type 0} (known : Bool) (Does : Result A Fault → Type 0) (old : DeskState) (answer : Result A Fault) (result : Result A CallFault) (new : DeskState)
    → known ≡ true → Does answer → result ≡ call_answered answer → IfKnown known Does old result new
is_answered known Does old answer result new is does gives =
    subst (λ (b : Bool). IfKnown b Does old result new) (sym is) (answer, does, gives)
