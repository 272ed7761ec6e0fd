-- The number of a new monitor fits into a message.
use Rattle.std.proofs.Common.{rules, ◌≡◌, ℕ, ◌<◌, ◌≤◌, ◌^◌, ℤ, pos, to_z, of_z, w64, Bool, true, false, Option, Some, None, Result, Ok, Err, ap, subst, arith}
use Rattle.std.proofs.lemmas.Int.{ints, to_z-of_z, to_z_pos}
use Rattle.std.specs.Prelude.{MatchOption}
use Rattle.std.specs.Result.{IsErrAnd}
use Rattle.pt_signal.specs.declared.pid.Pid.{Pid}
use Rattle.pt_signal.specs.declared.ids.Ref.{Ref}
use Rattle.pt_signal.specs.declared.config.TheConstants.{MAX_STAMP}
use Rattle.pt_shard.specs.declared.fault.Fault.{Fault}
use Rattle.pt_behaviour.specs.declared.call_fault.CallFault.{CallFault}
use Rattle.pt_behaviour.specs.declared.call_fault.CallFault.TheVariants.{Unknown}
use Rattle.pt_behaviour.specs.Telling.{call_answered, Watches, IfKnown}
use Rattle.pt_shard.specs.ShardState.{ShardState}
use Rattle.pt_shard.specs.Known.{knows}
use Rattle.pt_shard.specs.Calls.{Monitors, Refuses}
use Rattle.pt_desk.specs.DeskState.{DeskState}
use Rattle.pt_desk.specs.Reaching.{Reaches, has_monitor_to_make}

abbrev fine : Ref → Result Ref Fault
fine m = Ok m

looked : (w t : Pid) (call : Type 0) (old : ShardState) (m : Ref) (new : ShardState) (seen : Option ℕ)
    → MatchOption seen call (λ n. IsErrAnd (fine m) (λ f. Refuses w t n old f new)) → call
looked w t call old m new None h = h
looked w t call old m new (Some n) h = absurd h

reached : (looks : Bool) (w t : Pid) (call : Type 0) (old : DeskState) (m : Ref) (new : DeskState)
    → Reaches looks w t call old (fine m) new → call
reached true w t call old m new h = looked w t call old.shard m new.shard h.seen h.does
reached false w t call old m new h = h.0

abbrev node_fine : Ref → Result Ref CallFault
node_fine m = Ok m

answered : (Does : Result Ref Fault → Type 0) (m : Ref) (answer : Result Ref Fault) → Does answer → node_fine m ≡ call_answered answer → Does (fine m)
answered Does m (Ok n) h is = let same : n ≡ m = cc in subst (λ (k : Ref). Does (fine k)) same h
answered Does m (Err f) h is = absurd (cc)

known : (is : Bool) (Does : Result Ref Fault → Type 0) (old : DeskState) (m : Ref) (new : DeskState) → IfKnown is Does old (node_fine m) new → Does (fine m)
known true Does old m new h = answered Does m h.0 h.1 h.2
known false Does old m new h = let e : node_fine m ≡ Err Unknown = h.0 in absurd (cc)

made : (w t : Pid) (old : ShardState) (m : Ref) (new : ShardState) → Monitors w t old (fine m) new → m.number ≤ MAX_STAMP
made w t old m new h = omega (arith, h.1.1, ap (λ (n : Ref). n.number) h.1.2)

pub monitor_fits : (w t : Pid) (old : DeskState) (m : Ref) (new : DeskState) → Watches w t old (Ok m) new → m.number < 2 ^ 63
monitor_fits w t old m new h =
    let is : m.number ≤ MAX_STAMP = made w t old.shard m new.shard (reached (has_monitor_to_make old.shard w t) w t _ old m new (known (knows old.shard t) _ old m new h)) in
    omega (arith, is)

-- what a message carries is the number
pub carried : (n : ℤ) (k : ℕ) → n ≡ pos k → k < 2 ^ 63 → to_z w64 (of_z w64 n) ≡ pos k
carried n k is l = first_of (omega (arith, ints), grind (arith, ints, to_z-of_z), search (rules, to_z-of_z, to_z_pos))
