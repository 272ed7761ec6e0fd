-- What the calls answer, told by the parts of the desk before and after.
use Rattle.std.proofs.Common.{◌≡◌, ℕ, true, false, Option, Some, IsSome, refl, sym, subst, arith}
use Rattle.std.specs.Prelude.{Result, Ok, Err}
use Rattle.std.specs.Result.{IsErr, IsErrAnd}
use Rattle.pt_signal.specs.declared.pid.Pid.{Pid}
use Rattle.pt_signal.specs.declared.ids.Ref.{Ref}
use Rattle.pt_signal.specs.declared.signal.Signal.TheVariants.{Monitor}
use Rattle.pt_signal.specs.Values.{same_pid}
use Rattle.pt_events.specs.declared.event.Event.{Event}
use Rattle.pt_events.specs.declared.event.Event.TheVariants.{Said}
use Rattle.pt_shard.specs.declared.fault.Fault.TheVariants as fault
use Rattle.pt_shard.specs.declared.stop.Stop.{Stop}
use Rattle.pt_shard.specs.declared.stop.Stop.TheVariants as stop
use Rattle.pt_shard.specs.Faults.{fault_of}
use Rattle.pt_shard.specs.ShardState.{ShardState, lives}
use Rattle.pt_shard.specs.declared.fault.Fault.{Fault}
use Rattle.pt_shard.specs.LedgerState.{Book, LedgerState, Prepares}
use Rattle.pt_shard.specs.Processes.{ProcessesState, IsSameTable}
use Rattle.pt_shard.specs.Whole.{Parts, parts_of, shard_of}
use Rattle.pt_shard.specs.Calls.{Calls, Monitors, new_ref}

module _ {A : Type 0} (p : Pid) (event : Option Event) (answer : A) (old new : ShardState) where
  -- the ledger could not be prepared
  pub not_prepared : (e : Event) (ledger prepared : LedgerState) (s : Stop) (HasRoom : LedgerState → Type 0) → old.clock ≡ ledger.book.clock → Prepares 0 HasRoom ledger (Err s) prepared → lives old p ≡ true → event ≡ Some e → new ≡ old
      → (r : Result A Fault) → IsErr r × IsErrAnd r (λ f. f ≡ fault_of s) → Calls p event answer old r new
  not_prepared e ledger prepared stop.Worn HasRoom clock h alive is left (Ok a) err = absurd (cc)
  not_prepared e ledger prepared stop.Memory HasRoom clock h alive is left (Ok a) err = absurd (cc)
  not_prepared e ledger prepared stop.Worn HasRoom clock h alive is left (Err f) err =
      subst (λ x. Calls p event answer old (Err x) new) (sym err.1) (alive, subst IsSome (sym is) refl, let k = h.1 in omega arith, left)
  not_prepared e ledger prepared stop.Memory HasRoom clock h alive is left (Err f) err =
      subst (λ x. Calls p event answer old (Err x) new) (sym err.1) (alive, subst IsSome (sym is) refl, let k = h.1 in omega arith, left)

-- refusals ---------------------------------------------------------------------------------

pub same_book : (floor : ℕ) (HasRoom : LedgerState → Type 0) (old new : LedgerState) (s : Stop) → Prepares floor HasRoom old (Err s) new → new.book ≡ old.book
same_book floor HasRoom old new stop.Worn h = h.0
same_book floor HasRoom old new stop.Memory h = h.0

-- a desk whose slots were only made roomier
pub still : (a : Parts) (book : Book) (processes : ProcessesState) → book ≡ a.book → processes.desk ≡ a.processes.desk → IsSameTable a.processes.table processes.table → shard_of (parts_of a.config book processes) ≡ shard_of a
still a book processes b d same = rw (b, d, same.next) refl

-- a monitor of another process
pub monitors : (w t : Pid) (old new : ShardState) → same_pid w t ≡ false → (r : Result Ref Fault)
    → Calls w (Some (Said w t (Monitor (new_ref old)))) (new_ref old) old r new → Monitors w t old r new
monitors w t old new other (Ok m) h = (other, h)
monitors w t old new other (Err fault.Gone) h = h
monitors w t old new other (Err fault.Worn) h = (h.0, other, h.2, h.3)
monitors w t old new other (Err fault.Memory) h = (h.0, other, h.2, h.3)
monitors w t old new other (Err f) h = absurd h
