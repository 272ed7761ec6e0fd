-- The first item that fits is taken, or none does.
use Rattle.std.proofs.Common.{◌≡◌, ℕ, ◌+◌, ◌<◌, ◌^◌, [], Option, Some, None, Result, Ok, Err, length, inl, inr, refl, ◌∙◌, arith}
use Rattle.std.specs.Result.{IsErr, IsErrAnd}
use Rattle.std.specs.List.{find, slice_get}
use Rattle.std.proofs.lemmas.Option.{slice_get_cases}
use Rattle.pt_signal.specs.declared.pid.Pid.{Pid}
use Rattle.pt_signal.specs.declared.item.Item.{Item}
use Rattle.pt_signal.specs.declared.item.Pick.{Pick}
use Rattle.pt_signal.specs.Values.{fits, without_first}
use Rattle.pt_events.specs.declared.event.Event.TheVariants.{Took}
use Rattle.pt_process.specs.ProcessView.{ProcessView}
use Rattle.pt_shard.specs.declared.fault.Fault.{Fault}
use Rattle.pt_shard.specs.declared.stop.Stop.{Stop}
use Rattle.pt_shard.specs.declared.stop.Stop.TheVariants.{Memory, Worn}
use Rattle.pt_shard.specs.Faults.{fault_of}
use Rattle.pt_shard.specs.LedgerState.{LedgerState, HasNoNeed, Prepares, wrote}
use Rattle.pt_shard.specs.Acts.{Acts, taking}

module _ (p : Pid) (k : Pick) (was : ProcessView) (ledger ledger' : LedgerState) where
  -- what that makes of the process and the ledger, where this is what is found
  abbrev Takes : Option Item → Result (Option Item) Fault → ProcessView → Type 0
  Takes found r now = Acts (taking p k was.state) found was ledger r now ledger'

  pub none_taken : find (fits k) was.state.waiting ≡ None → Acts (taking p k was.state) (find (fits k) was.state.waiting) was ledger (Ok None) was ledger
  none_taken none = rw none (refl, (refl, refl, refl))

  pub one_taken : (i : Item) (now : ProcessView) → find (fits k) was.state.waiting ≡ Some i → ledger.book.clock < 2 ^ 62 → now.me ≡ was.me
      → now.state ≡ record was.state { waiting = without_first (fits k) was.state.waiting } → ledger'.book ≡ wrote (ledger.book.clock + 1) (Took p k i) [] ledger.book
      → Takes (find (fits k) was.state.waiting) (Ok (Some i)) now
  one_taken i now one can me state book = rw one (can, refl, me, state, book)

  refused : (i : Item) → find (fits k) was.state.waiting ≡ Some i → (s : Stop) → Prepares 0 HasNoNeed ledger (Err s) ledger' → (r : Result (Option Item) Fault) → IsErr r × IsErrAnd r (λ f. f ≡ fault_of s)
      → Takes (find (fits k) was.state.waiting) r was
  refused i one s h (Ok x) err = absurd (cc)
  refused i one Worn h (Err f) err = rw (one, err.1) (let n = h.1 in omega arith, (refl, refl, h.0))
  refused i one Memory h (Err f) err = rw (one, err.1) (let n = h.1 in omega arith, (refl, refl, h.0))

  pub not_taken : (place : ℕ) → place < length was.state.waiting → find (fits k) was.state.waiting ≡ slice_get was.state.waiting place
      → (s : Stop) → Prepares 0 HasNoNeed ledger (Err s) ledger' → (r : Result (Option Item) Fault) → IsErr r × IsErrAnd r (λ f. f ≡ fault_of s)
      → Takes (find (fits k) was.state.waiting) r was
  not_taken place within first = elim (slice_get_cases was.state.waiting place).1 [ inl here ↦ refused here.0 (first ∙ here.2) | inr past ↦ absurd (omega (arith, within, past)) ]
