-- A process that is taken out of the slots.
use Rattle.std.proofs.Common.{◌≡◌, ℕ, Bool, true, false, cond, Some, None, refl, sym, ap, ◌∙◌, subst}
use Rattle.std.specs.Prelude.{IfSome, IsSome}
use Rattle.pt_signal.specs.declared.pid.Pid.{Pid}
use Rattle.pt_signal.specs.declared.reason.Reason.{Reason}
use Rattle.pt_slots.specs.declared.Key.{Key}
use Rattle.pt_slots.specs.State.{at}
use Rattle.pt_slots.specs.Calls.{Removed}
use Rattle.pt_process.specs.ProcessView.{ProcessView, Owing, owing_of}
use Rattle.pt_shard.specs.Processes.{Table, Ends, in_place, is_place_of}
use Rattle.pt_shard.specs.Reading.{read_of}

abbrev key_at : Pid → Key
key_at p = record { slot = p.slot; version = p.version }

key_is : (k : Key) (p : Pid) → k.slot ≡ p.slot → k.version ≡ p.version → k ≡ key_at p
key_is k p s v = λ i. record { slot = s i; version = v i }

removed_at : (p : Pid) (reason : Reason) (r : ProcessView) (owing : Owing) (old new : Table) → owing ≡ owing_of r.me r.state reason
    → Removed (key_at p) r old new → Ends p reason owing old new
removed_at p reason r owing old new owes removed =
    let there : in_place old p ≡ Some (r.me, r.state) = ap read_of removed.was_live in
    record {
      owes = subst (λ o. IfSome o (λ x. owing ≡ owing_of x.0 x.1 reason)) (sym there) owes;
      lived = subst IsSome (sym there) refl;
      puts = record {
        live = λ slot version. go (is_place_of p slot version) slot version refl;
        settings = record { issues = removed.issues; capacity = removed.settings.capacity; top_version = removed.settings.top_version };
      };
      next = removed.next;
      offers = removed.offers;
    }
  where
    go : (b : Bool) (slot version : ℕ) → is_place_of p slot version ≡ b → read_of (at new slot version) ≡ cond (is_place_of p slot version) None (read_of (at old slot version))
    go true slot version h = let e = removed.live slot version in rw h (ap read_of e ∙ rw h refl)
    go false slot version h = let e = removed.live slot version in rw h (ap read_of e ∙ rw h refl)

pub taken_out : (k : Key) (p : Pid) (reason : Reason) (r : ProcessView) (owing : Owing) (old new : Table) → k.slot ≡ p.slot → k.version ≡ p.version
    → owing ≡ owing_of r.me r.state reason → Removed k r old new → Ends p reason owing old new
taken_out k p reason r owing old new s v owes removed = removed_at p reason r owing old new owes (subst (λ x. Removed x r old new) (key_is k p s v) removed)
