-- Who lives in a slot.
use Rattle.std.proofs.Common.{◌≡◌, ◌==◌, ℕ, Bool, true, false, cond, Option, Some, None, refl, sym, ap, ◌∙◌}
use Rattle.std.specs.Prelude.{is_some, slice_index_or, unwrap_or}
use Rattle.std.proofs.lemmas.Bool.{eqb-true}
use Rattle.pt_signal.specs.declared.pid.Pid.{Pid}
use Rattle.pt_slots.specs.State.{SlotsState, at, issued}
use Rattle.pt_process.specs.ProcessView.{ProcessView}
use Rattle.pt_events.specs.History.{Phase, unborn, living, ended, is_living}
use Rattle.pt_shard.specs.ShardState.{lives, phase_of}
use Rattle.pt_shard.specs.Sound.{of_phase}
use Rattle.pt_shard.specs.Processes.{Table, process_at}
use Rattle.pt_shard.specs.Reading.{read_of}
use Rattle.pt_shard.specs.Whole.{Parts, shard_of, IsWhole}

-- what is live in a slot has the slot's latest version
live_latest : {T : Type 0} (s : SlotsState T) (slot version : ℕ) → is_some (at s slot version) ≡ true → issued s slot ≡ version
unfolding at issued
live_latest s slot version h = go (slice_index_or s.versions slot 0 == version) refl h
  where
    go : (b : Bool) → (slice_index_or s.versions slot 0 == version) ≡ b → is_some (cond b (unwrap_or (slice_index_or s.slots slot None) None) None) ≡ true → slice_index_or s.versions slot 0 ≡ version
    go true e k = eqb-true (slice_index_or s.versions slot 0) version e
    go false e k = absurd (cc)

phase_seen : (p : Pid) (f : Phase) → is_living f ≡ true → is_some (of_phase p f) ≡ true
phase_seen p unborn h = absurd (cc)
phase_seen p (living s) h = refl
phase_seen p (ended r s) h = absurd (cc)

seen_some : (o : Option ProcessView) → is_some (read_of o) ≡ true → is_some o ≡ true
seen_some None h = absurd (cc)
seen_some (Some v) h = refl

at_home : (desk : ℕ) (table : Table) (p : Pid) → is_some (process_at desk table p) ≡ true → (p.shard ≡ desk) × (is_some (at table p.slot p.version) ≡ true)
at_home desk table p h = go (p.shard == desk) refl h
  where
    go : (b : Bool) → (p.shard == desk) ≡ b → is_some (cond b (read_of (at table p.slot p.version)) None) ≡ true → (p.shard ≡ desk) × (is_some (at table p.slot p.version) ≡ true)
    go true e k = (eqb-true p.shard desk e, seen_some (at table p.slot p.version) k)
    go false e k = absurd (cc)

-- who lives on the desk has the latest version of its slot
pub same_slot : (a : Parts) → IsWhole a → (q p : Pid) → q.shard ≡ a.processes.desk → q.version ≡ issued a.processes.table q.slot
    → lives (shard_of a) p ≡ true → p.slot ≡ q.slot → q ≡ p
same_slot a whole q p desk version h slot =
    let there = at_home a.processes.desk a.processes.table p (ap is_some (whole.sound.processes p) ∙ phase_seen p (phase_of (shard_of a) p) h) in
    let shard_is : q.shard ≡ p.shard = desk ∙ sym there.0 in
    let slot_is : q.slot ≡ p.slot = sym slot in
    let version_is : q.version ≡ p.version = version ∙ ap (issued a.processes.table) slot_is ∙ live_latest a.processes.table p.slot p.version there.1 in
    λ i. record { shard = shard_is i; slot = slot_is i; version = version_is i }
