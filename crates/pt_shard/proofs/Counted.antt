-- How many live on a desk: as many as slots are taken.
use Rattle.std.proofs.Common.{◌≡◌, ℕ, Bool, true, false, cond, count_by, Option, Some, None, refl, sym, ap, ◌∙◌}
use Rattle.std.specs.Prelude.{is_some}
use Rattle.std.specs.List.{range_with_len}
use Rattle.std.proofs.lemmas.Bool.{eq-eqb}
use Rattle.pt_signal.specs.declared.pid.Pid.{Pid}
use Rattle.pt_slots.specs.State.{at, issued}
use Rattle.pt_slots.specs.Taken.{taken_slots}
use Rattle.pt_process.specs.ProcessView.{ProcessView}
use Rattle.pt_events.specs.History.{Phase, unborn, living, ended, is_living}
use Rattle.pt_shard.specs.ShardState.{lives, phase_of}
use Rattle.pt_shard.specs.Fit.{latest_pid}
use Rattle.pt_shard.specs.Living.{living_in, living_count}
use Rattle.pt_shard.specs.Sound.{of_phase}
use Rattle.pt_shard.specs.Processes.{Table, process_at}
use Rattle.pt_shard.specs.Reading.{read_of}
use Rattle.pt_shard.specs.Whole.{Parts, shard_of, IsWhole}

is_seen : (o : Option ProcessView) → is_some (read_of o) ≡ is_some o
is_seen None = refl
is_seen (Some v) = refl

of_living : (p : Pid) (f : Phase) → is_some (of_phase p f) ≡ is_living f
of_living p unborn = refl
of_living p (living s) = refl
of_living p (ended r s) = refl

chosen : (b : Bool) (p : Pid) → is_some (cond b (Some p) None) ≡ b
chosen true p = refl
chosen false p = refl

found_here : (desk : ℕ) (table : Table) (p : Pid) → p.shard ≡ desk → is_some (process_at desk table p) ≡ is_some (at table p.slot p.version)
found_here desk table p home = rw (eq-eqb p.shard desk home) (is_seen (at table p.slot p.version))

-- in a slot the table has a process where the journal has one that lives in it
in_slot : (a : Parts) → IsWhole a → (slot : ℕ) → is_some (at a.processes.table slot (issued a.processes.table slot)) ≡ is_some (living_in (shard_of a) slot)
in_slot a whole slot =
    let p : Pid = latest_pid (shard_of a) slot in
    let version : issued a.processes.table slot ≡ p.version = whole.sound.issues slot in
    ap (λ v. is_some (at a.processes.table slot v)) version
    ∙ sym (found_here a.processes.desk a.processes.table p refl)
    ∙ ap is_some (whole.sound.processes p)
    ∙ of_living p (phase_of (shard_of a) p)
    ∙ sym (chosen (lives (shard_of a) p) p)

pub living_counted : (a : Parts) → IsWhole a → taken_slots a.processes.table ≡ living_count (shard_of a)
living_counted a whole =
    ap (λ n. count_by (λ slot. is_some (at a.processes.table slot (issued a.processes.table slot))) (range_with_len 0 n)) whole.capacity
    ∙ (λ i. count_by (λ slot. in_slot a whole slot i) (range_with_len 0 a.config.slots))
