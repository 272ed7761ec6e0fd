-- Which exits the desks of a printed history have seen: those by which a call of theirs was refused.
use Rattle.std.specs.Prelude.{ℕ, ◌==◌, nat_le, Bool, false, ◌&&◌, ◌||◌, Option, Some, None, List, [], ◌∷◌}
use Rattle.std.specs.Map.{lookup}
use Rattle.pt_signal.specs.declared.pid.Pid.{Pid}
use Rattle.pt_events.specs.declared.event.Event.{Event}
use Rattle.pt_events.specs.declared.event.Event.TheVariants.{Refused}
use Rattle.pt_events.specs.History.{Past}

-- desk d, and p's desk and slot
abbrev pub is_slot_of : ℕ → Pid → ℕ × ℕ × ℕ → Bool
is_slot_of d p slot = (d == slot.0) && (p.shard == slot.1) && (p.slot == slot.2)

-- a call of desk d was refused that went to p, or to a later process of p's slot
abbrev pub shows_end : ℕ → Pid → Event → Bool
shows_end d p (Refused a b) = is_slot_of d p (a.shard, b.shard, b.slot) && nat_le p.version b.version
shows_end d p _ = false

-- by such a call desk d has seen that p has exited
abbrev pub has_seen : Past → ℕ → Pid → Bool
has_seen [] d p = false
has_seen (e ∷ past) d p = shows_end d p e || has_seen past d p

-- what the functions of the crate say of it ---------------------------------------------------

-- by a desk, and the desk and the slot of a process: the highest version of which it has seen that it has exited
abbrev pub SeenSlots : Type 0
SeenSlots = List ((ℕ × ℕ × ℕ) × ℕ)

abbrev pub is_upto : ℕ → Option ℕ → Bool
is_upto version None = false
is_upto version (Some top) = nat_le version top

abbrev pub is_noted : SeenSlots → ℕ → Pid → Bool
is_noted noted d p = is_upto p.version (lookup (is_slot_of d p) noted)
