-- Which pids a desk knows: the ones that may be the target of a call.
use Rattle.std.specs.Prelude.{◌≡◌, ◌≢◌, ℕ, Bool, true, ◌&&◌, ◌||◌, not, ◌==◌, nat_lt, nat_le, cond, max, [], ◌∷◌}
use Rattle.pt_signal.specs.declared.pid.Pid.{Pid}
use Rattle.pt_events.specs.declared.event.Event.TheVariants.{Born}
use Rattle.pt_events.specs.History.{Past, Start, is_unborn}
use Rattle.pt_signal.specs.declared.config.Config.{Config}
use Rattle.pt_shard.specs.ShardState.{ShardState, past}

-- the latest version of a slot that was born before the first event
abbrev pub issued_at : Start → ℕ → ℕ
issued_at [] slot = 0
issued_at (b ∷ start) slot = max (cond ((b.0.slot == slot) && not (is_unborn b.1)) b.0.version 0) (issued_at start slot)

-- the latest version of a slot that was born
abbrev pub issued_in : Start → Past → ℕ → ℕ
issued_in start [] slot = issued_at start slot
issued_in start (Born p parent link ∷ past) slot = cond (p.slot == slot) p.version (issued_in start past slot)
issued_in start (e ∷ past) slot = issued_in start past slot

-- its numbers are in the node's ranges
abbrev pub is_in_node : Config → Pid → Bool
is_in_node c p =
    (nat_lt p.shard c.desks && nat_lt p.slot c.slots) && (nat_lt 0 p.version && nat_le p.version c.top_version)

-- if it is of this desk, its version was issued
abbrev pub is_not_ahead : ShardState → Pid → Bool
is_not_ahead d p = not (p.shard == d.number) || nat_le p.version (issued_in d.start (past d) p.slot)

abbrev pub knows : ShardState → Pid → Bool
knows d p = is_in_node d.config p && is_not_ahead d p

-- what a desk knows, each other desk of its node knows, unless the pid is of that one
abbrev pub IsKnownToOthers : Type 0
IsKnownToOthers =
    (d e : ShardState) (p : Pid) → e.config ≡ d.config → knows d p ≡ true → p.shard ≢ e.number → knows e p ≡ true
