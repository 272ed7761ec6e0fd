-- The processes of one desk by slot and version, from the first version of each slot on.
use Rattle.std.specs.Prelude.{◌≡◌, ℕ, zero, suc, ◌==◌, cond, List, [], length, slice_get, slice_index_or, Option, Some}
use Rattle.std.specs.Prelude.{None, false}
use Rattle.pt_signal.specs.declared.pid.Pid.{Pid}
use Rattle.pt_events.specs.History.{Past, Start, unborn, life, is_unborn}
use Rattle.pt_events.specs.Takes.{taken}
use Rattle.pt_accounts.specs.LifeState.{LifeState}

abbrev pub Slots : Type 0
Slots = List (List LifeState)

-- the life of one version of a slot; the first version is 1
abbrev pub of_version : List LifeState → ℕ → Option LifeState
of_version lives zero = None
of_version lives (suc k) = slice_get lives k

abbrev pub slot_at : Slots → ℕ → List LifeState
slot_at slots s = slice_index_or slots s []

abbrev pub life_at : Slots → ℕ → ℕ → Option LifeState
life_at slots s v = of_version (slot_at slots s) v

abbrev pub of_version_in : Option (List LifeState) → ℕ → Option LifeState
of_version_in None v = None
of_version_in (Some lives) v = of_version lives v

-- the life that a desk's table has for p
abbrev pub found : ℕ → Slots → Pid → Option LifeState
found desk slots p = cond (p.shard == desk) (life_at slots p.slot p.version) None

-- what the table has for p is what the history says of p
abbrev pub TableTells : Start → Past → Pid → Option LifeState → Type 0
TableTells start past p None = (life start past p ≡ unborn) × (taken past p ≡ [])
TableTells start past p (Some l) = (l ≡ record {
  pid = p;
  phase = life start past p;
  taken = length (taken past p);
}) × (is_unborn (life start past p) ≡ false)

-- so of each pid of the desk
abbrev pub AreTold : Start → ℕ → Slots → Past → Type 0
AreTold start desk slots past = (p : Pid) → p.shard ≡ desk → TableTells start past p (found desk slots p)
