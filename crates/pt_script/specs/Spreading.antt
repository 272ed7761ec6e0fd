-- A script on one desk for each of its processes.
use Rattle.std.specs.Prelude.{ℕ, ◌+◌, ◌==◌, ◌&&◌, Bool, not, List, [], ◌∷◌, Option, Some, None, if◌then◌else◌, length, max, nat_lt}
use Rattle.pt_script.specs.Plans.{Whole}
use Rattle.pt_script.specs.declared.limits.TheConstants.{MAX_DESKS}
use Rattle.pt_script.specs.declared.values.Top.{Top}

-- the first process on this desk, and each other one on the desk behind
abbrev pub placed : ℕ → List Top → List Top
placed desk [] = []
placed desk (t ∷ ts) = record t { desk = desk } ∷ placed (desk + 1) ts

-- the script begins with each of its processes, so none is spawned, and there are desks enough
abbrev pub can_spread : Whole → Bool
can_spread w = (length w.tops == length w.processes) && not (nat_lt MAX_DESKS (length w.tops))

-- the same settings but for the desks, the same processes, and each of these on a desk of its own, in their order
abbrev pub on_own_desks : Whole → Whole
on_own_desks w = record w {
  settings = record w.settings { desks = max (length w.tops) 1 };
  tops = placed 0 w.tops;
}

abbrev pub spread : Whole → Option Whole
spread w = if can_spread w then Some (on_own_desks w) else None
