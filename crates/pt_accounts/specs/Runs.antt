-- Runs of equal reasons, and the list of reasons that they stand for.
use Rattle.std.specs.Prelude.{◌≡◌, ℕ, ◌-◌, ◌<◌, Bool, false, List, [], ◌∷◌, ◌++◌, replicate, Option, Some, ⊤}
use Rattle.pt_signal.specs.declared.reason.Reason.{Reason}
use Rattle.pt_signal.specs.contracts.reason.ReasonPartialEq.TheImpl.{ghosts as of_reason}
use Rattle.pt_accounts.specs.declared.reasons.Run.{Run}

pub record ReasonsState : Type 0 where
  -- the reasons, the first one in front
  pub listed : List Reason
  -- for how many runs there is room
  pub room : ℕ

-- the reasons of the runs that begin behind n reasons
abbrev pub expanded : ℕ → List Run → List Reason
expanded n [] = []
expanded n (run ∷ runs) = replicate (run.up_to - n) run.reason ++ expanded run.up_to runs

-- runs behind n reasons, the last of which is the one given: no run is empty, and none has the reason before it
abbrev pub AreRuns : ℕ → Option Reason → List Run → Type 0
AreRuns n before [] = ⊤
AreRuns n before (run ∷ runs) =
    (n < run.up_to) × (before ≡ Some run.reason → ⊥) × AreRuns run.up_to (Some run.reason) runs

-- the last run is of this reason
abbrev pub last_is : Reason → List Run → Bool
last_is r [] = false
last_is r (run ∷ []) = of_reason.eq run.reason r
last_is r (run ∷ next ∷ runs) = last_is r (next ∷ runs)
