-- What a desk knows of what was before its journal.
use Rattle.std.specs.Prelude.{◌≡◌, ℕ, ◌<◌, ◌≤◌, false, List, [], ◌∷◌, ⊤}
use Rattle.pt_signal.specs.declared.pid.Pid.{Pid}
use Rattle.pt_signal.specs.declared.ids.Ref.{Ref}
use Rattle.pt_signal.specs.declared.ids.Ids.{Ids}
use Rattle.pt_signal.specs.Process.{ProcessState}
use Rattle.pt_events.specs.History.{Phase, Start, living, is_unborn, at_start}

-- P holds of each
abbrev pub Every : {X : Type 0} → (X → Type 0) → List X → Type 0
Every P [] = ⊤
Every P (x ∷ xs) = P x × Every P xs

-- the process that is linked, or that watches, is of a desk of the node
abbrev pub IsPeer : ℕ → Pid × Ids → Type 0
IsPeer desks e = e.0.shard < desks

abbrev pub IsWatch : ℕ → Ref × Pid → Type 0
IsWatch desks e = e.1.shard < desks

-- so are all that a live process has to do with; W holds of each of its open monitors, a reference and its target
module _ (desks : ℕ) (W : Ref × Pid → Type 0) where
  pub record IsNearState (s : ProcessState) : Type 0 where
    pub links : Every (IsPeer desks) s.links
    pub watching : Every W s.watching
    pub kept : Every (IsWatch desks) s.kept

  abbrev pub IsNearPhase : Phase → Type 0
  IsNearPhase (living s) = IsNearState s
  IsNearPhase _ = ⊤

-- a monitor that was open: its target is of the node, and was born if it is of the desk; its reference is numbered up
-- to low
abbrev pub WasOpen : Start → ℕ → ℕ → ℕ → Ref × Pid → Type 0
WasOpen start desks low d e =
    (e.1.shard < desks) × (e.0.number ≤ low) × (e.1.shard ≡ d → is_unborn (at_start start e.1) ≡ false)

-- the start of desk d: processes of that desk alone, of which each live one is so
pub record IsBegun (start : Start) (desks low d : ℕ) : Type 0 where
  pub own : Every (λ b. b.0.shard ≡ d) start
  pub near : (p : Pid) → IsNearPhase desks (WasOpen start desks low d) (at_start start p)
