-- What a drive does with crews: turns of each, as far as it lets them begin.
use Rattle.std.specs.Prelude.{◌≡◌, ℕ, zero, suc, ◌<◌, ◌≤◌, ◌⊎◌, Bool, true, false, List, length, slice_index_or}
use Rattle.pt_desk.specs.DeskState.{DeskState}
use Rattle.pt_workers.specs.Running.{TakesTurn, WorkRelation}

-- whether a turn begins, of the desk with its work as they are before it, the number of the turn, and the answer
abbrev pub LetsBegin : Type 0 → Type 1
LetsBegin W = DeskState × W → ℕ → Bool → Type 0

-- each turn begins
abbrev pub lets_each : {W : Type 0} → LetsBegin W
lets_each x turn begins = begins ≡ true

-- none behind the first begins where the journal of the desk has more than so many events
abbrev pub lets_short : {W : Type 0} → ℕ → LetsBegin W
lets_short events x turn begins = begins ≡ true → (turn ≡ 0) ⊎ (length x.0.shard.journal ≤ events)

module _ {W : Type 0} (lets : LetsBegin W) (does : WorkRelation W) where
  -- so many turns, one after the other, each of which began
  abbrev pub TakesLet : ℕ → ℕ → DeskState × W → DeskState × W → Type 0
  TakesLet budget zero old new = new ≡ old
  TakesLet budget (suc count) old new =
      (last : DeskState × W) × TakesLet budget count old last × lets last count true × TakesTurn does budget last new

  -- a worker took all its turns, or those before the one that did not begin, and did nothing else
  pub record WorksLet (turns budget : ℕ) (old new : DeskState × W) : Type 0 where
    pub count : ℕ
    pub took : TakesLet budget count old new
    pub ends : (count ≡ turns) ⊎ ((count < turns) × lets new count false)

  -- so did each
  abbrev pub AllWorkLet : ℕ → ℕ → List (DeskState × W) → List (DeskState × W) → Type 0
  AllWorkLet turns budget old new =
      (d : ℕ) (x : DeskState × W) → d < length old
      → WorksLet turns budget (slice_index_or old d x) (slice_index_or new d x)
