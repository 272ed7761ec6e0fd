-- A node that runs epoch after epoch, and where their histories go.
use Rattle.std.specs.Prelude.{◌≡◌, ℕ, zero, suc, List, [], ◌++◌, reverse, codes, Option}
use Rattle.std.specs.List.{flat_map}
use Rattle.std.specs.Io.KnownBytes.{Appends}
use Rattle.pt_events.specs.declared.event.Stamped.{Stamped}
use Rattle.pt_events.specs.History.{IsLegal}
use Rattle.pt_events.specs.Journal.{IsMerge, events}
use Rattle.pt_events.specs.Text.{stamped_text}
use Rattle.pt_laws.specs.Load.{IsQuiet}
use Rattle.pt_gathered.specs.Gathered.{GatheredState, begins, journals}
use Rattle.pt_gathered.specs.Settling.{Settles, NothingLeft}
use Rattle.pt_desk.specs.DeskState.{DeskState}
use Rattle.pt_node.specs.Gathering.{Gathers}
use Rattle.pt_node.specs.Pasts.{IsOneHistory}
use Rattle.pt_node.specs.Resuming.{Resumes}
use Rattle.pt_workers.specs.NodeRunning.{RunsPaired}

-- the history of a settled node, which is legal and quiet over what was before it, went into the archive
pub record IsArchived {A : Type 0} (Keeps : A → List Stamped → A → Type 0) (g : GatheredState)
    (history : List Stamped) (before after : A) : Type 0 where
  pub merge : IsMerge (journals g) (reverse history)
  pub legal : IsLegal (begins g) (events (reverse history))
  pub quiet : IsQuiet (begins g) (events (reverse history))
  pub kept : Keeps before history after

-- an epoch ends: the node was gathered and settled, its history went into the archive, and its desks go on over what
-- that left behind; with all that was before it is one history
pub record Archives {A : Type 0} (Keeps : A → List Stamped → A → Type 0) (history : List Stamped)
    (old : List DeskState) (before : A) (new : List DeskState) (after : A) : Type 0 where
  pub gathered : GatheredState
  pub gathers : Gathers old gathered
  pub settled : GatheredState
  pub settles : Settles gathered settled
  pub nothing_left : NothingLeft settled
  pub archived : IsArchived Keeps settled history before after
  pub goes_on : Resumes settled new
  pub whole : IsOneHistory history old new

-- a node, the works of its desks, and its archive
pub record Epoch (W A : Type 0) : Type 0 where
  pub desks : List DeskState
  pub works : List W
  pub archive : A

module _ {W A : Type 0} (Runs : List (DeskState × W) → List (DeskState × W) → Type 0)
    (Keeps : A → List Stamped → A → Type 0) where
  -- the desks ran with their works, and then the epoch ended
  pub record Passes (history : List Stamped) (old new : Epoch W A) : Type 0 where
    pub ran : List DeskState
    pub runs : RunsPaired Runs old.desks old.works ran new.works
    pub ends : Archives Keeps history ran old.archive new.desks new.archive

  -- so many epochs, one after the other, and all that went into the archive, in this order
  abbrev pub PassEach : ℕ → List Stamped → Epoch W A → Epoch W A → Type 0
  PassEach zero all old new = (all ≡ []) × (new ≡ old)
  PassEach (suc n) all old new =
      (before : List Stamped) × (history : List Stamped) × (mid : Epoch W A) × (all ≡ before ++ history)
      × PassEach n before old mid × Passes history mid new

  -- and all of it together, with what was before, is one history
  pub record PassAsOne (n : ℕ) (old new : Epoch W A) : Type 0 where
    pub history : List Stamped
    pub passed : PassEach n history old new
    pub whole : IsOneHistory history old.desks new.desks

-- a line an event stands behind what stood there
abbrev pub AppendsLines : Option (List ℕ) → List Stamped → Option (List ℕ) → Type 0
AppendsLines old history new = Appends old new (flat_map (λ e. stamped_text e ++ codes "\n") history)
