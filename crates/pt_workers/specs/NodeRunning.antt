-- What the run of a node does to its desks and the works.
use Rattle.std.specs.Prelude.{◌≡◌, ◌≢◌, List, length, map, Result, Ok, Err}
use Rattle.pt_desk.specs.DeskState.{DeskState}
use Rattle.pt_workers.specs.Running.{AllGoOn}
use Rattle.pt_workers.specs.declared.run_fault.RunFault.{RunFault}
use Rattle.pt_workers.specs.declared.run_fault.RunFault.TheVariants.{Works, Memory}

-- each desk with the work at its place
pub record ArePaired {W : Type 0} (desks : List DeskState) (works : List W)
    (pairs : List (DeskState × W)) : Type 0 where
  pub firsts : map (λ (p : DeskState × W). p.0) pairs ≡ desks
  pub seconds : map (λ (p : DeskState × W). p.1) pairs ≡ works

-- that was done to the desks with their works; each desk goes on
pub record RunsPaired {W : Type 0} (Runs : List (DeskState × W) → List (DeskState × W) → Type 0) (old : List DeskState)
    (works : List W) (new : List DeskState) (later : List W) : Type 0 where
  pub before : List (DeskState × W)
  pub after : List (DeskState × W)
  pub begun : ArePaired old works before
  pub ended : ArePaired new later after
  pub each : AllGoOn before after
  pub runs : Runs before after

-- it was done, or refused, and then nothing has changed
abbrev pub RunsNode : {W : Type 0} → (List (DeskState × W) → List (DeskState × W) → Type 0) → List DeskState → List W
    → Result (Unit {0}) RunFault → List DeskState → List W → Type 0
RunsNode Runs old works (Ok _) new later = RunsPaired Runs old works new later
RunsNode Runs old works (Err Works) new later = (length works ≢ length old) × (new ≡ old) × (later ≡ works)
RunsNode Runs old works (Err Memory) new later = (length works ≡ length old) × (new ≡ old) × (later ≡ works)
