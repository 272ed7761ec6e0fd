-- Going on with a node and its crews: what each stage leaves in the handles.
use Rattle.std.specs.Prelude.{◌≡◌, ◌≢◌, ℕ, true, false, List, length, reverse, Some, None}
use Rattle.pt_signal.specs.declared.config.OpenError.TheVariants.{Bounds}
use Rattle.pt_signal.specs.declared.config.Setting.TheVariants.{Desks}
use Rattle.pt_desk.specs.DeskState.{DeskState}
use Rattle.pt_gathered.specs.Gathered.{GatheredState}
use Rattle.pt_c_desks.specs.declared.quiet_node.QuietNode.{QuietNode}
use Rattle.pt_c_values.specs.Codes.{empty, filled, open_code, wrong_desk}
use Rattle.pt_c_values.specs.Places.{HandlePlace, value_behind, values}
use Rattle.pt_c_desks.specs.Answers.{HistoryState}
use Rattle.pt_scheduler.specs.declared.scheduler.Scheduler.{Scheduler}
use Rattle.pt_c_crews.specs.GoingOn.{AllCrewsGoOn}
use Rattle.pt_c_crews.specs.Owning.{are_own}
use Rattle.pt_c_tools.specs.Nodes.{HandleTells, IsHistoryOfQuiet, ResumesAs}
use Rattle.pt_c_tools.specs.FirstStages.{GathersFirst, IfPassed, SettlesFirst, has}

-- what the handles of the call have
pub record Places : Type 0 where
  pub crews : List (HandlePlace Scheduler)
  pub desks : List (HandlePlace DeskState)
  pub gathered : HandlePlace GatheredState
  pub settled : HandlePlace QuietNode
  pub history : HandlePlace HistoryState

-- they go on with the history of the handle
abbrev pub GoOnWith : HandlePlace HistoryState → List (HandlePlace Scheduler) → List (HandlePlace Scheduler) → Type 0
GoOnWith (Some (Some h)) old new = AllCrewsGoOn (reverse h.events) old new
GoOnWith _ old new = new ≡ old

-- The history of the node is told, and then the node is resumed. Once it is, the crews go on with the history, and it is
-- in its handle.
abbrev pub ResumesWith : ℕ → List (HandlePlace Scheduler) → List (HandlePlace Scheduler) → List (HandlePlace DeskState)
    → List (HandlePlace DeskState) → HandlePlace QuietNode → HandlePlace QuietNode → HandlePlace HistoryState
    → HandlePlace HistoryState → Type 0
ResumesWith code crews later desks back settled left before after =
    (told : ℕ) × (h : HandlePlace HistoryState) × HandleTells told (value_behind settled) IsHistoryOfQuiet None h
    × IfPassed told code ((later ≡ crews) × (back ≡ desks) × (left ≡ settled) × (after ≡ before))
    ((resumed : ℕ) × ResumesAs resumed settled left desks back
    × IfPassed resumed code ((later ≡ crews) × (after ≡ before))
    ((code ≡ 0) × GoOnWith h crews later × (after ≡ h)))

-- one stage behind the other, up to the first that is refused
pub record Stages (code : ℕ) (old new : Places) : Type 0 where
  pub gathered_code : ℕ
  pub desks : List (HandlePlace DeskState)
  pub gathered : HandlePlace GatheredState
  pub gathers : GathersFirst gathered_code old.desks desks old.gathered gathered old.settled
  pub rest : IfPassed gathered_code code (new ≡ record old { desks = desks; gathered = gathered })
      ((settled_code : ℕ) × (left : HandlePlace GatheredState) × (settled : HandlePlace QuietNode)
      × SettlesFirst settled_code gathered left old.settled settled
      × IfPassed settled_code code (new ≡ record old { desks = desks; gathered = left; settled = settled })
      ((new.gathered ≡ left)
      × ResumesWith code old.crews new.crews desks new.desks settled new.settled old.history new.history))

-- what is refused before them: nothing has changed
abbrev pub RefusesWith : ℕ → ℕ → Places → Places → Type 0
RefusesWith is code old new = (code ≡ is) × (new ≡ old)

-- each handle has a crew
abbrev pub AreAllThere : List (HandlePlace Scheduler) → Type 0
AreAllThere crews = length (values crews) ≡ length crews

-- a node and its crews
pub record NodeGoesOn (code : ℕ) (old new : Places) : Type 0 where
  pub none_there : ¬ AreAllThere old.crews → RefusesWith empty code old new
  pub not_as_many : AreAllThere old.crews → length old.crews ≢ length old.desks
      → RefusesWith (open_code (Bounds Desks)) code old new
  pub told_before : AreAllThere old.crews → length old.crews ≡ length old.desks → has old.history ≡ true
      → RefusesWith filled code old new
  pub not_own : AreAllThere old.crews → length old.crews ≡ length old.desks → has old.history ≡ false
      → are_own 0 old.crews ≡ false → RefusesWith wrong_desk code old new
  pub stages : AreAllThere old.crews → length old.crews ≡ length old.desks → has old.history ≡ false
      → are_own 0 old.crews ≡ true → Stages code old new
