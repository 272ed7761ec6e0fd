-- The crews of a node that goes on, in their handles.
use Rattle.std.specs.Prelude.{⊤, ◌≡◌, List, [], ◌∷◌, Some}
use Rattle.pt_events.specs.declared.event.Stamped.{Stamped}
use Rattle.pt_scheduler.specs.declared.scheduler.Scheduler.{Scheduler}
use Rattle.pt_scheduler.specs.Scheduling.{SchedulerGoesOn}
use Rattle.pt_c_values.specs.Places.{HandlePlace}

-- the crew of a handle goes on with this history, whose newest event is in front; a handle that has none stays so
abbrev pub CrewGoesOn : List Stamped → HandlePlace Scheduler → HandlePlace Scheduler → Type 0
CrewGoesOn past (Some (Some old)) (Some (Some new)) = SchedulerGoesOn past old new
CrewGoesOn past (Some (Some old)) _ = ⊥
CrewGoesOn past old new = new ≡ old

-- so does each of them
abbrev pub AllCrewsGoOn : List Stamped → List (HandlePlace Scheduler) → List (HandlePlace Scheduler) → Type 0
AllCrewsGoOn past [] [] = ⊤
AllCrewsGoOn past (old ∷ olds) (new ∷ news) = CrewGoesOn past old new × AllCrewsGoOn past olds news
AllCrewsGoOn past _ _ = ⊥
