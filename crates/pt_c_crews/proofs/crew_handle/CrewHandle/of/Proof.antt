-- `of` makes a handle of the pointer to a value.
use Rattle.pt_c_values.proofs.Walks.{makes_of}
use Rattle.pt_c_crews.specs.contracts.crew_handle.CrewHandle.{the_row}
use Rattle.pt_c_crews.specs.contracts.held.HeldCrew.{the_row as row}
use Rattle.pt_c_crews.specs.contracts.crew_handle.CrewHandle.of.Key.{name as #self}
use Rattle.pt_c_crews.proofs.Handles.{crews}
use Rattle.pt_c_crews.proofs.crew_handle.CrewHandle.of.Statement.{statement}
use Rattle.pt_c_crews.proofs.crew_handle.CrewHandle.of.Code as compiled

pub of_spec : {M : Type 1} → statement M
of_spec 𝓤 𝓛 𝓜 𝓡 wired = makes_of the_row row crews 𝓛 𝓜 𝓡 #self (compiled.unfolded 𝓤 𝓛.H 𝓜 𝓡 wired)
