-- `none` makes a handle that owns nothing.
use Rattle.pt_c_values.proofs.Walks.{makes_none}
use Rattle.pt_c_crews.specs.contracts.crew_handle.CrewHandle.{the_row}
use Rattle.pt_c_crews.specs.contracts.held.HeldCrew.{the_row as row}
use Rattle.pt_c_crews.specs.contracts.crew_handle.CrewHandle.none.Key.{name as #self}
use Rattle.pt_c_crews.proofs.Handles.{crews}
use Rattle.pt_c_crews.proofs.crew_handle.CrewHandle.none.Statement.{statement}
use Rattle.pt_c_crews.proofs.crew_handle.CrewHandle.none.Code as compiled

pub none_spec : {M : Type 1} → statement M
none_spec 𝓤 𝓛 𝓜 𝓡 wired = makes_none the_row row crews 𝓛 𝓜 𝓡 #self (compiled.unfolded 𝓤 𝓛.H 𝓜 𝓡 wired)
