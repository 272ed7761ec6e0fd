-- `into_loose` takes the pointer out of a handle, and tests it.
use Rattle.pt_c_values.proofs.Walks.{takes_out}
use Rattle.pt_c_tools.specs.contracts.gathered_handle.GatheredHandle.{the_row}
use Rattle.pt_c_tools.specs.contracts.held.HeldGathered.{the_row as row}
use Rattle.pt_c_tools.specs.contracts.gathered_handle.GatheredHandle.into_loose.Key.{name as #self}
use Rattle.pt_c_tools.proofs.Handles.{gathered}
use Rattle.pt_c_tools.proofs.gathered_handle.GatheredHandle.into_loose.Statement.{statement}
use Rattle.pt_c_tools.proofs.gathered_handle.GatheredHandle.into_loose.Code as compiled

pub into_loose_spec : {M : Type 1} → statement M
into_loose_spec 𝓤 𝓛 𝓜 𝓡 wired = takes_out the_row row gathered 𝓛 𝓜 𝓡 #self (compiled.unfolded 𝓤 𝓛.H 𝓜 𝓡 wired)
