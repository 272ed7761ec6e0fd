-- `of` makes a handle of the pointer to a value.
use Rattle.pt_c_values.proofs.Walks.{makes_of}
use Rattle.pt_c_tools.specs.contracts.gathered_handle.GatheredHandle.{the_row}
use Rattle.pt_c_tools.specs.contracts.held.HeldGathered.{the_row as row}
use Rattle.pt_c_tools.specs.contracts.gathered_handle.GatheredHandle.of.Key.{name as #self}
use Rattle.pt_c_tools.proofs.Handles.{gathered}
use Rattle.pt_c_tools.proofs.gathered_handle.GatheredHandle.of.Statement.{statement}
use Rattle.pt_c_tools.proofs.gathered_handle.GatheredHandle.of.Code as compiled

pub of_spec : {M : Type 1} → statement M
of_spec 𝓤 𝓛 𝓜 𝓡 wired = makes_of the_row row gathered 𝓛 𝓜 𝓡 #self (compiled.unfolded 𝓤 𝓛.H 𝓜 𝓡 wired)
