-- `none` makes a handle that owns nothing.
use Rattle.pt_c_values.proofs.Walks.{makes_none}
use Rattle.pt_c_tools.specs.contracts.gathered_handle.GatheredHandle.{the_row}
use Rattle.pt_c_tools.specs.contracts.held.HeldGathered.{the_row as row}
use Rattle.pt_c_tools.specs.contracts.gathered_handle.GatheredHandle.none.Key.{name as #self}
use Rattle.pt_c_tools.proofs.Handles.{gathered}
use Rattle.pt_c_tools.proofs.gathered_handle.GatheredHandle.none.Statement.{statement}
use Rattle.pt_c_tools.proofs.gathered_handle.GatheredHandle.none.Code as compiled

pub none_spec : {M : Type 1} → statement M
none_spec 𝓤 𝓛 𝓜 𝓡 wired = makes_none the_row row gathered 𝓛 𝓜 𝓡 #self (compiled.unfolded 𝓤 𝓛.H 𝓜 𝓡 wired)
