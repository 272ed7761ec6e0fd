-- `none` makes a handle that owns nothing.
use Rattle.pt_c_values.proofs.Walks.{makes_none}
use Rattle.pt_c_tools.specs.contracts.way_in_handle.WayInHandle.{the_row}
use Rattle.pt_c_tools.specs.contracts.held.HeldWayIn.{the_row as row}
use Rattle.pt_c_tools.specs.contracts.way_in_handle.WayInHandle.none.Key.{name as #self}
use Rattle.pt_c_tools.proofs.Handles.{ways_in}
use Rattle.pt_c_tools.proofs.way_in_handle.WayInHandle.none.Statement.{statement}
use Rattle.pt_c_tools.proofs.way_in_handle.WayInHandle.none.Code as compiled

pub none_spec : {M : Type 1} → statement M
none_spec 𝓤 𝓛 𝓜 𝓡 wired = makes_none the_row row ways_in 𝓛 𝓜 𝓡 #self (compiled.unfolded 𝓤 𝓛.H 𝓜 𝓡 wired)
