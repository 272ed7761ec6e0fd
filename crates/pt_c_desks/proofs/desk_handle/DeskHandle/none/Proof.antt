-- `none` makes a handle that owns nothing.
use Rattle.pt_c_values.proofs.Walks.{makes_none}
use Rattle.pt_c_desks.specs.contracts.desk_handle.DeskHandle.{the_row}
use Rattle.pt_c_desks.specs.contracts.held.HeldDesk.{the_row as row}
use Rattle.pt_c_desks.specs.contracts.desk_handle.DeskHandle.none.Key.{name as #self}
use Rattle.pt_c_desks.proofs.Handles.{desks}
use Rattle.pt_c_desks.proofs.desk_handle.DeskHandle.none.Statement.{statement}
use Rattle.pt_c_desks.proofs.desk_handle.DeskHandle.none.Code as compiled

pub none_spec : {M : Type 1} → statement M
none_spec 𝓤 𝓛 𝓜 𝓡 wired = makes_none the_row row desks 𝓛 𝓜 𝓡 #self (compiled.unfolded 𝓤 𝓛.H 𝓜 𝓡 wired)
