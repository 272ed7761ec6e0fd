-- `of` makes a handle of the pointer to a value.
use Rattle.pt_c_values.proofs.Walks.{makes_of}
use Rattle.pt_c_desks.specs.contracts.desk_handle.DeskHandle.{the_row}
use Rattle.pt_c_desks.specs.contracts.held.HeldDesk.{the_row as row}
use Rattle.pt_c_desks.specs.contracts.desk_handle.DeskHandle.of.Key.{name as #self}
use Rattle.pt_c_desks.proofs.Handles.{desks}
use Rattle.pt_c_desks.proofs.desk_handle.DeskHandle.of.Statement.{statement}
use Rattle.pt_c_desks.proofs.desk_handle.DeskHandle.of.Code as compiled

pub of_spec : {M : Type 1} → statement M
of_spec 𝓤 𝓛 𝓜 𝓡 wired = makes_of the_row row desks 𝓛 𝓜 𝓡 #self (compiled.unfolded 𝓤 𝓛.H 𝓜 𝓡 wired)
