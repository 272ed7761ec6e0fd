-- `into_loose` takes the pointer out of a handle, and tests it.
use Rattle.pt_c_values.proofs.Walks.{takes_out}
use Rattle.pt_c_tools.specs.contracts.groups_handle.GroupsHandle.{the_row}
use Rattle.pt_c_tools.specs.contracts.held.HeldGroups.{the_row as row}
use Rattle.pt_c_tools.specs.contracts.groups_handle.GroupsHandle.into_loose.Key.{name as #self}
use Rattle.pt_c_tools.proofs.Handles.{groups}
use Rattle.pt_c_tools.proofs.groups_handle.GroupsHandle.into_loose.Statement.{statement}
use Rattle.pt_c_tools.proofs.groups_handle.GroupsHandle.into_loose.Code as compiled

pub into_loose_spec : {M : Type 1} → statement M
into_loose_spec 𝓤 𝓛 𝓜 𝓡 wired = takes_out the_row row groups 𝓛 𝓜 𝓡 #self (compiled.unfolded 𝓤 𝓛.H 𝓜 𝓡 wired)
