-- `of` makes a handle of the pointer to a value.
use Rattle.pt_c_values.proofs.Walks.{makes_of}
use Rattle.pt_c_tools.specs.contracts.groups_handle.GroupsHandle.{the_row}
use Rattle.pt_c_tools.specs.contracts.held.HeldGroups.{the_row as row}
use Rattle.pt_c_tools.specs.contracts.groups_handle.GroupsHandle.of.Key.{name as #self}
use Rattle.pt_c_tools.proofs.Handles.{groups}
use Rattle.pt_c_tools.proofs.groups_handle.GroupsHandle.of.Statement.{statement}
use Rattle.pt_c_tools.proofs.groups_handle.GroupsHandle.of.Code as compiled

pub of_spec : {M : Type 1} → statement M
of_spec 𝓤 𝓛 𝓜 𝓡 wired = makes_of the_row row groups 𝓛 𝓜 𝓡 #self (compiled.unfolded 𝓤 𝓛.H 𝓜 𝓡 wired)
