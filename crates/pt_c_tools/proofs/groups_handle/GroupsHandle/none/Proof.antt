-- `none` makes a handle that owns nothing.
use Rattle.pt_c_values.proofs.Walks.{makes_none}
use Rattle.pt_c_tools.specs.contracts.groups_handle.GroupsHandle.{the_row}
use Rattle.pt_c_tools.specs.contracts.held.HeldGroups.{the_row as row}
use Rattle.pt_c_tools.specs.contracts.groups_handle.GroupsHandle.none.Key.{name as #self}
use Rattle.pt_c_tools.proofs.Handles.{groups}
use Rattle.pt_c_tools.proofs.groups_handle.GroupsHandle.none.Statement.{statement}
use Rattle.pt_c_tools.proofs.groups_handle.GroupsHandle.none.Code as compiled

pub none_spec : {M : Type 1} → statement M
none_spec 𝓤 𝓛 𝓜 𝓡 wired = makes_none the_row row groups 𝓛 𝓜 𝓡 #self (compiled.unfolded 𝓤 𝓛.H 𝓜 𝓡 wired)
