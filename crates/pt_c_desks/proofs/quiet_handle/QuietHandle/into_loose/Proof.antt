-- `into_loose` takes the pointer out of a handle, and tests it.
use Rattle.pt_c_values.proofs.Walks.{takes_out}
use Rattle.pt_c_desks.specs.contracts.quiet_handle.QuietHandle.{the_row}
use Rattle.pt_c_desks.specs.contracts.held.HeldQuiet.{the_row as row}
use Rattle.pt_c_desks.specs.contracts.quiet_handle.QuietHandle.into_loose.Key.{name as #self}
use Rattle.pt_c_desks.proofs.Handles.{quiets}
use Rattle.pt_c_desks.proofs.quiet_handle.QuietHandle.into_loose.Statement.{statement}
use Rattle.pt_c_desks.proofs.quiet_handle.QuietHandle.into_loose.Code as compiled

pub into_loose_spec : {M : Type 1} → statement M
into_loose_spec 𝓤 𝓛 𝓜 𝓡 wired = takes_out the_row row quiets 𝓛 𝓜 𝓡 #self (compiled.unfolded 𝓤 𝓛.H 𝓜 𝓡 wired)
