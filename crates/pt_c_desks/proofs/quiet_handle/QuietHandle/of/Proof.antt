-- `of` makes a handle of the pointer to a value.
use Rattle.pt_c_values.proofs.Walks.{makes_of}
use Rattle.pt_c_desks.specs.contracts.quiet_handle.QuietHandle.{the_row}
use Rattle.pt_c_desks.specs.contracts.held.HeldQuiet.{the_row as row}
use Rattle.pt_c_desks.specs.contracts.quiet_handle.QuietHandle.of.Key.{name as #self}
use Rattle.pt_c_desks.proofs.Handles.{quiets}
use Rattle.pt_c_desks.proofs.quiet_handle.QuietHandle.of.Statement.{statement}
use Rattle.pt_c_desks.proofs.quiet_handle.QuietHandle.of.Code as compiled

pub of_spec : {M : Type 1} → statement M
of_spec 𝓤 𝓛 𝓜 𝓡 wired = makes_of the_row row quiets 𝓛 𝓜 𝓡 #self (compiled.unfolded 𝓤 𝓛.H 𝓜 𝓡 wired)
