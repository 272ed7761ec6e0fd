-- `of` makes a handle of the pointer to a value.
use Rattle.pt_c_values.proofs.Walks.{makes_of}
use Rattle.pt_c_desks.specs.contracts.history_handle.HistoryHandle.{the_row}
use Rattle.pt_c_desks.specs.contracts.held.HeldHistory.{the_row as row}
use Rattle.pt_c_desks.specs.contracts.history_handle.HistoryHandle.of.Key.{name as #self}
use Rattle.pt_c_desks.proofs.Handles.{histories}
use Rattle.pt_c_desks.proofs.history_handle.HistoryHandle.of.Statement.{statement}
use Rattle.pt_c_desks.proofs.history_handle.HistoryHandle.of.Code as compiled

pub of_spec : {M : Type 1} → statement M
of_spec 𝓤 𝓛 𝓜 𝓡 wired = makes_of the_row row histories 𝓛 𝓜 𝓡 #self (compiled.unfolded 𝓤 𝓛.H 𝓜 𝓡 wired)
