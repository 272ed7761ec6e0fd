-- `into_loose` takes the pointer out of a handle, and tests it.
use Rattle.pt_c_values.proofs.Walks.{takes_out}
use Rattle.pt_c_desks.specs.contracts.history_handle.HistoryHandle.{the_row}
use Rattle.pt_c_desks.specs.contracts.held.HeldHistory.{the_row as row}
use Rattle.pt_c_desks.specs.contracts.history_handle.HistoryHandle.into_loose.Key.{name as #self}
use Rattle.pt_c_desks.proofs.Handles.{histories}
use Rattle.pt_c_desks.proofs.history_handle.HistoryHandle.into_loose.Statement.{statement}
use Rattle.pt_c_desks.proofs.history_handle.HistoryHandle.into_loose.Code as compiled

pub into_loose_spec : {M : Type 1} → statement M
into_loose_spec 𝓤 𝓛 𝓜 𝓡 wired = takes_out the_row row histories 𝓛 𝓜 𝓡 #self (compiled.unfolded 𝓤 𝓛.H 𝓜 𝓡 wired)
