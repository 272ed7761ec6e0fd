-- `none` makes a handle that owns nothing.
use Rattle.pt_c_values.proofs.Walks.{makes_none}
use Rattle.pt_c_desks.specs.contracts.history_handle.HistoryHandle.{the_row}
use Rattle.pt_c_desks.specs.contracts.held.HeldHistory.{the_row as row}
use Rattle.pt_c_desks.specs.contracts.history_handle.HistoryHandle.none.Key.{name as #self}
use Rattle.pt_c_desks.proofs.Handles.{histories}
use Rattle.pt_c_desks.proofs.history_handle.HistoryHandle.none.Statement.{statement}
use Rattle.pt_c_desks.proofs.history_handle.HistoryHandle.none.Code as compiled

pub none_spec : {M : Type 1} → statement M
none_spec 𝓤 𝓛 𝓜 𝓡 wired = makes_none the_row row histories 𝓛 𝓜 𝓡 #self (compiled.unfolded 𝓤 𝓛.H 𝓜 𝓡 wired)
