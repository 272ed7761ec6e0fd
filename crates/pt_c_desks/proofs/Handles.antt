-- That the handles of desks, of histories and of quiet nodes are handles: each is a pointer, and owns what is held there.
use Rattle.std.proofs.Common.{refl}
use Rattle.pt_c_values.proofs.Walks.{IsHandle}
use Rattle.pt_c_desks.specs.contracts.held.HeldDesk as desk_held
use Rattle.pt_c_desks.specs.contracts.held.HeldHistory as history_held
use Rattle.pt_c_desks.specs.contracts.held.HeldQuiet as quiet_held
use Rattle.pt_c_desks.specs.contracts.desk_handle.DeskHandle as desk_handle
use Rattle.pt_c_desks.specs.contracts.history_handle.HistoryHandle as history_handle
use Rattle.pt_c_desks.specs.contracts.quiet_handle.QuietHandle as quiet_handle

abbrev pub desks : IsHandle desk_handle.the_row desk_held.the_row
desks = record { name = desk_handle.struct.name; at = λ x. x.at; state = λ x. x.state; owned = λ x vs. refl; made = λ p s. record { at = p; state = s }; made_is = λ p s vs. refl; states = λ p s. refl; last = λ x. tt; gone = λ x f. tt }

abbrev pub histories : IsHandle history_handle.the_row history_held.the_row
histories = record { name = history_handle.struct.name; at = λ x. x.at; state = λ x. x.state; owned = λ x vs. refl; made = λ p s. record { at = p; state = s }; made_is = λ p s vs. refl; states = λ p s. refl; last = λ x. tt; gone = λ x f. tt }

abbrev pub quiets : IsHandle quiet_handle.the_row quiet_held.the_row
quiets = record { name = quiet_handle.struct.name; at = λ x. x.at; state = λ x. x.state; owned = λ x vs. refl; made = λ p s. record { at = p; state = s }; made_is = λ p s vs. refl; states = λ p s. refl; last = λ x. tt; gone = λ x f. tt }
