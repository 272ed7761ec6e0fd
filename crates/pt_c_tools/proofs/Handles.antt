-- That the handles of timers, names, groups, doors, ways in and gathered nodes are handles: each is a pointer, and owns what is
-- held there.
use Rattle.std.proofs.Common.{refl}
use Rattle.pt_c_values.proofs.Walks.{IsHandle}
use Rattle.pt_c_tools.specs.contracts.held.HeldNames as names_held
use Rattle.pt_c_tools.specs.contracts.held.HeldGroups as groups_held
use Rattle.pt_c_tools.specs.contracts.held.HeldTimers as timers_held
use Rattle.pt_c_tools.specs.contracts.names_handle.NamesHandle as names_handle
use Rattle.pt_c_tools.specs.contracts.groups_handle.GroupsHandle as groups_handle
use Rattle.pt_c_tools.specs.contracts.timers_handle.TimersHandle as timers_handle
use Rattle.pt_c_tools.specs.contracts.held.HeldDoor as door_held
use Rattle.pt_c_tools.specs.contracts.held.HeldWayIn as way_in_held
use Rattle.pt_c_tools.specs.contracts.door_handle.DoorHandle as door_handle
use Rattle.pt_c_tools.specs.contracts.way_in_handle.WayInHandle as way_in_handle
use Rattle.pt_c_tools.specs.contracts.held.HeldGathered as gathered_held
use Rattle.pt_c_tools.specs.contracts.gathered_handle.GatheredHandle as gathered_handle

abbrev pub names : IsHandle names_handle.the_row names_held.the_row
names = record { name = names_handle.struct.name; at = λ x. x.at; state = λ x. x.state; owned = λ x vs. refl; made = λ p s. record { at = p; state = s }; made_is = λ p s vs. refl; states = λ p s. refl; last = λ x. tt; gone = λ x f. tt }

abbrev pub groups : IsHandle groups_handle.the_row groups_held.the_row
groups = record { name = groups_handle.struct.name; at = λ x. x.at; state = λ x. x.state; owned = λ x vs. refl; made = λ p s. record { at = p; state = s }; made_is = λ p s vs. refl; states = λ p s. refl; last = λ x. tt; gone = λ x f. tt }

abbrev pub timers : IsHandle timers_handle.the_row timers_held.the_row
timers = record { name = timers_handle.struct.name; at = λ x. x.at; state = λ x. x.state; owned = λ x vs. refl; made = λ p s. record { at = p; state = s }; made_is = λ p s vs. refl; states = λ p s. refl; last = λ x. tt; gone = λ x f. tt }

abbrev pub doors : IsHandle door_handle.the_row door_held.the_row
doors = record { name = door_handle.struct.name; at = λ x. x.at; state = λ x. x.state; owned = λ x vs. refl; made = λ p s. record { at = p; state = s }; made_is = λ p s vs. refl; states = λ p s. refl; last = λ x. tt; gone = λ x f. tt }

abbrev pub ways_in : IsHandle way_in_handle.the_row way_in_held.the_row
ways_in = record { name = way_in_handle.struct.name; at = λ x. x.at; state = λ x. x.state; owned = λ x vs. refl; made = λ p s. record { at = p; state = s }; made_is = λ p s vs. refl; states = λ p s. refl; last = λ x. tt; gone = λ x f. tt }

abbrev pub gathered : IsHandle gathered_handle.the_row gathered_held.the_row
gathered = record { name = gathered_handle.struct.name; at = λ x. x.at; state = λ x. x.state; owned = λ x vs. refl; made = λ p s. record { at = p; state = s }; made_is = λ p s vs. refl; states = λ p s. refl; last = λ x. tt; gone = λ x f. tt }
