-- That the handles of crews are handles: each is a pointer, and owns what is held there.
use Rattle.std.proofs.Common.{refl}
use Rattle.pt_c_values.proofs.Walks.{IsHandle}
use Rattle.pt_c_crews.specs.contracts.held.HeldCrew as crew_held
use Rattle.pt_c_crews.specs.contracts.crew_handle.CrewHandle as crew_handle

abbrev pub crews : IsHandle crew_handle.the_row crew_held.the_row
crews = record { name = crew_handle.struct.name; at = λ x. x.at; state = λ x. x.state; owned = λ x vs. refl; made = λ p s. record { at = p; state = s }; made_is = λ p s vs. refl; states = λ p s. refl; last = λ x. tt; gone = λ x f. tt }
