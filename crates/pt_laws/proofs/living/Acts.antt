-- Local journals and legal histories have acts that may come.
use Rattle.std.proofs.Common.{ℕ, List, [], ◌∷◌}
use Rattle.pt_events.specs.declared.event.Event.{Event}
use Rattle.pt_events.specs.declared.event.Event.TheVariants.{Came, Refused}
use Rattle.pt_events.specs.declared.event.Stamped.{Stamped}
use Rattle.pt_events.specs.History.{Past, Start, May, IsLegal}
use Rattle.pt_events.specs.Journal.{MayHere, IsLocal, events}
use Rattle.pt_laws.specs.Acts.{ActsMayCome}

pub local_acts : (start : Start) (low top d : ℕ) (journal : List Stamped) → IsLocal start low top d journal → ActsMayCome start (events journal)
local_acts start low top d [] h = tt
local_acts start low top d (s ∷ journal) h = (h.0.may, local_acts start low top d journal h.1)

here : (start : Start) (past : Past) (e : Event) → May start past e → MayHere start past e
here start past (Came a b x) h = tt
here start past (Refused a b) h = h.0
here start past _ h = h

pub legal_acts : (start : Start) (past : Past) → IsLegal start past → ActsMayCome start past
legal_acts start [] h = tt
legal_acts start (e ∷ past) h = (here start past e h.0, legal_acts start past h.1)
