-- Histories in which each event but a receipt may come: one desk's journal is one, and so is each legal history.
use Rattle.std.specs.Prelude.{ℕ, List, [], ◌∷◌, ⊤}
use Rattle.pt_events.specs.declared.event.Stamped.{Stamped}
use Rattle.pt_events.specs.History.{Past, Start, IsLegal}
use Rattle.pt_events.specs.Journal.{MayHere, IsLocal, events}

-- each event but a receipt may come after those before it, as its own desk reads it; of a receipt nothing is asked
abbrev pub ActsMayCome : Start → Past → Type 0
ActsMayCome start [] = ⊤
ActsMayCome start (e ∷ past) = MayHere start past e × ActsMayCome start past

abbrev pub LocalActs : Type 0
LocalActs = (start : Start) (low top d : ℕ) (journal : List Stamped) → IsLocal start low top d journal
    → ActsMayCome start (events journal)

abbrev pub LegalActs : Type 0
LegalActs = (start : Start) (past : Past) → IsLegal start past → ActsMayCome start past
