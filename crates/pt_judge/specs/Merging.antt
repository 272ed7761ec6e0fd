-- What a merge of journals is asked of: journals of different desks, and the events of each desk.
use Rattle.std.specs.Prelude.{◌≡◌, ℕ, cond, ◌==◌, List, [], ◌∷◌}
use denote.Ref.{Bor}
use Rattle.pt_events.specs.JournalState.{JournalState}
use Rattle.pt_events.specs.Journal.{Journals}

-- the journals that are given, in any order
abbrev pub Given : Type 0
Given = List (Bor JournalState)

-- the events of the desk, the newest first; none where no journal is the desk's
abbrev pub journal_of : Given → Journals
journal_of [] d = []
journal_of (j ∷ js) d = cond (j.now.desk == d) j.now.past (journal_of js d)

-- no journal is of that desk
abbrev pub HasNone : Given → ℕ → Type 0
HasNone [] d = Unit {0}
HasNone (j ∷ js) d = (j.now.desk ≡ d → ⊥) × HasNone js d

-- the journals are of different desks
abbrev pub AreApart : Given → Type 0
AreApart [] = Unit {0}
AreApart (j ∷ js) = HasNone js j.now.desk × AreApart js
