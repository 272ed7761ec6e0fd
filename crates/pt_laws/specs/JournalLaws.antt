-- Laws on the journals of desks: they have one merge.
use Rattle.std.specs.Prelude.{◌≡◌, ℕ, ◌≤◌, List, []}
use Rattle.pt_events.specs.declared.event.Stamped.{Stamped}
use Rattle.pt_events.specs.History.{Start}
use Rattle.pt_events.specs.Journal.{Journals, IsLocal, IsMerge}

-- the local journals of finitely many desks have a merge
abbrev pub MergeIsThere : Type 0
MergeIsThere =
    (start : Start) (low top n : ℕ) (journal : Journals)
    → ((d : ℕ) → IsLocal start low top d (journal d)) → ((d : ℕ) → n ≤ d → journal d ≡ [])
    → (merged : List Stamped) × IsMerge journal merged

-- and one only
abbrev pub MergeIsOne : Type 0
MergeIsOne = (journal : Journals) (one two : List Stamped) → IsMerge journal one → IsMerge journal two → one ≡ two
