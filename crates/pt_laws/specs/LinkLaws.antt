-- The laws of links, as statements.
use Rattle.std.specs.Prelude.{◌≡◌, ℕ, true, false, List, [], ◌++◌}
use Rattle.pt_signal.specs.declared.pid.Pid.{Pid}
use Rattle.pt_signal.specs.declared.letter.Letter.{Letter}
use Rattle.pt_signal.specs.Values.{same_pid}
use Rattle.pt_events.specs.declared.event.Stamped.{Stamped}
use Rattle.pt_events.specs.History.{Past, Start, IsLegal, alive}
use Rattle.pt_events.specs.Journal.{Journals, LanesAgree, IsLocal, IsMerge, events}
use Rattle.pt_events.specs.Refusals.{RefusalsAreTrue}
use Rattle.pt_laws.specs.Load.{IsQuiet}
use Rattle.pt_laws.specs.Resumed.{AllNewTo, MadeUpTo, IsLeftBy}
use Rattle.pt_laws.specs.Links.{IsKnownSaid, IsBornHome, IsBornFree, LinksAgree}

-- in a quiet history the links of a live process stand at both ends, or, where the other is not alive, at neither
abbrev pub QuietLinks : Type 0
QuietLinks =
    (past : Past) (p q : Pid) → IsLegal [] past → IsQuiet [] past → IsBornFree past
    → same_pid p q ≡ false → alive [] past p ≡ true → LinksAgree [] past p q

-- the premise holds where no one speaks to a pid of its own desk before its birth and each child is of its parent's
-- desk
abbrev pub KnownBornFree : Type 0
KnownBornFree =
    (start : Start) (past : Past) → IsLegal start past → IsKnownSaid start past → IsBornHome past → IsBornFree past

-- a merge of local journals is such a history
abbrev pub MergeKnown : Type 0
MergeKnown =
    (start : Start) (low top : ℕ) (journal : Journals) (merged : List Stamped)
    → ((d : ℕ) → IsLocal start low top d (journal d)) → IsMerge journal merged
    → IsKnownSaid start (events merged) × IsBornHome (events merged)

-- so in a merge, where lanes agree, that is quiet
abbrev pub MergeLinks : Type 0
MergeLinks =
    (low top : ℕ) (journal : Journals) (over : ℕ → ℕ → List Letter) (merged : List Stamped) (p q : Pid)
    → ((d : ℕ) → IsLocal [] low top d (journal d)) → LanesAgree [] journal over → RefusalsAreTrue [] journal
    → IsMerge journal merged
    → IsQuiet [] (events merged) → same_pid p q ≡ false → alive [] (events merged) p ≡ true
    → LinksAgree [] (events merged) p q

-- and in a quiet history over every start that was left behind
abbrev pub QuietLinksOver : Type 0
QuietLinksOver =
    (start : Start) (old past : Past) (p q : Pid) → IsLeftBy start old → IsKnownSaid [] old → IsBornHome old
    → AllNewTo old past → IsLegal start past → IsQuiet start past → IsKnownSaid start past → IsBornHome past
    → same_pid p q ≡ false → alive start past p ≡ true → LinksAgree start past p q

-- so in a quiet merge of journals that go on from such a start, with stamps above the numbers that were made before
abbrev pub MergeLinksOver : Type 0
MergeLinksOver =
    (start : Start) (old : Past) (low top : ℕ) (journal : Journals) (over : ℕ → ℕ → List Letter) (merged : List Stamped)
    (p q : Pid)
    → IsLeftBy start old → IsKnownSaid [] old → IsBornHome old → MadeUpTo low old
    → ((d : ℕ) → IsLocal start low top d (journal d)) → LanesAgree start journal over → RefusalsAreTrue start journal
    → IsMerge journal merged
    → IsQuiet start (events merged) → same_pid p q ≡ false → alive start (events merged) p ≡ true
    → LinksAgree start (events merged) p q

-- both histories together keep the two rules, so it holds after any number of them
abbrev pub KnownAgain : Type 0
KnownAgain =
    (start : Start) (old past : Past) → IsLeftBy start old → IsKnownSaid [] old → IsBornHome old
    → IsKnownSaid start past → IsBornHome past
    → IsKnownSaid [] (past ++ old) × IsBornHome (past ++ old)
