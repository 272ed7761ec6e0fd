-- Laws on histories that go on from others, any number of times.
use Rattle.std.specs.Prelude.{◌≡◌, ℕ, ◌≤◌, false, List, [], ◌++◌}
use Rattle.pt_signal.specs.declared.pid.Pid.{Pid}
use Rattle.pt_signal.specs.declared.reason.Reason.{Reason}
use Rattle.pt_signal.specs.Process.{ProcessState, fresh}
use Rattle.pt_events.specs.declared.event.Stamped.{Stamped}
use Rattle.pt_events.specs.History.{Past, Start, ended, at_start, is_ended, life, flying, IsLegal}
use Rattle.pt_events.specs.Journal.{Journals, IsLocal, IsMerge, clock, events}
use Rattle.pt_laws.specs.Load.{IsStart, IsQuiet}
use Rattle.pt_laws.specs.Resumed.{start_after, reasonless, without_reasons, AllNewTo, MadeUpTo, IsLeftBy, HasAllReasons}
use Rattle.pt_events.specs.OldRefs.{HasOldRefs}
use Rattle.pt_laws.specs.Words.{HasOneEntryEach, KeepsEachOnce}

-- after a legal and quiet history, one that is legal over its state and makes new ids and references is legal over both
abbrev pub ResumedLegal : Type 0
ResumedLegal =
    (start : Start) (old new : Past) → IsStart start → IsLegal start old → IsQuiet start old → AllNewTo old new
    → IsLegal (start_after start old) new → IsLegal start (new ++ old)

-- and each letter flies as after both, and each pid is as after both; but of one that ended before, the reason alone is
-- left
abbrev pub ResumedSame : Type 0
ResumedSame =
    (start : Start) (old new : Past) → IsStart start → IsLegal start old → IsQuiet start old
    → ((p : Pid) → is_ended (life start old p) ≡ false → life (start_after start old) new p ≡ life start (new ++ old) p)
    × ((p : Pid) (r : Reason) (s : ProcessState) → life start old p ≡ ended r s
    → life (start_after start old) new p ≡ ended r fresh)
    × (flying (start_after start old) new ≡ flying start (new ++ old))

-- the state after it is again a start, and keeps what the laws on words ask of a start
abbrev pub ResumedStart : Type 0
ResumedStart =
    (start : Start) (old : Past) → IsStart start → IsLegal start old → IsQuiet start old
    → IsStart (start_after start old)
    × (HasOneEntryEach start → HasOneEntryEach (start_after start old))
    × (KeepsEachOnce start → KeepsEachOnce (start_after start old))

-- to go on twice is to go on once, with both histories; so any number of times
abbrev pub ResumedTwice : Type 0
ResumedTwice =
    (start : Start) (one two : Past) → IsStart start
    → start_after (start_after start one) two ≡ start_after start (two ++ one)

-- the empty start is left by the empty history, to which every history is new
abbrev pub EmptyIsLeft : Type 0
EmptyIsLeft = IsLeftBy [] [] × ((past : Past) → AllNewTo [] past)

-- a legal and quiet history over a start that was left behind leaves one again, after any number of them
abbrev pub LeftAgain : Type 0
LeftAgain =
    (start : Start) (old new : Past) → IsStart start → IsLeftBy start old → AllNewTo old new → IsLegal start new
    → IsQuiet start new
    → IsLeftBy (start_after start new) (new ++ old)

-- with all reasons, if none was forgotten before
abbrev pub ReasonsStay : Type 0
ReasonsStay =
    (start : Start) (old new : Past) → IsStart start → HasAllReasons start old
    → HasAllReasons (start_after start new) (new ++ old)

-- a start that forgets its reasons has each process as before, but of those that ended no reason
abbrev pub ForgetsEach : Type 0
ForgetsEach = (start : Start) (p : Pid) → at_start (without_reasons start) p ≡ reasonless (at_start start p)

-- it is again a start, left by the same history, and keeps what the laws on words ask
abbrev pub ForgettingIsLeft : Type 0
ForgettingIsLeft =
    (start : Start) (old : Past) → IsLeftBy start old
    → IsLeftBy (without_reasons start) old
    × (IsStart start → IsStart (without_reasons start))
    × (HasOneEntryEach start → HasOneEntryEach (without_reasons start))
    × (KeepsEachOnce start → KeepsEachOnce (without_reasons start))

-- new ids -----------------------------------------------------------------------------

-- journals stamped up to n make ids and references up to n
abbrev pub StampsNumber : Type 0
StampsNumber =
    (start : Start) (low top n : ℕ) (journal : Journals) (merged : List Stamped)
    → ((d : ℕ) → IsLocal start low top d (journal d)) → IsMerge journal merged → ((d : ℕ) → clock low (journal d) ≤ n)
    → MadeUpTo n (events merged)

-- two histories together make what each makes
abbrev pub BothNumber : Type 0
BothNumber = (n : ℕ) (one two : Past) → MadeUpTo n one → MadeUpTo n two → MadeUpTo n (two ++ one)

-- what journals make whose stamps begin above those numbers is new
abbrev pub StampsAreNew : Type 0
StampsAreNew =
    (start : Start) (low top : ℕ) (journal : Journals) (merged : List Stamped) (old : Past)
    → MadeUpTo low old → ((d : ℕ) → IsLocal start low top d (journal d)) → IsMerge journal merged
    → AllNewTo old (events merged)

-- and the monitors open afterwards are old to what begins above
abbrev pub OldRefsResumed : Type 0
OldRefsResumed =
    (start : Start) (low top n : ℕ) (journal : Journals) (merged : List Stamped) → IsStart start → HasOldRefs low start
    → ((d : ℕ) → IsLocal start low top d (journal d)) → IsMerge journal merged → ((d : ℕ) → clock low (journal d) ≤ n)
    → HasOldRefs n (start_after start (events merged))
