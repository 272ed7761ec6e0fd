-- Laws on monitors.
use Rattle.std.specs.Prelude.{◌≡◌, ℕ, ◌≤◌, ◌+◌, true, false, List, [], ◌++◌}
use Rattle.pt_signal.specs.declared.pid.Pid.{Pid}
use Rattle.pt_signal.specs.declared.ids.Ref.{Ref}
use Rattle.pt_signal.specs.Values.{same_ref}
use Rattle.pt_events.specs.declared.event.Stamped.{Stamped}
use Rattle.pt_events.specs.History.{at_start, Past, Start, IsLegal, life, state, alive, arrived_since}
use Rattle.pt_events.specs.Journal.{IsLocal, events}
use Rattle.pt_laws.specs.Acts.{ActsMayCome}
use Rattle.pt_laws.specs.Load.{IsQuiet}
use Rattle.pt_laws.specs.Resumed.{AllNewTo, IsLeftBy}
use Rattle.pt_events.specs.Counting.{count}
use Rattle.pt_events.specs.OldRefs.{HasOldRefs}
use Rattle.pt_laws.specs.Watch.{is_monitor, is_demonitor, is_down_item, said_times, said_to, open_in, kept_in}

-- how often w said Demonitor m, and the DOWNs of m that arrived at w
abbrev pub demonitors_and_downs : Start → Past → Pid → Ref → ℕ
demonitors_and_downs start past w m =
    said_times w (is_demonitor m) past + count (is_down_item m) (arrived_since start past w)

-- w made the monitor m at most once, before the start or since
abbrev pub IsMadeOnce : Start → Past → Pid → Ref → Type 0
IsMadeOnce start past w m =
    count (λ e. same_ref m e.0) (state start [] w).watching + said_times w (is_monitor m) past ≤ 1

-- a monitor has one DOWN at most, and none where it was demonitored
abbrev pub OneDown : Type 0
OneDown = (start : Start) (past : Past) (w : Pid) (m : Ref) → ActsMayCome start past → IsMadeOnce start past w m
    → demonitors_and_downs start past w m ≤ 1

-- from the empty start each monitor is made once
abbrev pub MadeOnce : Type 0
MadeOnce = (past : Past) (w : Pid) (m : Ref) → ActsMayCome [] past → IsMadeOnce [] past w m

abbrev pub EmptyHasOldRefs : Type 0
EmptyHasOldRefs = (low : ℕ) → HasOldRefs low []

-- so it is in a journal that goes on from such a start, since its references are numbered above low
abbrev pub MadeOnceLocal : Type 0
MadeOnceLocal =
    (start : Start) (low top d : ℕ) (journal : List Stamped) (w : Pid) (m : Ref) → HasOldRefs low start
    → IsLocal start low top d journal
    → IsMadeOnce start (events journal) w m

-- so it is over every start that was left behind, where new references are made
abbrev pub MadeOnceOver : Type 0
MadeOnceOver =
    (start : Start) (old past : Past) (w : Pid) (m : Ref) → IsLeftBy start old → AllNewTo old past → IsLegal start past
    → IsMadeOnce start past w m

-- in a quiet history the monitor m that a live w made of t was demonitored, or had its one DOWN, or is open at w and
-- kept by a live t
abbrev pub QuietMonitor : Type 0
QuietMonitor =
    (past : Past) (w t : Pid) (m : Ref) → IsLegal [] past → IsQuiet [] past → alive [] past w ≡ true
    → said_to w t (is_monitor m) past ≡ 1
    → (demonitors_and_downs [] past w m + kept_in w t m (life [] past t) ≡ 1)
    × (open_in w t m (life [] past w) ≡ kept_in w t m (life [] past t))

-- and no live t keeps a monitor of a w that is not alive
abbrev pub QuietWatch : Type 0
QuietWatch = (past : Past) (w t : Pid) (m : Ref) → IsLegal [] past → IsQuiet [] past → alive [] past w ≡ false
    → kept_in w t m (life [] past t) ≡ 0

-- both hold over every start that was left behind; what was said and what arrived counts from the very beginning
abbrev pub QuietMonitorOver : Type 0
QuietMonitorOver =
    (start : Start) (old past : Past) (w t : Pid) (m : Ref) → IsLeftBy start old → AllNewTo old past
    → IsLegal start past → IsQuiet start past → alive start past w ≡ true → said_to w t (is_monitor m) (past ++ old) ≡ 1
    → (demonitors_and_downs [] (past ++ old) w m + kept_in w t m (life start past t) ≡ 1)
    × (open_in w t m (life start past w) ≡ kept_in w t m (life start past t))

abbrev pub QuietWatchOver : Type 0
QuietWatchOver =
    (start : Start) (old past : Past) (w t : Pid) (m : Ref) → IsLeftBy start old → AllNewTo old past
    → IsLegal start past → IsQuiet start past → alive start past w ≡ false → kept_in w t m (life start past t) ≡ 0

-- how often w made the monitor m of t: before the start, where it was open there, or since
abbrev pub times_made : Start → Past → Pid → Pid → Ref → ℕ
times_made start past w t m = open_in w t m (at_start start w) + said_to w t (is_monitor m) past

-- so over every start that was left behind, where what was open there counts as made, and the DOWNs that arrived since
-- count
abbrev pub QuietMonitorSince : Type 0
QuietMonitorSince =
    (start : Start) (old past : Past) (w t : Pid) (m : Ref) → IsLeftBy start old → AllNewTo old past
    → IsLegal start past → IsQuiet start past → alive start past w ≡ true → times_made start past w t m ≡ 1
    → (demonitors_and_downs start past w m + kept_in w t m (life start past t) ≡ 1)
    × (open_in w t m (life start past w) ≡ kept_in w t m (life start past t))
