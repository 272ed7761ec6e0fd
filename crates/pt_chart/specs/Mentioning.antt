-- The events that name each process, and its places in a list, by their places from 0. No public clause cites this module.
use Rattle.std.specs.Prelude.{◌≡◌, ℕ, ◌+◌, ◌<◌, ◌==◌, Bool, cond, List, [], ◌∷◌, Option, Some, None, length, slice_index_or, All}
use Rattle.std.specs.List.{list_any}
use Rattle.pt_signal.specs.declared.pid.Pid.{Pid}
use Rattle.pt_signal.specs.Values.{same_pid}
use Rattle.pt_events.specs.declared.event.Event.{Event}
use Rattle.pt_events.specs.declared.event.Stamped.{Stamped}
use Rattle.pt_chart.specs.Chart.{named_columns}
use Rattle.pt_chart.specs.Drawing.{is_in_block}
use Rattle.pt_chart.specs.Receiving.{QueuedRows, rows_queued}

abbrev pub is_mentioned : Pid → Event → Bool
is_mentioned p e = list_any (same_pid p) (named_columns e)

-- the events that name p, in order, where this is the first event's place
abbrev pub mentions_from : ℕ → Pid → List Stamped → List ℕ
mentions_from event p [] = []
mentions_from event p (s ∷ events) =
    cond (is_mentioned p s.event) (event ∷ mentions_from (event + 1) p events) (mentions_from (event + 1) p events)

abbrev pub mentions : Pid → List Stamped → List ℕ
mentions p events = mentions_from 0 p events

-- each process has the events that name it
abbrev pub AreMentions : List Stamped → QueuedRows → Type 0
AreMentions events queued = (p : Pid) → rows_queued queued p ≡ mentions p events

-- the one process that an event names, or the first of two and the second
abbrev pub listed : Option Pid → Pid → List Pid
listed None p = p ∷ []
listed (Some first) p = first ∷ p ∷ []

-- where p is in a list of processes, in order, where this is the place of the first
abbrev pub places_from : ℕ → Pid → List Pid → List ℕ
places_from at p [] = []
places_from at p (q ∷ ps) = cond (same_pid p q) (at ∷ places_from (at + 1) p ps) (places_from (at + 1) p ps)

abbrev pub places_of : Pid → List Pid → List ℕ
places_of p ps = places_from 0 p ps

-- each process has its places in the list
abbrev pub ArePlaces : List Pid → QueuedRows → Type 0
ArePlaces ps queued = (p : Pid) → rows_queued queued p ≡ places_of p ps

-- where these are the processes of the columns, those are the columns of the ones that an event of the block names
pub record AreNamed (block : List Stamped) (ps : List Pid) (columns : List ℕ) : Type 0 where
  pub within : All (λ k. k < length ps) columns
  pub each : (k : ℕ) (p : Pid) → k < length ps → list_any (λ j. j == k) columns ≡ is_in_block block (slice_index_or ps k p)
