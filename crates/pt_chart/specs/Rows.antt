-- In which rows of a chart the events of a history stand. Events, by their places in the history, and rows are numbered
-- from 0.
use Rattle.std.specs.Prelude.{◌≡◌, ℕ, ◌+◌, ◌<◌, ◌≤◌, ◌==◌, Bool, true, false, not, ◌&&◌, List, length, fold, max}
use Rattle.std.specs.Prelude.{position, unwrap_or, slice_get, slice_index, Option, Some, None}
use Rattle.std.specs.List.{list_any}
use Rattle.std.specs.Option.{option_map}
use Rattle.pt_events.specs.declared.event.Event.{Event}
use Rattle.pt_events.specs.declared.event.Event.TheVariants.{Came}
use Rattle.pt_events.specs.declared.event.Stamped.{Stamped}
use Rattle.pt_chart.specs.declared.layout.Arrow.{Arrow}
use Rattle.pt_chart.specs.declared.layout.Column.{Column}
use Rattle.pt_events.specs.Counting.{capped}
use Rattle.pt_events.specs.History.{is_born}

-- how many births stand in front of every other event
abbrev pub births_in_front : List Stamped → ℕ
births_in_front events = unwrap_or (position (λ s. not (is_born s.event)) events) (length events)

abbrev pub is_at_row : ℕ → Option ℕ → Bool
is_at_row event None = false
is_at_row event (Some place) = place == event

abbrev pub is_came : Event → Bool
is_came (Came a b x) = true
is_came _ = false

abbrev pub is_came_in : Option Stamped → Bool
is_came_in None = false
is_came_in (Some s) = is_came s.event

-- the event at this place is a receipt
abbrev pub receives : List Stamped → ℕ → Bool
receives events i = is_came_in (slice_get events i)

-- by this event the letter came, and by the very one before it it was sent, which is no receipt itself
abbrev pub comes_next : List Stamped → ℕ → Arrow → Bool
comes_next events event a = is_at_row event a.came && (a.sent + 1 == event) && not (receives events a.sent)

-- the event is the receipt of a letter that the very one before it sent, where that is no receipt
abbrev pub follows_sending : List Stamped → List Column → ℕ → Bool
follows_sending events columns event = list_any (λ c. list_any (comes_next events event) c.arrows.items) columns

-- The rows of the events: the births in front share the first one, a receipt that follows its sending shares the row of
-- that, and every other event has a row of its own, below those of the events before it. So a row has one sending at most
-- that comes in it.
pub record AreRows (events : List Stamped) (follows : ℕ → Bool) (rows : List ℕ) : Type 0 where
  pub each : length rows ≡ length events
  pub first : slice_index rows 0 ≡ 0
  pub births : (i : ℕ) → i < length events → i < births_in_front events → slice_index rows i ≡ 0
  pub receipts : (i : ℕ) → i + 1 < length events → follows (i + 1) ≡ true
      → slice_index rows (i + 1) ≡ slice_index rows i
  pub others : (i : ℕ) → i + 1 < length events → births_in_front events ≤ i + 1 → follows (i + 1) ≡ false
      → slice_index rows (i + 1) ≡ slice_index rows i + 1

-- how many rows there are: every event's row is below this
abbrev pub count_of : List ℕ → ℕ
count_of rows = fold (λ n row. max (capped (row + 1)) n) 0 rows

-- the arrow from row to row, where it goes from event to event
abbrev pub in_rows : List ℕ → Arrow → Arrow
in_rows rows a = record {
  to = a.to;
  signal = a.signal;
  sent = slice_index rows a.sent;
  came = option_map (slice_index rows) a.came;
}
