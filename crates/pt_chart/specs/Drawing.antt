-- Of what a chart is drawn, in order: the parts that stand behind come first.
use Rattle.std.specs.Prelude.{◌≡◌, ◌==◌, ◌/◌, ◌%◌, ◌+◌, ◌-◌, ◌*◌, ◌||◌, if◌then◌else◌, ℕ, max, min, fold, cond, not, Bool, false, List, [], ◌∷◌, ◌++◌}
use Rattle.std.specs.Prelude.{length, map, take, drop, slice_index, position, slice_get, unwrap_or, is_some, codes, Option, Some, None}
use Rattle.std.specs.List.{flat_map, enumerate_from, list_any}
use Rattle.std.specs.Map.{lookup}
use Rattle.std.specs.Option.{option_map}
use Rattle.pt_signal.specs.declared.pid.Pid.{Pid}
use Rattle.pt_signal.specs.Values.{same_pid}
use Rattle.pt_signal.specs.declared.reason.Reason.{Reason}
use Rattle.pt_signal.specs.Text.{pid_text, signal_text}
use Rattle.pt_events.specs.declared.event.Event.{Event}
use Rattle.pt_events.specs.declared.event.Event.TheVariants.{Born, Said, Came, Took, Flag, Left, Refused}
use Rattle.pt_events.specs.declared.event.Stamped.{Stamped}
use Rattle.pt_chart.specs.declared.called.Called.{Called}
use Rattle.pt_chart.specs.declared.layout.Arrow.{Arrow}
use Rattle.pt_chart.specs.declared.layout.Column.{Column}
use Rattle.pt_chart.specs.declared.layout.Layout.{Layout}
use Rattle.pt_chart.specs.declared.page.Page.{Page}
use Rattle.pt_chart.specs.declared.part.Letter.{Letter}
use Rattle.pt_chart.specs.declared.part.Part.{Part}
use Rattle.pt_chart.specs.declared.part.Part.TheVariants as part
use Rattle.pt_chart.specs.declared.part.Mark.TheVariants.{Bearing, Birth, Taking, Trapping, Refusal}
use Rattle.pt_chart.specs.Chart.{IsLayout, IsLegalHistory, ShowsHistory, named_columns}
use Rattle.pt_chart.specs.Rows.{count_of, in_rows, is_at_row}
use Rattle.pt_chart.specs.Text.{page_head, part_text}
use Rattle.pt_events.specs.Counting.{capped}

-- what f gives for each of a list and its number, from 0, one after the other
abbrev pub each_numbered : {X Y : Type 0} → (ℕ → X → List Y) → List X → List Y
each_numbered {X} f xs = flat_map (λ (x : ℕ × X). f x.0 x.1) (enumerate_from 0 xs)

-- the desk has its first column here
abbrev pub starts_desk : List Column → ℕ → ℕ → Bool
starts_desk cs k desk = unwrap_or (position (λ c. c.pid.shard == desk) cs) 0 == k

-- the ground of a column, and the name of its desk above the first one
abbrev pub ground : List Column → ℕ → Column → List Part
ground cs k c =
    part.Ground k c.pid.shard ∷ cond (starts_desk cs k c.pid.shard) (part.Desk k c.pid.shard ∷ []) []

abbrev pub life : List ℕ → ℕ → Option ℕ → Option (ℕ × Reason) → List Part
life rows k None ended = []
life rows k (Some born) ended =
    part.Life k (slice_index rows born) (option_map (λ e. slice_index rows e.0) ended) ∷ []

-- the line of a process, and its life if it is born
abbrev pub column : List ℕ → ℕ → Column → List Part
column rows k c = part.Column k ∷ life rows k c.born c.ended

-- the receipt of this event ends the process
abbrev pub is_at_end : Option (ℕ × Reason) → Option ℕ → Bool
is_at_end None came = false
is_at_end (Some e) came = is_at_row e.0 came

-- the letter that comes by this event ends the process of the column
abbrev pub ends_column : Option Column → Option ℕ → Bool
ends_column None came = false
ends_column (Some c) came = is_at_end c.ended came

-- the letter of an arrow from a column, where the events stand in these rows; it has no row for its tip yet
abbrev pub column_letter : List ℕ → List Column → ℕ → Arrow → Letter
column_letter rows cs k a = record {
  column = k;
  arrow = in_rows rows a;
  ends = ends_column (slice_get cs a.to) a.came;
  tip = 0;
}

abbrev pub letters : List ℕ → List Column → ℕ → Column → List Letter
letters rows cs k c = map (column_letter rows cs k) c.arrows.items

-- how many of the letters did not come
abbrev pub in_flight : List Letter → ℕ
in_flight ls = fold (λ n l. cond (is_some l.arrow.came) n (capped (n + 1))) 0 ls

-- the row in which the arrow of a letter ends: that of the receipt, or one of its own below all rows and below those of
-- the letters in flight before it
abbrev pub tip_row : ℕ → ℕ → Option ℕ → ℕ
tip_row rows n None = capped (rows + n)
tip_row rows n (Some row) = row

abbrev pub tipped : ℕ → List Letter → ℕ → Letter → List Letter
tipped rows ls i l = record l { tip = tip_row rows (in_flight (take i ls)) l.arrow.came } ∷ []

-- the letters of a layout, column by column, each with the row of its tip
abbrev pub letters_of : List ℕ → List Column → List Letter
letters_of rows cs =
    each_numbered (tipped (count_of rows) (each_numbered (letters rows cs) cs)) (each_numbered (letters rows cs) cs)

abbrev pub all_letters : Layout → List Letter
all_letters l = letters_of l.rows.items l.columns.items

-- the column of a process; behind all if it has none
abbrev pub place_in : List Column → Pid → ℕ
place_in cs p = unwrap_or (position (λ c. same_pid p c.pid) cs) (length cs)

abbrev pub bearing : List Column → ℕ → Pid → Option Pid → Bool → List Part
bearing cs row p None linked = []
bearing cs row p (Some parent) linked =
    part.Mark row (Bearing (place_in cs parent) (place_in cs p) parent linked) ∷ []

-- the stroke of a birth from the parent, where there is one
abbrev pub event_bearing : List Column → ℕ → Event → List Part
event_bearing cs row (Born p parent link) = bearing cs row p parent (is_some link)
event_bearing cs row _ = []

abbrev pub bears : List ℕ → List Column → ℕ → Stamped → List Part
bears rows cs i s = event_bearing cs (slice_index rows i) s.event

-- the mark of an event in its row, where these are the columns
abbrev pub event_mark : List Column → ℕ → Event → List Part
event_mark cs row (Born p parent link) = part.Mark row (Birth (place_in cs p)) ∷ []
event_mark cs row (Said a b x) = []
event_mark cs row (Came a b x) = []
event_mark cs row (Took p k i) = part.Mark row (Taking (place_in cs p)) ∷ []
event_mark cs row (Flag p on) = part.Mark row (Trapping (place_in cs p) on) ∷ []
event_mark cs row (Left p r) = []
event_mark cs row (Refused a b) = part.Mark row (Refusal (place_in cs a) b) ∷ []

abbrev pub mark : List ℕ → List Column → ℕ → Stamped → List Part
mark rows cs i s = event_mark cs (slice_index rows i) s.event

abbrev pub end_mark : List ℕ → ℕ → Option (ℕ × Reason) → List Part
end_mark rows k None = []
end_mark rows k (Some e) = part.End (slice_index rows e.0) k e.1 ∷ []

-- a cross where a process ends
abbrev pub end : List ℕ → ℕ → Column → List Part
end rows k c = end_mark rows k c.ended

abbrev pub name : ℕ → ℕ → Column → List Part
name row k c = part.Name row k c.pid ∷ []

-- the events of the block that begins with this one: it and those behind it in the same 40 rows
abbrev pub block : List ℕ → List Stamped → ℕ → List Stamped
block rows events i =
    take (unwrap_or (position (λ r. not (r / 40 == slice_index rows i / 40)) (drop i rows)) (length (drop i events)))
    (drop i events)

-- an event of the block names the process
abbrev pub is_in_block : List Stamped → Pid → Bool
is_in_block events p = list_any (λ s. list_any (same_pid p) (named_columns s.event)) events

abbrev pub name_in : List Stamped → ℕ → ℕ → Column → List Part
name_in events row k c = cond (is_in_block events c.pid) (name row k c) []

-- the names of all processes above the first row, and again after each 40 of those that an event of the block names
abbrev pub name_parts : List Stamped → List Column → ℕ → List Part
name_parts events cs row =
    cond (row == 0) (each_numbered (name row) cs) (each_numbered (name_in events row) cs)

abbrev pub names_due : List ℕ → List Stamped → List Column → ℕ → List Part
names_due rows events cs i =
    cond (slice_index rows i % 40 == 0) (name_parts (block rows events i) cs (slice_index rows i)) []

-- the event stands in another row than the one before it, or is the first
abbrev pub begins_row : List ℕ → ℕ → Bool
begins_row rows i = (i == 0) || not (slice_index rows i == slice_index rows (i - 1))

-- the event stands in another row than the next one, or is the last
abbrev pub ends_row : List ℕ → ℕ → Bool
ends_row rows i = (length rows == i + 1) || not (slice_index rows i == slice_index rows (i + 1))

-- the line of an event, in its row
abbrev pub line_part : List ℕ → ℕ → Stamped → Part
line_part rows i s = part.Line (slice_index rows i) s (begins_row rows i) (ends_row rows i)

-- the line of an event; before the first one of a row the names, where they are due
abbrev pub line_parts : List ℕ → List Stamped → List Column → ℕ → Stamped → List Part
line_parts rows events cs i s = cond (begins_row rows i) (names_due rows events cs i) [] ++ line_part rows i s ∷ []

-- What is drawn where the events stand in these rows. The arrows come last, so nothing lies over them.
abbrev pub drawn_in : List ℕ → List Stamped → List Column → List Letter → List Part
drawn_in rows events cs ls =
    each_numbered (ground cs) cs ++ each_numbered (line_parts rows events cs) events ++ each_numbered (column rows) cs
    ++ each_numbered (bears rows cs) events ++ each_numbered (mark rows cs) events ++ each_numbered (end rows) cs
    ++ map part.Saying ls ++ map part.Flight ls

-- each ground, each event's line, each process, the stroke of each birth, each event's mark, each end, what each letter
-- says and its arrow: each once, and nothing else but names
abbrev pub drawn : List Stamped → Layout → List Part
drawn events l = drawn_in l.rows.items events l.columns.items (all_letters l)

-- the room that a refused call's label takes behind its column
abbrev pub refused_beside : Event → ℕ
refused_beside (Refused a b) = capped (7 * length (codes "refused " ++ pid_text b)) - 76
refused_beside _ = 0

-- how much room the widest of these labels takes, and no less than this
abbrev pub widest_refusal : ℕ → List Stamped → ℕ
widest_refusal least events = fold (λ n s. max (refused_beside s.event) n) least events

-- the room that the label of a letter takes behind its column: that of one from a process to itself is right of it
abbrev pub letter_beside : Letter → ℕ
letter_beside l = if l.column == l.arrow.to then capped (7 * min (length (signal_text l.arrow.signal)) 24) - 48 else 0

-- this room, or that of a letter's label if it takes more
abbrev pub widest_beside : ℕ → List Letter → ℕ
widest_beside room ls = fold (λ n l. max (letter_beside l) n) room ls

-- as many columns, events and rows as there are, a row for each letter in flight, and room for the widest label
abbrev pub page_with : List Stamped → Layout → List Letter → Page
page_with events l ls = record {
  beside = widest_beside (widest_refusal 12 events) ls;
  columns = length l.columns.items;
  events = length events;
  rows = capped (count_of l.rows.items + in_flight ls);
}

abbrev pub page_of : List Stamped → Layout → Page
page_of events l = page_with events l (all_letters l)

-- what a process is called: the first name that is given to its pid, or an empty one
abbrev pub column_name : List (Pid × List ℕ) → Pid → List ℕ
column_name names p = unwrap_or (lookup (same_pid p) names) []

-- the names of the columns' processes
abbrev pub column_names : List (Pid × List ℕ) → List Column → List (List ℕ)
column_names names cs = map (λ c. column_name names c.pid) cs

abbrev pub called_given : Called → Pid × List ℕ
called_given c = (c.pid, c.name.now)

-- the head, the parts one after the other, and the end, where the processes of the columns have these names
abbrev pub drawing_text : Page → List (List ℕ) → List Part → List ℕ
drawing_text page names parts = page_head page ++ flat_map (part_text page names) parts ++ codes "</svg>\n"

-- the text is the drawing of a layout of the history, where these names are given to pids
pub record IsChart (events : List Stamped) (names : List (Pid × List ℕ)) (text : List ℕ) : Type 0 where
  pub layout : Layout
  pub laid_out : IsLayout events layout
  pub legal : IsLegalHistory events → ShowsHistory events layout
  pub is : text
      ≡ drawing_text (page_of events layout) (column_names names layout.columns.items) (drawn events layout)
