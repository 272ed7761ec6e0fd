-- What a chart of a history shows. A history stands here oldest first; its events, by their places in it, and columns
-- are numbered from 0. In which rows the events stand, Rows says.
use Rattle.std.specs.Prelude.{◌≡◌, ℕ, ◌+◌, Bool, false, cond, ◌&&◌, List, [], ◌∷◌, ◌++◌, length, map, fold}
use Rattle.std.specs.Prelude.{position, nat_lt, unwrap_or, count_by, slice_get, reverse, Option, Some, None, All, ⊤}
use Rattle.std.specs.List.{list_any, insert}
use Rattle.pt_signal.specs.declared.pid.Pid.{Pid}
use Rattle.pt_signal.specs.declared.reason.Reason.{Reason}
use Rattle.pt_signal.specs.Values.{same_pid}
use Rattle.pt_signal.specs.Process.{Sent}
use Rattle.pt_events.specs.declared.event.Event.{Event}
use Rattle.pt_events.specs.declared.event.Event.TheVariants.{Born, Said, Came, Took, Flag, Left, Refused}
use Rattle.pt_events.specs.declared.event.Stamped.{Stamped}
use Rattle.pt_events.specs.History.{Past, Phase, is_birth, living, ended, life, touches, sent_by, IsLegal}
use Rattle.pt_events.specs.Journal.{events}
use Rattle.pt_chart.specs.declared.layout.Sending.{Sending}
use Rattle.pt_chart.specs.declared.layout.Arrow.{Arrow}
use Rattle.pt_chart.specs.declared.layout.Column.{Column}
use Rattle.pt_chart.specs.declared.layout.Layout.{Layout}
use Rattle.pt_chart.specs.Following.{followed, OpensAnew}
use Rattle.pt_chart.specs.Rows.{AreRows, follows_sending, comes_next}

-- columns -------------------------------------------------------------------------------------------

-- who has a column for the event
abbrev pub named_columns : Event → List Pid
named_columns (Born p None link) = p ∷ []
named_columns (Born p (Some q) link) = q ∷ p ∷ []
named_columns (Said a b x) = a ∷ b ∷ []
named_columns (Came a b x) = a ∷ b ∷ []
named_columns (Took p k i) = p ∷ []
named_columns (Flag p on) = p ∷ []
named_columns (Left p r) = p ∷ []
named_columns (Refused a b) = a ∷ []

-- behind all of its own desk and of the desks before it
abbrev pub place_behind : List Pid → Pid → ℕ
place_behind ps p = unwrap_or (position (λ q. nat_lt p.shard q.shard) ps) (length ps)

-- one more stands there, unless it is among them
abbrev pub join : List Pid → Pid → List Pid
join ps p = cond (list_any (same_pid p) ps) ps (insert ps (place_behind ps p) p)

abbrev pub joined_columns : List Pid → List Pid → List Pid
joined_columns ps qs = fold join ps qs

-- each that is named, once, by desk and then in order of first appearance
abbrev pub everyone : List Stamped → List Pid
everyone events = fold (λ ps s. joined_columns ps (named_columns s.event)) [] events

-- the column of a process
abbrev pub column_place : List Pid → Pid → ℕ
column_place ps p = unwrap_or (position (same_pid p) ps) (length ps)

-- what a process sends, and its end -------------------------------------------------------------------

-- the same history, the newest event first, as the model has it
abbrev pub past_of : List Stamped → Past
past_of events = fold (λ past s. s.event ∷ past) [] events

abbrev pub sent_at : ℕ → Sent → Sending
sent_at event l = record { event = event; to = l.to; signal = l.signal }

-- what p sends, in order, and by which events
abbrev pub sent_of : Past → Pid → List Sending
sent_of [] p = []
sent_of (e ∷ past) p = sent_of past p ++ map (sent_at (length past)) (cond (touches p e) (sent_by [] past e) [])

abbrev pub end_between : Phase → Phase → ℕ → Option (ℕ × Reason) → Option (ℕ × Reason)
end_between (living s) (ended r t) event before = Some (event, r)
end_between f g event before = before

-- the event by which p ends, and the reason
abbrev pub end_of : Past → Pid → Option (ℕ × Reason)
end_of [] p = None
end_of (e ∷ past) p = end_between (life [] past p) (life [] (e ∷ past) p) (length past) (end_of past p)

-- the history is legal, as that of every gathered node
abbrev pub IsLegalHistory : List Stamped → Type 0
IsLegalHistory history = IsLegal [] (events (reverse history))

-- p opens no monitor under a reference that it has open, as in every legal history
abbrev pub MonitorsAnew : Past → Pid → Type 0
MonitorsAnew [] p = ⊤
MonitorsAnew (e ∷ past) p = OpensAnew e (followed p (life [] past p)) × MonitorsAnew past p

-- arrows --------------------------------------------------------------------------------------------

abbrev pub is_receipt : Pid → Pid → Event → Bool
is_receipt a b (Came c d x) = same_pid a c && same_pid b d
is_receipt a b _ = false

-- the events by which a letter came to b from a, in order, where this is the first event's place
abbrev pub receipts_from : ℕ → Pid → Pid → List Stamped → List ℕ
receipts_from event a b [] = []
receipts_from event a b (s ∷ events) =
    cond (is_receipt a b s.event) (event ∷ receipts_from (event + 1) a b events) (receipts_from (event + 1) a b events)

abbrev pub receipts : Pid → Pid → List Stamped → List ℕ
receipts a b events = receipts_from 0 a b events

-- how many of these letters went there
abbrev pub sent_to : Pid → List Sending → ℕ
sent_to q sent = count_by (λ l. same_pid q l.to) sent

-- the letter that a sends after the earlier ones: the nth to a process is the nth that comes there
abbrev pub arrow : List Stamped → List Pid → Pid → List Sending → Sending → Arrow
arrow events ps a earlier l = record {
  to = column_place ps l.to;
  signal = l.signal;
  sent = l.event;
  came = slice_get (receipts a l.to events) (sent_to l.to earlier);
}

abbrev pub arrows : List Stamped → List Pid → Pid → List Sending → List Sending → List Arrow
arrows events ps a earlier [] = []
arrows events ps a earlier (l ∷ later) = arrow events ps a earlier l ∷ arrows events ps a (earlier ++ l ∷ []) later

-- the whole -------------------------------------------------------------------------------------------

-- the event is the receipt of a letter that, as the history has it, the very one before it sent, where that is no receipt
abbrev pub follows_in : List Stamped → ℕ → Bool
follows_in events event =
    list_any (λ p. list_any (comes_next events event) (arrows events (everyone events) p [] (sent_of (past_of events) p)))
    (everyone events)

-- its end and its arrows are those of the history
pub record ShowsLife (events : List Stamped) (c : Column) : Type 0 where
  pub ended : c.ended ≡ end_of (past_of events) c.pid
  pub arrows : c.arrows.items ≡ arrows events (everyone events) c.pid [] (sent_of (past_of events) c.pid)

pub record IsColumn (events : List Stamped) (c : Column) : Type 0 where
  pub born : c.born ≡ position (λ s. is_birth c.pid s.event) events
  pub shows : MonitorsAnew (past_of events) c.pid → ShowsLife events c

pub record IsLayout (events : List Stamped) (l : Layout) : Type 0 where
  pub pids : map (λ c. c.pid) l.columns.items ≡ everyone events
  pub columns : All (λ c. IsColumn events c) l.columns.items
  pub rows : AreRows events (follows_sending events l.columns.items) l.rows.items

-- ends, arrows and rows are those of the history alone
pub record ShowsHistory (events : List Stamped) (l : Layout) : Type 0 where
  pub lives : All (λ c. ShowsLife events c) l.columns.items
  pub rows : AreRows events (follows_in events) l.rows.items
