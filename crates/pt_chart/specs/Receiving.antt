-- The events by which the letters of one process came, by receiver. No public clause cites this module.
use Rattle.std.specs.Prelude.{◌≡◌, ℕ, ◌++◌, cond, List, [], unwrap_or, drop}
use Rattle.std.specs.Map.{lookup}
use Rattle.pt_signal.specs.declared.pid.Pid.{Pid}
use Rattle.pt_signal.specs.Values.{same_pid}
use Rattle.pt_events.specs.declared.event.Stamped.{Stamped}
use Rattle.pt_chart.specs.declared.layout.Sending.{Sending}
use Rattle.pt_chart.specs.Chart.{receipts, sent_to}

-- events by receiver
abbrev pub QueuedRows : Type 0
QueuedRows = List (Pid × List ℕ)

abbrev pub rows_queued : QueuedRows → Pid → List ℕ
rows_queued queued q = unwrap_or (lookup (same_pid q) queued) []

-- the queue of this one is that, and no other has changed
abbrev pub RowIsQueued : Pid → List ℕ → QueuedRows → QueuedRows → Type 0
RowIsQueued p queue old new = (q : Pid) → rows_queued new q ≡ cond (same_pid p q) queue (rows_queued old q)

-- these events are behind those of each receiver
abbrev pub IsQueuedBy : (Pid → List ℕ) → QueuedRows → QueuedRows → Type 0
IsQueuedBy more old new = (q : Pid) → rows_queued new q ≡ rows_queued old q ++ more q

-- each receiver has the events by which the letters from a came that it was sent after these
abbrev pub Awaits : List Stamped → Pid → List Sending → QueuedRows → Type 0
Awaits events a sent queued = (q : Pid) → rows_queued queued q ≡ drop (sent_to q sent) (receipts a q events)
