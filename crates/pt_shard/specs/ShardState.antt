-- A desk without its lanes as its callers see it, and what an event makes of it.
use Rattle.std.specs.Prelude.{◌≡◌, ℕ, ◌+◌, ◌<◌, ◌≤◌, ◌==◌, Bool, true, false, cond, List, [], ◌∷◌, ◌++◌, map, max, Option, Some}
use Rattle.std.specs.Prelude.{None, is_some, Result, Ok, Err, slice_index_or}
use Rattle.pt_signal.specs.declared.pid.Pid.{Pid}
use Rattle.pt_signal.specs.declared.letter.Letter.{Letter}
use Rattle.pt_signal.specs.declared.signal.Signal.{Signal}
use Rattle.pt_signal.specs.Process.{ProcessState, handle}
use Rattle.pt_events.specs.declared.event.Event.{Event}
use Rattle.pt_events.specs.declared.event.Event.TheVariants.{Came, Left}
use Rattle.pt_events.specs.declared.event.Stamped.{Stamped}
use Rattle.pt_events.specs.History.{Past, Phase, Start, living, life, is_living, state_of, sent_by}
use Rattle.pt_events.specs.Journal.{events, letter}
use Rattle.pt_signal.specs.declared.config.TheConstants.{MAX_STAMP}
pub use Rattle.pt_signal.specs.Boxes.{one_more}
pub use Rattle.pt_shard.specs.Boxes.{put_out}
use Rattle.pt_signal.specs.declared.config.Config.{Config}
use Rattle.pt_shard.specs.declared.loss.Loss.{Loss}
use Rattle.pt_shard.specs.Losses.{lost_in, losses, with_loss}
use Rattle.pt_shard.specs.declared.stop.Stop.{Stop}
use Rattle.pt_shard.specs.declared.stop.Stop.TheVariants.{Memory, Worn}

pub record ShardState : Type 0 where
  -- what was before the journal
  pub start : Start
  pub number : ℕ
  pub config : Config
  pub clock : ℕ
  -- the newest event first
  pub journal : List Stamped
  -- for each desk of the node, the letters that wait to be posted to it, oldest first
  pub outbox : List (List Letter)
  -- the letter that was collected and is not yet handled
  pub hold : Option Letter
  -- the pid that the next birth has, or nothing where no slot is free
  pub vacant : Option Pid
  -- whether losses are kept, and those kept and not told yet, the oldest first
  pub keeps : Bool
  pub lost : List Loss

abbrev pub past : ShardState → Past
past d = events d.journal

-- what the journal says of p
abbrev pub phase_of : ShardState → Pid → Phase
phase_of d p = life d.start (past d) p

abbrev pub lives : ShardState → Pid → Bool
lives d p = is_living (phase_of d p)

abbrev pub state_in : ShardState → Pid → ProcessState
state_in d p = state_of (phase_of d p)

-- the letters that wait for desk e
abbrev pub box : ShardState → ℕ → List Letter
box d e = slice_index_or d.outbox e []

-- what the event sends now, each letter stamped n
abbrev pub sends : ℕ → Event → ShardState → List Letter
sends n e d = map (letter n) (sent_by d.start (past d) e)

-- whether the signal from a ends b
abbrev pub is_ended_by : Phase → Pid → Pid → Signal → Bool
is_ended_by (living s) b a x = is_some (handle b s a x).ending
is_ended_by _ b a x = false

-- the process that the event ends, after those before it
abbrev pub ended_in : Start → Past → Event → Option Pid
ended_in start past (Came a b x) = cond (is_ended_by (life start past b) b a x) (Some b) None
ended_in start past (Left p r) = Some p
ended_in start past _ = None

-- the process of the desk that the event ends
abbrev pub ended_by : ShardState → Event → Option Pid
ended_by d e = ended_in d.start (past d) e

-- the slot of a process that ended is the next to be given out, under its next version, unless it had the top one
abbrev pub vacated : ℕ → Option Pid → Option Pid → Option Pid
vacated top None vacant = vacant
vacated top (Some p) vacant = cond (p.version == top) vacant (Some (record p { version = p.version + 1 }))

-- the event of the desk, stamped n
abbrev pub stamped : ℕ → Event → ShardState → Stamped
stamped n e d = record { stamp = n; desk = d.number; event = e }

-- what the event loses, after those before it
abbrev pub lost_by : ShardState → Event → Option Loss
lost_by d e = lost_in d.start (past d) e

-- the desk after the event e, stamped n: what the event sends waits in the outbox
abbrev pub written : ℕ → Event → ShardState → ShardState
written n e d = record {
  start = d.start;
  number = d.number;
  config = d.config;
  clock = n;
  journal = stamped n e d ∷ d.journal;
  outbox = put_out d.outbox (sends n e d);
  hold = d.hold;
  vacant = vacated d.config.top_version (ended_by d e) d.vacant;
  keeps = d.keeps;
  lost = with_loss d.keeps (lost_by d e) d.lost;
}

-- the desk after an event of its own
abbrev pub shard_after : Event → ShardState → ShardState
shard_after e d = written (d.clock + 1) e d

-- while losses are kept, an event adds what it loses behind those kept: those told before, then those kept, are what
-- the journal lost, or what was kept as the journal began and then that
abbrev pub AddsLosses : Type 0
AddsLosses =
    (carried told : List Loss) (n : ℕ) (e : Event) (d : ShardState) → d.keeps ≡ true
    → told ++ d.lost ≡ carried ++ losses d.start (past d)
    → told ++ (written n e d).lost ≡ carried ++ losses d.start (e ∷ past d)

abbrev pub came_event : Letter → Event
came_event l = Came l.from l.to l.signal

-- the desk after the receipt of a letter
abbrev pub handled : Letter → ShardState → ShardState
handled l d = written (max d.clock l.stamp + 1) (came_event l) d

-- the letter is handled, and the answer is who ended by it; a refusal changes nothing
abbrev pub Handles : Letter → ShardState → Result (Option Pid) Stop → ShardState → Type 0
Handles l old (Ok ended) new =
    (max old.clock l.stamp < MAX_STAMP) × (new ≡ handled l old) × (ended ≡ ended_by old (came_event l))
Handles l old (Err Worn) new = (MAX_STAMP ≤ max old.clock l.stamp) × (new ≡ old)
Handles l old (Err Memory) new = (max old.clock l.stamp < MAX_STAMP) × (new ≡ old)
