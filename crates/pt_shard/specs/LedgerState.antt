-- The clock, the journal and the letters of a desk. No public clause cites this module.
use Rattle.std.specs.Prelude.{◌≡◌, ℕ, ◌<◌, ◌≤◌, ◌==◌, Bool, true, count_by, List, [], ◌∷◌, length, slice_index_or, Option}
use Rattle.std.specs.Prelude.{Some, None, Result, Ok, Err, max, ⊤}
use Rattle.pt_signal.specs.declared.pid.Pid.{Pid}
use Rattle.pt_signal.specs.declared.letter.Letter.{Letter}
use Rattle.pt_signal.specs.declared.signal.Signal.{Signal}
use Rattle.pt_events.specs.declared.event.Event.{Event}
use Rattle.pt_events.specs.declared.event.Stamped.{Stamped}
use Rattle.pt_signal.specs.declared.config.TheConstants.{MAX_STAMP}
use Rattle.pt_events.specs.History.{Start}
use Rattle.pt_events.specs.Journal.{events}
use Rattle.pt_events.specs.Leaving.{start_after}
use Rattle.pt_events.specs.Forgetting.{without_reasons}
use Rattle.pt_shard.specs.declared.stop.Stop.{Stop}
use Rattle.pt_shard.specs.declared.stop.Stop.TheVariants.{Memory, Worn}
use Rattle.pt_shard.specs.Boxes.{put_out}
use Rattle.pt_shard.specs.declared.loss.Loss.{Loss}
use Rattle.pt_shard.specs.Losses.{with_loss}

-- what is written down
pub record Book : Type 0 where
  -- what was before the journal
  pub start : Start
  pub desk : ℕ
  pub clock : ℕ
  pub journal : List Stamped
  pub outbox : List (List Letter)
  pub hold : Option Letter
  -- whether losses are kept, and those kept
  pub keeps : Bool
  pub lost : List Loss

pub record LedgerState : Type 0 where
  pub book : Book
  -- how many more events are sure to find room, and how many more letters for each desk
  pub room : ℕ
  pub rooms : List ℕ
  -- how many more losses
  pub lost_room : ℕ

-- no event is stamped above n
abbrev pub IsUpTo : ℕ → List Stamped → Type 0
IsUpTo n [] = ⊤
IsUpTo n (s ∷ journal) = s.stamp ≤ n

-- one more event, and letters
abbrev pub wrote : ℕ → Event → List Letter → Book → Book
wrote n e ls b = record {
  start = b.start;
  desk = b.desk;
  clock = n;
  journal = record { stamp = n; desk = b.desk; event = e } ∷ b.journal;
  outbox = put_out b.outbox ls;
  hold = b.hold;
  keeps = b.keeps;
  lost = b.lost;
}

-- one more loss, if there is one
abbrev pub losing : Option Loss → Book → Book
losing o b = record b { lost = with_loss b.keeps o b.lost }

-- an empty journal over what the one so far leaves behind
abbrev pub restarted_book : ℕ → Book → Book
restarted_book n b = record {
  start = start_after b.start (events b.journal);
  desk = b.desk;
  clock = n;
  journal = [];
  outbox = b.outbox;
  hold = b.hold;
  keeps = b.keeps;
  lost = b.lost;
}

-- a start without reasons
abbrev pub forgetful_book : Book → Book
forgetful_book b = record b { start = without_reasons b.start }

abbrev pub HasRoomAt : ℕ → LedgerState → Type 0
HasRoomAt e s = 0 < slice_index_or s.rooms e 0

abbrev pub HasRoomFor : Option Signal → ℕ → LedgerState → Type 0
HasRoomFor None e s = ⊤
HasRoomFor (Some x) e s = HasRoomAt e s

-- for a loss, if losses are kept
abbrev pub HasLossRoom : LedgerState → Type 0
HasLossRoom s = s.book.keeps ≡ true → 0 < s.lost_room

-- the process is of desk e
abbrev pub is_of_desk : ℕ → Pid → Bool
is_of_desk e q = q.shard == e

-- for a letter to each of them
abbrev pub HasRoomToAll : List Pid → LedgerState → Type 0
HasRoomToAll qs s = (e : ℕ) → e < length s.book.outbox → count_by (is_of_desk e) qs ≤ slice_index_or s.rooms e 0

-- for what a process owes to each of them, and for what it leaves
abbrev pub HasRoomToEnd : List Pid → LedgerState → Type 0
HasRoomToEnd qs s = HasRoomToAll qs s × HasLossRoom s

-- an attempt to make room for an event that is stamped above floor, and for letters
abbrev pub Prepares : ℕ → (LedgerState → Type 0) → LedgerState → Result (Unit {0}) Stop → LedgerState → Type 0
Prepares floor HasRoom old (Ok _) new =
    (new.book ≡ old.book) × (max old.book.clock floor < MAX_STAMP) × (0 < new.room) × HasRoom new
Prepares floor HasRoom old (Err Worn) new = (new.book ≡ old.book) × (MAX_STAMP ≤ max old.book.clock floor)
Prepares floor HasRoom old (Err Memory) new = (new.book ≡ old.book) × (max old.book.clock floor < MAX_STAMP)

abbrev pub HasNoNeed : LedgerState → Type 0
HasNoNeed s = ⊤
