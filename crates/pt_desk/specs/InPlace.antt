-- A turn's letter that stands in its lane, and how an end is told. No public clause cites this module.
use Rattle.std.specs.Prelude.{◌≡◌, ◌≢◌, ℕ, ◌<◌, [], ◌∷◌, Option, Some, None, Result, slice_index_or}
use Rattle.pt_signal.specs.declared.letter.Letter.{Letter}
use Rattle.pt_signal.specs.declared.pid.Pid.{Pid}
use Rattle.pt_directory.specs.Views.{deaths_at, last_version, last_stamp}
use Rattle.pt_directory.specs.Seats.{DirectoryState, SeatState, HasWordsFor, add_death, death_of}
use Rattle.pt_carrier.specs.Ends.{InEnds, Collects, IsFront}
use Rattle.pt_shard.specs.ShardState.{ShardState, Handles}
use Rattle.pt_shard.specs.Outbox.{holding}
use Rattle.pt_shard.specs.declared.stop.Stop.{Stop}

-- the oldest letter that is known to wait in the lane from desk k is handled, or refused, and stays there
abbrev pub HandlesFront : ℕ → InEnds → ShardState → Result (Option Pid) Stop → ShardState → Type 0
HandlesFront k ins old result new = (l : Letter) × IsFront ins k l × Handles l old result new

-- it is taken out of its lane into the hold, and what is known of the other lanes stays
pub record HoldsFront (k : ℕ) (ins : InEnds) (old : ShardState) (ins_new : InEnds) (new : ShardState) : Type 0 where
  pub letter : Letter
  pub collects : Collects ins ins_new k letter
  pub held : new ≡ holding (Some letter) old
  pub place : ins_new.place ≡ ins.place
  pub others : (j : ℕ) → j ≢ k → slice_index_or ins_new.known j [] ≡ slice_index_or ins.known j []

-- the end of p at stamp n may be told by this seat: it told of p's slot nothing as late as that
pub record CanTell (directory : DirectoryState) (seat : SeatState) (n : ℕ) (p : Pid) : Type 0 where
  pub name : seat.name ≡ directory.name
  pub home : seat.homes ≡ p.shard ∷ []
  pub words : HasWordsFor directory p
  pub version : last_version (deaths_at p.shard p.slot seat.deaths) < p.version
  pub stamp : last_stamp (deaths_at p.shard p.slot seat.deaths) < n

-- the seat after whoever has ended was told
abbrev pub seat_told : Option Pid → ℕ → SeatState → SeatState
seat_told None n seat = seat
seat_told (Some p) n seat = add_death (death_of p n) seat
