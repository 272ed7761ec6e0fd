-- The parts of a desk, and what holds of them. No public clause cites this module.
use Rattle.std.specs.Prelude.{◌≡◌}
use Rattle.pt_slots.specs.State.{issued}
use Rattle.pt_slots.specs.Offers.{OffersTheFree}
use Rattle.pt_signal.specs.declared.config.Config.{Config}
use Rattle.pt_shard.specs.ShardState.{ShardState}
use Rattle.pt_shard.specs.LedgerState.{Book}
use Rattle.pt_shard.specs.Processes.{ProcessesState, process_at, vacant_at}
use Rattle.pt_shard.specs.Sound.{IsSound}

pub record Parts : Type 0 where
  pub config : Config
  pub book : Book
  pub processes : ProcessesState

abbrev pub parts_of : Config → Book → ProcessesState → Parts
parts_of config book processes = record { config = config; book = book; processes = processes }

abbrev pub shard_of : Parts → ShardState
shard_of a = record {
  start = a.book.start;
  number = a.processes.desk;
  config = a.config;
  clock = a.book.clock;
  journal = a.book.journal;
  outbox = a.book.outbox;
  hold = a.book.hold;
  vacant = vacant_at a.processes.desk a.processes.table;
  keeps = a.book.keeps;
  lost = a.book.lost;
}

pub record IsWhole (a : Parts) : Type 0 where
  pub sound : IsSound (shard_of a) (process_at a.processes.desk a.processes.table) (issued a.processes.table)
  pub offers : OffersTheFree a.processes.table
  pub home : a.book.desk ≡ a.processes.desk
  pub capacity : a.processes.table.capacity ≡ a.config.slots
  pub top_version : a.processes.table.top_version ≡ a.config.top_version
