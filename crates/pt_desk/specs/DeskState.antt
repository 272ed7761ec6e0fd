-- A desk of a node: what it is without its lanes, its ends of them, and its sight of who has ended.
use Rattle.std.specs.Prelude.{◌≡◌, ℕ, ◌<◌, List, [], ◌++◌, length, slice_index_or}
use Rattle.pt_signal.specs.declared.letter.Letter.{Letter}
use Rattle.pt_events.specs.Journal.{posts, gots, Agrees}
use Rattle.pt_carrier.specs.Ends.{Place, OutEnds, InEnds}
use Rattle.pt_carrier.specs.Meeting.{Meets}
use Rattle.pt_carrier.specs.Node.{places}
use Rattle.pt_shard.specs.ShardState.{ShardState, box}
use Rattle.pt_shard.specs.Outbox.{held_from}
use Rattle.pt_shard.specs.Extends.{Extends}
use Rattle.pt_shard.specs.Fit.{IsFit}
use Rattle.pt_desk.specs.Sight.{Sight, IsSeated, SeesOn}

pub record DeskState : Type 0 where
  pub shard : ShardState
  pub outs : OutEnds
  pub ins : InEnds
  pub sight : Sight

-- where its ends stand: a desk stays one of its node where this stays
abbrev pub place : DeskState → Place × Place
place d = places (d.outs, d.ins)

-- what was posted to desk e, oldest first
abbrev pub posted_to : DeskState → ℕ → List Letter
posted_to d e = slice_index_or d.outs.posted e []

-- what waits to be posted to desk e, oldest first
abbrev pub waits_for : DeskState → ℕ → List Letter
waits_for d e = box d.shard e

-- what was collected from desk e, oldest first
abbrev pub collected_from : DeskState → ℕ → List Letter
collected_from d e = slice_index_or d.ins.collected e []

-- what the journal sent to each desk is what was posted there, then what waits to be posted;
-- what was collected from each desk is what came from it, then the letter in the hold;
-- and the ends are those of one desk: it has both ends of its lane to itself
pub record IsAccounted (s : ShardState) (o : OutEnds) (i : InEnds) : Type 0 where
  pub out_number : o.place.number ≡ s.number
  pub in_number : i.place.number ≡ s.number
  pub out_desks : length o.place.rings ≡ s.config.desks
  pub in_desks : length i.place.rings ≡ s.config.desks
  pub posted_desks : length o.posted ≡ s.config.desks
  pub collected_desks : length i.collected ≡ s.config.desks
  pub posted : (e : ℕ) → e < s.config.desks → posts s.start s.journal e ≡ slice_index_or o.posted e [] ++ box s e
  pub collected : (d : ℕ) → d < s.config.desks
      → Agrees (slice_index_or i.collected d []) (gots s.journal d) (held_from d s.hold)
  pub own : Meets o i

-- what holds of every desk
pub record IsDesk (d : DeskState) : Type 0 where
  pub fit : IsFit d.shard
  pub accounts : IsAccounted d.shard d.outs d.ins
  pub seated : IsSeated d.shard d.sight

-- nothing is posted and nothing collected
abbrev pub HasSameEnds : DeskState → DeskState → Type 0
HasSameEnds old new = (new.outs ≡ old.outs) × (new.ins ≡ old.ins)

-- what every call keeps: it is the same desk of the same node, and its journal begins with the one before
pub record GoesOn (old new : DeskState) : Type 0 where
  pub shard : Extends old.shard new.shard
  pub place : place new ≡ place old
  pub sight : SeesOn old.sight new.sight
