-- The two ends of one lane.
use Rattle.std.specs.Prelude.{◌≡◌, ℕ, List, []}
use Rattle.std.specs.List.{All}
use denote.RawPtr.{Ptr}
use Rattle.pt_signal.specs.declared.letter.Letter.{Letter}
use Rattle.rtrb.specs.declared.producer.Producer.{Producer}
use Rattle.rtrb.specs.declared.consumer.Consumer.{Consumer}

-- which ring a lane is: its memory, its names and the name of what went by it, the same at both ends
pub record Ring : Type 0 where
  pub words : Ptr
  pub slots : Ptr
  pub names : ℕ × (ℕ × ℕ)
  pub bypass : ℕ

-- the end that sends: the lane's ring and desks, all letters posted so far with the oldest first,
-- the lane's capacity, and how many of those letters this end knows to be collected
pub record Sending : Type 0 where
  pub ring : Ring
  pub from : ℕ
  pub to : ℕ
  pub posted : List Letter
  pub capacity : ℕ
  pub seen : ℕ

-- the end that receives: the lane's ring and desks, all letters collected so far with the oldest first,
-- and those that this end knows to wait, oldest first
pub record Receiving : Type 0 where
  pub ring : Ring
  pub from : ℕ
  pub to : ℕ
  pub collected : List Letter
  pub known : List Letter

module _ {T A P : Type 0} where
  abbrev pub sending_ring : ℕ → Producer T A P → Ring
  sending_ring γ p = record { words = p.end.words; slots = p.end.slots; names = p.end.names; bypass = γ }

  abbrev pub receiving_ring : ℕ → Consumer T A P → Ring
  receiving_ring γ c = record { words = c.end.words; slots = c.end.slots; names = c.end.names; bypass = γ }

-- the letter, with the numbers of the two desks of its lane
abbrev pub on_lane : ℕ → ℕ → Letter → Letter
on_lane from to l = record l {
  from = record l.from { shard = from };
  to = record l.to { shard = to };
}

-- each of the letters goes from the one desk to the other
abbrev pub AllGo : ℕ → ℕ → List Letter → Type 0
AllGo from to letters = All (λ (l : Letter). (l.from.shard ≡ from) × (l.to.shard ≡ to)) letters

-- the ends of a new lane
abbrev pub new_sending : Ring → ℕ → ℕ → ℕ → Sending
new_sending ring from to capacity = record {
  ring = ring;
  from = from;
  to = to;
  posted = [];
  capacity = capacity;
  seen = 0;
}

abbrev pub new_receiving : Ring → ℕ → ℕ → Receiving
new_receiving ring from to = record { ring = ring; from = from; to = to; collected = []; known = [] }
