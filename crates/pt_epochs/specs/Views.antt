-- What a door and its porter show besides their ends of one ring. For these the kit's words serve: `sent` is what was
-- handed in at a door, and `received` what a porter took out, oldest first; `known_free` is how many places the door knows
-- to be free, and `known_items` is what the porter knows to wait.
use Rattle.std.specs.Prelude.{◌≡◌, ℕ}
use Rattle.rtrb.specs.Ring.{SameProducer}
use Rattle.pt_signal.specs.declared.pid.Pid.{Pid}
use Rattle.pt_epochs.specs.declared.door.Door.{Door}
use Rattle.pt_epochs.specs.declared.door.Porter.{Porter}

-- the desk at which it rings
abbrev pub rings_at : Door → ℕ
rings_at d = d.desk

-- a door of the same way in, which rings at the same desk
abbrev pub IsSameDoor : Door → Door → Type 0
IsSameDoor old new = SameProducer old.ring new.ring × (new.desk ≡ old.desk) × (new.bells ≡ old.bells)

module _ {W : Type 0} where
  -- the process that sends them on, and how many in a step
  abbrev pub sender : Porter W → Pid
  sender p = p.me

  abbrev pub most_of : Porter W → ℕ
  most_of p = p.most

  -- the work that it was made with, as it is now
  abbrev pub work_of : Porter W → W
  work_of p = p.work
