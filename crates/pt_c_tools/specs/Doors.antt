-- What the two ends of a way in do. Each holds an end of one ring, and the kit's words for that end say what it shows:
-- `sent` is what was handed in at a door, and `received` what was taken out of a way in, oldest first; `known_free` is how
-- many places the door knows to be free, and `known_items` is what the way in knows to wait.
use Rattle.std.specs.Prelude.{◌≡◌, ◌+◌, ◌≤◌, Bool, true, false, [], ◌∷◌, ◌++◌, Option, Some, None}
use mathlib.Core.List.{IsPrefix}
use Rattle.rtrb.specs.Ring.{known_free, known_items, received, sent}
use Rattle.pt_c_tools.specs.declared.door.Door.{Door}
use Rattle.pt_c_tools.specs.declared.door.WayIn.{WayIn}
use Rattle.pt_c_tools.specs.declared.door.Post.{Post}

-- the message is behind those that were handed in before; or no place was known to be free, and none was handed in. It is
-- handed in if a place was known to be free before
abbrev pub PostsAtDoor : Post → Door → Bool → Door → Type 0
PostsAtDoor post old true new =
    (sent new.ring ≡ sent old.ring ++ post ∷ []) × (known_free old.ring ≤ known_free new.ring + 1)
PostsAtDoor post old false new =
    (sent new.ring ≡ sent old.ring) × (known_free new.ring ≡ 0) × (known_free old.ring ≡ 0)

-- the oldest message was taken out; or none waits, as far as this end sees
abbrev pub TakesPost : WayIn → Option Post → WayIn → Type 0
TakesPost old (Some post) new =
    (received new.ring ≡ received old.ring ++ post ∷ [])
    × IsPrefix (known_items old.ring) (post ∷ known_items new.ring)
TakesPost old None new =
    (received new.ring ≡ received old.ring) × (known_items new.ring ≡ []) × (known_items old.ring ≡ [])
