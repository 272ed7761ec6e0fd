-- What a handle owns.
use base.Fml.{Fml, ftrue, fex}
use mir.Syntax.{Ty}
use denote.RattleType.{RattleType}
use denote.RawPtr.{Ptr, null_ptr}
use Rattle.std.specs.Prelude.{◌≡◌, Option, Some, None}
use Rattle.std_heap.specs.contracts.GlobalAllocator.TheImpl.{ghosts}
use Rattle.std_alloc.specs.Box.Ownership.{box_owns}

-- the right to free a block of the C library's heap, which is the same under each handle of it
abbrev pub freeing : Ty → Ptr → Fml
freeing = ghosts.dealloc_token (record { memory = record { seal = tt } })

-- a value on the heap, or a null pointer
abbrev pub held_on_heap : (R : RattleType) → Option R.Denot → Ptr → Fml
held_on_heap R (Some x) at = box_owns freeing R at x
held_on_heap R None at = fex (at ≡ null_ptr) (λ _. ftrue)
