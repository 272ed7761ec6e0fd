-- A handle may go to another thread: what it owns may, and its block is freed from any.
use mathlib.Core.Path.{◌≡◌, sym}
use Rattle.std.proofs.Common.{subst}
use mir.Raw.{raw}
use base.Fml.{Fml}
use base.Shift.{Keyless}
use denote.Exit.{Exit, Kept, hidden, under}
use denote.Memory.{lone}
use denote.RattleType.{RattleType}
use denote.RawPtr.{Ptr}
use denote.Struct.Struct.{exits_of}
use denote.Struct.Owning.{Owning, row, shape, fields, to}
use denote.Param.Send.{IsSend, AllSend, Quiet, owning_send, struct_send}
use Rattle.std.specs.Prelude.{Option, Some, None}
use Rattle.std.proofs.Crossing as heap
use Rattle.std_alloc.proofs.SendSync.{quiet, lies}
use Rattle.std_heap.proofs.Handle.{handle}
use Rattle.pt_c_values.specs.Held.{held_on_heap}

pub keyless : (R : RattleType) → IsSend R → (held : Option R.Denot) (p : Ptr) → Keyless (held_on_heap R held p)
keyless R send None p = λ _. tt
keyless R send (Some x) p = (lies R send p x, heap.frees.frees handle (raw (lone R.mir)) p)

-- a struct that owns more than its fields, and of which only these are seen when it is let go
pub owner_sends : (T : Owning) → ((k : Kept) → T.exit k ≡ hidden (under (to T) (exits_of k (fields T)))) → AllSend (fields T) → ((d : T.D) → Keyless (T.heap d)) → IsSend (row T)
owner_sends T exit all none =
    owning_send T all none
    (λ k. subst (λ (e : Exit T.D). Quiet e) (sym (exit k)) (quiet (to T) (exits_of k (fields T)) ((struct_send (shape T) all).leaving k)))
