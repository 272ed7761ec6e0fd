-- `add_reasons`: what holds in its loop over `place`.
use Rattle.std.proofs.Common.{◌≡◌, ◌+◌, ◌≤◌, ◌++◌, take}
use Rattle.pt_accounts.specs.SlotState.{reasons_of}
use Rattle.pt_accounts.proofs.slot.add_reasons.Given as goal

abbrev pub invariant-loop-place : goal.invariant-loop-place
invariant-loop-place l = record {
  listed : l.forgotten.listed ≡ l.fn.forgotten.listed ++ reasons_of (take l.place l.ended);
  room : l.fn.forgotten.room ≤ l.forgotten.room + l.place;
}
