-- `widen`: what holds in its loop over `key`.
use Rattle.std.proofs.Common.{◌≡◌, ◌+◌, ◌≤◌, take}
use Rattle.pt_entries.proofs.entries.widen.Given as goal

abbrev pub invariant-loop-key : goal.invariant-loop-key
invariant-loop-key g l = record {
  entries : l.many.entries ≡ take l.key-index l.few.items;
  room : 9 ≤ l.key-index + l.many.room;
}
