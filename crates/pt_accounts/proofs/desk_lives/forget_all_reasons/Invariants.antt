-- `forget_all_reasons`: what holds in its loop over `slot`.
use Rattle.std.proofs.Common.{◌≡◌, ◌++◌, map, take, drop, length, List}
use Rattle.pt_accounts.specs.LifeState.{LifeState}
use Rattle.pt_accounts.specs.DeskLives.{bare}
use Rattle.pt_accounts.proofs.desk_lives.forget_all_reasons.Given as goal

abbrev pub invariant-loop-slot : goal.invariant-loop-slot
invariant-loop-slot l = record {
  items : l.slots.items ≡ map (λ (lives : List LifeState). map bare lives) (take l.slot l.fn.slots.items) ++ drop l.slot l.fn.slots.items;
  len : length l.slots.items ≡ length l.fn.slots.items;
}
