-- The derived comparisons of values decide equality.
use Rattle.std.proofs.Common.{◌≡◌, true, arith}
use Rattle.std.proofs.lemmas.Grind.{common_steps}
use Rattle.pt_signal.specs.declared.ids.Ids.{Ids}
use Rattle.pt_signal.specs.declared.item.Item.{Item}
use Rattle.pt_signal.specs.declared.signal.Signal.{Signal}
use Rattle.pt_signal.specs.contracts.ids.IdsPartialEq.TheImpl.{ghosts as of_ids}
use Rattle.pt_signal.specs.contracts.item.ItemPartialEq.TheImpl.{ghosts as of_item}
use Rattle.pt_signal.specs.contracts.signal.SignalPartialEq.TheImpl.{ghosts as of_signal}

pub ids_is : (a b : Ids) → of_ids.eq a b ≡ true → a ≡ b
ids_is a b h = grind (arith, common_steps)

pub ids_refl : (a : Ids) → of_ids.eq a a ≡ true
ids_refl a = grind (arith, common_steps)

pub item_is : (i j : Item) → of_item.eq i j ≡ true → i ≡ j
item_is i j h = grind (arith, common_steps)

pub item_refl : (i : Item) → of_item.eq i i ≡ true
item_refl i = grind (arith, common_steps)

pub signal_is : (x y : Signal) → of_signal.eq x y ≡ true → x ≡ y
signal_is x y h = grind (arith, common_steps)

pub signal_refl : (x : Signal) → of_signal.eq x x ≡ true
signal_refl x = grind (arith, common_steps)
