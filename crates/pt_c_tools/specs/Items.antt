-- The items that C passes, as the table's own.
use Rattle.std.specs.Prelude.{◌≡◌, ℕ, ◌==◌, cond, Option, Some, None}
use Rattle.std.specs.Option.{option_map}
use Rattle.pt_signal.specs.declared.reason.Reason.{Reason}
use Rattle.pt_signal.specs.declared.item.Item.{Item}
use Rattle.pt_signal.specs.declared.item.Item.TheVariants.{User, Exit, Down, Alive}
use Rattle.pt_c_values.specs.declared.types.PtItem.{PtItem}
use Rattle.pt_c_values.specs.Crossing.{body_in, item_out, pid_crossed, reason_in, ref_in}

abbrev pub item_in_c : ℕ → PtItem → Option Item
item_in_c code i =
    cond (code == 0) (Some (User (pid_crossed i.pid) (body_in i.body)))
    (cond (code == 1) (option_map (λ (r : Reason). Exit (pid_crossed i.pid) r) (reason_in i.reason))
    (cond (code == 2) (option_map (λ (r : Reason). Down (ref_in i.reference) (pid_crossed i.pid) r) (reason_in i.reason))
    (cond (code == 3) (Some (Alive (ref_in i.reference) (pid_crossed i.pid) i.alive)) None)))

-- none, where its code, or that of the reason which counts, means nothing
abbrev pub item_in : PtItem → Option Item
item_in i = item_in_c i.code i

-- what is passed out of an item is read as that item
abbrev pub ItemsCross : Type 0
ItemsCross = (i : Item) → item_in (item_out i) ≡ Some i
