-- What a desk tells C of what it lost.
use Rattle.std.specs.Prelude.{◌≡◌, ℕ, Bool, is_some, length, drop, slice_get, Option, Some, None}
use Rattle.pt_signal.specs.declared.item.Item.{Item}
use Rattle.pt_shard.specs.declared.loss.Loss.{Loss}
use Rattle.pt_shard.specs.Losses.{items_lost, loser, reason_lost}
use Rattle.pt_desk.specs.DeskState.{DeskState, GoesOn}
use Rattle.pt_c_values.specs.declared.types.PtLoss.{PtLoss}
use Rattle.pt_c_values.specs.Codes.{some_code}
use Rattle.pt_c_values.specs.Crossing.{loss_numbered, pid_out, reason_or_none}

abbrev pub loss_out : Loss → PtLoss
loss_out l = record {
  has_exited = is_some (reason_lost l);
  pid = pid_out (loser l);
  reason = reason_or_none (reason_lost l);
  items = length (items_lost l);
}

-- its item with this number
abbrev pub item_lost : Option Loss → ℕ → Option Item
item_lost None place = None
item_lost (Some l) place = slice_get (items_lost l) place

abbrev pub KeepsLosses : Bool → ℕ → DeskState → DeskState → Type 0
KeepsLosses on code old new =
    (code ≡ 0) × (new ≡ record old { shard = record old.shard { keeps = on } }) × GoesOn old new

-- the oldest is told, and kept no longer
abbrev pub PassesLoss : ℕ → DeskState → DeskState → Type 0
PassesLoss code old new =
    (code ≡ some_code (loss_numbered old 0))
    × (new ≡ record old { shard = record old.shard { lost = drop 1 old.shard.lost } }) × GoesOn old new
