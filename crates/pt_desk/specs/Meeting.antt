-- A desk looks at the lane that comes to it from a desk, from both ends.
use Rattle.std.specs.Prelude.{◌≡◌}
use Rattle.pt_carrier.specs.Meeting.{HaveMet}
use Rattle.pt_desk.specs.DeskState.{DeskState}

-- two desks looked at the lane from the one to the other; nothing else of them has changed
pub record DesksMeet (from to from' to' : DeskState) : Type 0 where
  pub from_kept : from' ≡ record from { outs = from'.outs }
  pub to_kept : to' ≡ record to { ins = to'.ins }
  pub met : HaveMet from.outs to.ins from'.outs to'.ins

-- a desk looked so at the lane from itself to itself
pub record MeetsItself (old new : DeskState) : Type 0 where
  pub kept : new ≡ record old { outs = new.outs; ins = new.ins }
  pub met : HaveMet old.outs old.ins new.outs new.ins
