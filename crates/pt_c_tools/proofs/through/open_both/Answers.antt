-- `open_both`: its contract, where there was memory.
use Rattle.std.proofs.Common.{inl, refl, sym, ◌∙◌}
use Rattle.pt_c_tools.proofs.EmptyPlaces.{where_neither, where_some}
use Rattle.pt_c_tools.proofs.through.open_both.Goals as goal

pub returns : goal.returns
returns c =
    let ends = c.in-Ok-open in
    where_neither _ _ _ _ (sym c.is_full-has_door.ensures.full ∙ c.if-has_door.false) (sym c.is_full-has_way_in.ensures.full ∙ c.if-has_way_in.false)
    (where_some c.args.places _ _ c.if-places-eq0.false
    (inl (refl, ends.door, ends.way_in, record { pair = ends.ensures.pair; door = ends.ensures.door; way_in = ends.ensures.way_in }, c.filled.ensures, c.filled-2.ensures)))
