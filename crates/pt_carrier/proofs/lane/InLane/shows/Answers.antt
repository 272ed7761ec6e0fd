-- `InLane::shows`: its clause `looked`.
use Rattle.rtrb.specs.Ring.{known_items}
use Rattle.pt_carrier.specs.Lanes.{on_lane}
use Rattle.pt_carrier.proofs.Lists.{IsPrefix-map}
use Rattle.pt_carrier.proofs.lane.InLane.shows.Goals as goal

pub returns-clause-looked : goal.returns-clause-looked
returns-clause-looked c =
    let open_letter = on_lane c.self.inside.from c.self.inside.to in
    rw (← c.self.view_is) (IsPrefix-map open_letter (known_items c.self.inside.ring) (known_items c.is_empty.new.self) c.is_empty.ensures.looked.2)
