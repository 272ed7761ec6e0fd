-- The worked histories, by computation.
use Rattle.std.proofs.Common.{[], refl, rules}
use Rattle.pt_events.specs.History.{IsLegal}
use Rattle.pt_history.specs.Examples.{TenLines, Cascade, EarlyLink, ten_lines, cascade, early}

ten_lines_legal : IsLegal [] ten_lines
ten_lines_legal = (refl, (refl, ((refl, refl), (refl, ((refl, tt), ((refl, refl), (refl, ((refl, tt), ((refl, tt), ((refl, tt), tt))))))))))

pub ten_lines_hold : TenLines
ten_lines_hold = (ten_lines_legal, refl)

cascade_legal : IsLegal [] cascade
cascade_legal = search rules

pub cascade_holds : Cascade
cascade_holds = (cascade_legal, refl, refl)

early_legal : IsLegal [] early
early_legal = search rules

pub early_link : EarlyLink
early_link = (early_legal, refl, refl, refl, refl, refl)
