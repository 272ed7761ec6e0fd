-- The lanes of a node: what was collected is the front of what was posted.
use Rattle.std.proofs.Common.{◌≡◌, ◌⊎◌, ⊎_elim, ℕ, ◌<◌, List, [], ◌++◌, map, get_or, sym, ap, ◌∙◌, subst, append-nil, arith}
use Rattle.pt_desk.specs.DeskState.{DeskState, collected_from}
use Rattle.pt_workers.specs.Desks.{desk_kept}
use Rattle.pt_workers.specs.Looking.{AreMet, HaveLanes}
use Rattle.pt_workers.specs.Stillness.{AreStill}
use Rattle.pt_workers.proofs.Meeting.{kept_collected, kept_count, kept_posted}

pub met_lanes : (desks : List DeskState) → AreMet desks → HaveLanes desks
met_lanes desks met d e x h k = (get_or (get_or desks e x).ins.known d [], (met d e h k).whole x)

kept_lanes : (old new : List DeskState) → map desk_kept new ≡ map desk_kept old → HaveLanes new → HaveLanes old
kept_lanes old new kept lanes d e x h k =
    let count = kept_count new old kept in
    let lane = lanes d e x (omega (arith, h, count)) (omega (arith, k, count)) in
    (lane.0, sym (kept_posted new old kept d e x h) ∙ lane.1 ∙ ap (λ ls. ls ++ lane.0) (kept_collected new old kept e d x k))

pub still_lanes : (desks : List DeskState) → AreStill desks → HaveLanes desks
still_lanes desks still d e x h k = ([], (still.ways d e h k).lane x ∙ sym (append-nil (collected_from (get_or desks e x) d)))

-- those of the desks before the first round, once that has looked at them
abbrev pub Looked : (old now : List DeskState) (quiet : ℕ) → Type 0
Looked old now quiet = ((quiet ≡ 0) × (now ≡ old)) ⊎ HaveLanes old

pub first_looked : (old now met : List DeskState) (quiet : ℕ) → Looked old now quiet → map desk_kept met ≡ map desk_kept now → AreMet met → HaveLanes old
first_looked old now met quiet looked kept are_met =
    ⊎_elim (λ h. subst HaveLanes h.1 (kept_lanes now met kept (met_lanes met are_met))) (λ h. h) looked

pub were_looked : (old now : List DeskState) (quiet : ℕ) → 0 < quiet → Looked old now quiet → HaveLanes old
were_looked old now quiet some looked = ⊎_elim (λ h. absurd (omega (arith, some, h.0))) (λ h. h) looked
