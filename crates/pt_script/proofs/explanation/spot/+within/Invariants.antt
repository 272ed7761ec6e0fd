-- `text_within`: its measure.
use Rattle.pt_script.proofs.explanation.spot.+within.Given as goal

abbrev pub decreases-text_within : goal.decreases-text_within
decreases-text_within l = l.levels
