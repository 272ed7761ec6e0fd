-- `abandon`: what holds in its loop over `desk`.
use Rattle.std.proofs.Common.{vec_len}
use Rattle.pt_node.proofs.gathering.abandon.Given as goal

abbrev pub decreases-loop-desk : goal.decreases-loop-desk
decreases-loop-desk l = vec_len l.desks
