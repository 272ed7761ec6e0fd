-- `watches_of`: what holds in its loop over `watch`.
use Rattle.std.proofs.Common.{◌≡◌, ◌-◌, length, take, vec_len}
use Rattle.pt_gathered.proofs.resumed.watches_of.Given as goal

abbrev pub invariant-loop-watch : goal.invariant-loop-watch
invariant-loop-watch l = l.watches.items ≡ take (vec_len l.watches) l.process.state.kept

abbrev pub decreases-loop-watch : goal.decreases-loop-watch
decreases-loop-watch l = length l.process.state.kept - vec_len l.watches
