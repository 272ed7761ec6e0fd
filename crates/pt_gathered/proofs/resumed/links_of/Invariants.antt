-- `links_of`: what holds in its loop over `link`.
use Rattle.std.proofs.Common.{◌≡◌, ◌-◌, length, take, vec_len}
use Rattle.pt_gathered.proofs.resumed.links_of.Given as goal

abbrev pub invariant-loop-link : goal.invariant-loop-link
invariant-loop-link l = l.links.items ≡ take (vec_len l.links) l.process.state.links

abbrev pub decreases-loop-link : goal.decreases-loop-link
decreases-loop-link l = length l.process.state.links - vec_len l.links
