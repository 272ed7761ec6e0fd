-- `AtRest::list_between`: what holds in its loop over `letter`.
use Rattle.std.proofs.Common.{◌≡◌, ◌-◌, ◌≤◌, ◌++◌, length, map, drop, vec_len}
use Rattle.pt_gathered.specs.Gathered.{over_in}
use Rattle.pt_gathered.specs.LeftOvers.{from_to, left_between}
use Rattle.pt_gathered.proofs.at_rest.AtRest.list_between.Given as goal

abbrev pub invariant-loop-letter : goal.invariant-loop-letter
invariant-loop-letter l = record {
  after : l.before ≤ vec_len l.left;
  listed : l.left.items ++ map (from_to l.d l.e) (drop (vec_len l.left - l.before) (over_in l.self.shards l.self.lanes l.d l.e)) ≡ l.fn.left.items ++ left_between l.self l.d l.e;
}

abbrev pub decreases-loop-letter : goal.decreases-loop-letter
decreases-loop-letter l = length (over_in l.self.shards l.self.lanes l.d l.e) - (vec_len l.left - l.before)
