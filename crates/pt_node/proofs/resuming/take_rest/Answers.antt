-- `take_rest`: its clause `capacity`, which its call of `open` asks.
use Rattle.pt_node.proofs.resuming.take_rest.Goals as goal

pub open-requires-clause-capacity : goal.open-requires-clause-capacity
open-requires-clause-capacity c = (c.requires.range.some_lane, c.requires.range.lane)
