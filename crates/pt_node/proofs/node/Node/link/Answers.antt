-- `Node::link`: the invariant of `self`.
use Rattle.pt_node.proofs.Calling.{called_at}
use Rattle.pt_node.proofs.node.Node.link.Goals as goal

pub invariant_of-self-2 : goal.invariant_of-self-2
invariant_of-self-2 c = called_at c.self.invariant c.in_ok-desk_knowing.ensures.desk.0 c.link.ensures.goes_on
