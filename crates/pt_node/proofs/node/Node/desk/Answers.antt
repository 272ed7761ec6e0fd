-- `Node::desk`: its clause `desk`.
use Rattle.std.proofs.Common.{◌∙◌, arith}
use Rattle.pt_node.proofs.Calling.{number_is}
use Rattle.pt_node.proofs.node.Node.desk.Goals as goal

pub returns-clause-desk : goal.returns-clause-desk
returns-clause-desk c =
    number_is c.self.inside.desks.items _ c.index-desk.result.now (omega (arith, c.if-d-len.false, c.len.ensures, c.self.inside.desks.ok.0)) c.index-desk.ensures c.self.invariant c.journal.ensures.whole
    ∙ c.from-d.ensures
