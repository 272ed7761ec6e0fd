-- `Node::spawn`: its clause `home`, and the invariant of `self`.
use Rattle.std.proofs.Common.{◌≡◌, true, ◌∙◌, sym, subst}
use Rattle.std.specs.Prelude.{IfOk}
use Rattle.pt_signal.specs.declared.pid.Pid.{Pid}
use Rattle.pt_shard.specs.Known.{knows}
use Rattle.pt_node.proofs.Calling.{answered_if, called_at, number_is}
use Rattle.pt_node.proofs.node.Node.spawn.Goals as goal

pub invariant_of-self-2 : goal.invariant_of-self-2
invariant_of-self-2 c = called_at c.self.invariant c.in_ok-at.ensures.desk c.spawn.ensures.goes_on

pub returns-clause-home : goal.returns-clause-home
returns-clause-home c =
    let here = c.in_ok-at.ensures.desk in
    subst (λ r. IfOk r (λ (p : Pid). p.shard ≡ c.args.desk)) (sym c.called.ensures)
    (answered_if (λ (p : Pid). (p.shard ≡ c.spawn.new.self.shard.number) × (knows c.spawn.new.self.shard p ≡ true)) (λ (p : Pid). p.shard ≡ c.args.desk) c.spawn.result
    (λ p h. h.0 ∙ c.spawn.ensures.goes_on.shard.number ∙ number_is c.self.inside.desks.items c.args.desk c.in_ok-at.at.now here.0 here.1 c.self.invariant c.journal.ensures.whole) c.spawn.ensures.known)
