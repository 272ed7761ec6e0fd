-- `Table::remove`: the invariant of `self`.
use Rattle.std.proofs.Common.{sym, ◌∙◌}
use Rattle.pt_names.proofs.Grouped.{taken_out, stays}
use Rattle.pt_names.proofs.places.Table.remove.Goals as goal

pub invariant_of-self : goal.invariant_of-self
invariant_of-self c =
    taken_out c.args.group c.args.pid c.self.inside.groups.entries c.take_out.new.groups.entries c.swap_remove.new.self.entries
    c.self.invariant c.take_out.ensures.places c.swap_remove.ensures.updates.0

pub invariant_of-self-then-take_out-2 : goal.invariant_of-self-then-take_out-2
invariant_of-self-then-take_out-2 c =
    taken_out c.args.group c.args.pid c.self.inside.groups.entries c.take_out.new.groups.entries c.swap_remove.new.self.entries
    c.self.invariant c.take_out.ensures.places c.swap_remove.ensures.updates.0

pub invariant_of-self-else-take_out : goal.invariant_of-self-else-take_out
invariant_of-self-else-take_out c =
    stays c.args.group c.args.pid c.self.inside.groups.entries c.take_out.new.groups.entries c.self.invariant
    c.take_out.ensures.places (λ e. absurd (let h = sym c.if-take_out.false ∙ c.take_out.ensures.empty.1 e in cc))
