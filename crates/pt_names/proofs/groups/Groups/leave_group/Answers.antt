-- `Groups::leave_group`: the invariant of `self`.
use Rattle.std.proofs.Common.{sym, ◌∙◌}
use Rattle.pt_names.specs.Groups.{GroupsState}
use Rattle.pt_names.proofs.Grouped.{left_all, left_one, is_there}
use Rattle.pt_names.proofs.groups.Groups.leave_group.Goals as goal

pub invariant_of-self-then-last : goal.invariant_of-self-then-last
invariant_of-self-then-last c =
    let was = c.in-Some.joined.now in
    let «is» = c.leave-last.new.self in
    let old : GroupsState = record { placed = c.self.inside.table; watched = c.self.inside.watched.entries } in
    let mid : GroupsState = record { placed = c.remove.new.self; watched = (c.get_mut.follows.lender «is»).entries } in
    left_all c.args.group c.args.pid was «is» old (record { placed = c.remove.new.self; watched = c.swap_remove.new.self.entries })
    c.self.invariant c.in-Some.ensures.value c.remove.ensures c.leave-last.ensures.groups mid
    ((c.get_mut.follows.holds «is»).3 (is_there _ was c.in-Some.ensures.value)).0 c.swap_remove.ensures.updates.0
    (c.leave-last.ensures.empty.0 c.if-last.true)

pub invariant_of-self-else-last : goal.invariant_of-self-else-last
invariant_of-self-else-last c =
    let was = c.in-Some.joined.now in
    let «is» = c.leave-last.new.self in
    left_one c.args.group c.args.pid was «is» (record { placed = c.self.inside.table; watched = c.self.inside.watched.entries })
    (record { placed = c.remove.new.self; watched = (c.get_mut.follows.lender «is»).entries }) c.self.invariant
    c.in-Some.ensures.value c.remove.ensures c.leave-last.ensures.groups
    ((c.get_mut.follows.holds «is»).3 (is_there _ was c.in-Some.ensures.value)).0
    (λ none. absurd (let h = sym c.if-last.false ∙ c.leave-last.ensures.empty.1 none in cc))
