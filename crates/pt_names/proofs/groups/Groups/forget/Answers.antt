-- `Groups::forget`: the invariant of `self`.
use Rattle.std.proofs.Common.{sym, subst}
use Rattle.pt_names.specs.Groups.{Clears}
use Rattle.pt_names.proofs.Grouped.{forgotten}
use Rattle.pt_names.proofs.groups.Groups.forget.Goals as goal

pub invariant_of-self-2 : goal.invariant_of-self-2
invariant_of-self-2 c =
    let p = c.args.pid in
    forgotten p c.in_ok-joined.joined (record { placed = c.self.inside.table; watched = c.self.inside.watched.entries })
    (record { placed = c.clear.new.table; watched = c.swap_remove.new.self.entries }) c.self.invariant
    (sym c.in_ok-joined.ensures.value)
    (subst (λ gs. Clears gs p c.self.inside.table c.clear.new.table) c.groups.ensures.same c.clear.ensures)
    c.swap_remove.ensures.updates.0
