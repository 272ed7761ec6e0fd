-- `Slots::len`: its clauses `count` and `slots`, and its checked operations.
use Rattle.std.proofs.Common.{sym, ◌∙◌, arith}
use Rattle.pt_slots.specs.State.{live_count}
use Rattle.pt_slots.proofs.Counts.{taken_split}
use Rattle.pt_slots.proofs.Taken.{taken_count}
use Rattle.pt_slots.proofs.Slots.len.Goals as goal

pub overflow_sub-result : goal.overflow_sub-result
overflow_sub-result g c = omega (arith, c.len.ensures, c.self.invariant.retired_is, taken_split c.self.inside.entries.slots)

pub returns-clause-count : goal.returns-clause-count
unfolding live_count
returns-clause-count g c = rw (← c.self.view_is) (omega (arith, c.len.ensures, c.self.invariant.retired_is, taken_split c.self.inside.entries.slots))

pub returns-clause-slots : goal.returns-clause-slots
returns-clause-slots g c =
    returns-clause-count g c ∙ sym (taken_count c.args.self.now (rw (← c.self.view_is) (λ slot h. c.self.invariant.none_past slot (omega (arith, h, c.self.invariant.slots_fit)))))
