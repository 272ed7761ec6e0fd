-- `Names::forget`: the invariant of `self`.
use Rattle.std.proofs.Common.{◌≡◌, Some, sym}
use Rattle.pt_names.specs.State.{state, name_at}
use Rattle.pt_names.proofs.Sound.{removed}
use Rattle.pt_names.proofs.names.Names.forget.Goals as goal

pub invariant_of-self-2 : goal.invariant_of-self-2
invariant_of-self-2 c =
    let old = state c.self.inside.holders c.self.inside.names in
    let has : name_at old c.args.pid ≡ Some c.in_ok-name.name = sym c.in_ok-name.ensures.value in
    removed old (state c.swap_remove-2.new.self c.swap_remove.new.self) c.self.invariant c.in_ok-name.name c.args.pid
    (c.self.invariant.has_process c.args.pid c.in_ok-name.name has) has
    (record { holders = c.swap_remove-2.ensures.updates.0; names = c.swap_remove.ensures.updates.0 })
