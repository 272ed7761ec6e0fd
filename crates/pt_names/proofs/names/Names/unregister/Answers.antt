-- `Names::unregister`: the invariant of `self`.
use Rattle.std.proofs.Common.{◌≡◌, Some, sym, ap}
use Rattle.std.specs.Option.{option_map}
use Rattle.pt_names.specs.declared.names.Holder.{Holder}
use Rattle.pt_names.specs.State.{state, holder_of}
use Rattle.pt_names.proofs.Sound.{removed}
use Rattle.pt_names.proofs.names.Names.unregister.Goals as goal

pub invariant_of-self-2 : goal.invariant_of-self-2
invariant_of-self-2 c =
    let old = state c.self.inside.holders c.self.inside.names in
    let has : holder_of old c.args.name ≡ Some c.in_ok-holder.holder = sym c.in_ok-holder.ensures.value in
    removed old (state c.swap_remove.new.self c.swap_remove-2.new.self) c.self.invariant c.args.name
    c.in_ok-holder.holder.pid (ap (option_map (λ (x : Holder). x.pid)) has)
    (c.self.invariant.has_name c.args.name c.in_ok-holder.holder has)
    (record { holders = c.swap_remove.ensures.updates.0; names = c.swap_remove-2.ensures.updates.0 })
