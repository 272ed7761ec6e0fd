-- `Registry::keep`: the invariant of `self`.
use Rattle.pt_names.proofs.Naming.{registered_one}
use Rattle.pt_names.proofs.registry.Registry.keep.Goals as goal

pub invariant_of-self : goal.invariant_of-self
invariant_of-self c = record {
  one = registered_one c.args.name c.args.pid c.args.reference c.args.self.now.names c.register.result c.register.new.self c.args.self.now.one c.register.ensures;
}
