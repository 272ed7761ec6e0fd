-- `Registry::unregister`: the invariant of `self`.
use Rattle.pt_names.proofs.Naming.{unregistered_one}
use Rattle.pt_names.proofs.registry.Registry.unregister.Goals as goal

pub invariant_of-self : goal.invariant_of-self
invariant_of-self c = record {
  one = unregistered_one c.args.name c.args.self.now.names c.unregister.result c.unregister.new.self c.args.self.now.one c.unregister.ensures;
}
