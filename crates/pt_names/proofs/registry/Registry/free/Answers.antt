-- `Registry::free`: the invariant of `self`.
use Rattle.pt_names.proofs.Naming.{forgotten_one}
use Rattle.pt_names.proofs.registry.Registry.free.Goals as goal

pub invariant_of-self : goal.invariant_of-self
invariant_of-self c = record {
  one = forgotten_one c.args.pid c.args.self.now.names c.forget.result c.forget.new.self c.args.self.now.one c.forget.ensures;
}
