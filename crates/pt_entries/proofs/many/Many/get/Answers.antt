-- `Many::get`: its contract.
use Rattle.std.proofs.Common.{sym, ap, ◌∙◌}
use Rattle.std.specs.Option.{option_flatten}
use Rattle.std.specs.Map.{lookup}
use Rattle.pt_entries.proofs.GapLemmas.{lookup-present}
use Rattle.pt_entries.proofs.many.Many.get.Goals as goal

pub returns-in-Some : goal.returns-in-Some
returns-in-Some g c =
    ap option_flatten c.in-Some.ensures.value
    ∙ sym (lookup-present g.met.K.Eq.laws c.args.key.now c.self.inside.places.entries c.self.invariant.distinct)
    ∙ ap (λ m. lookup (g.K.PartialEq.eq c.args.key.now) m.entries) c.self.view_is

pub returns-in-None : goal.returns-in-None
returns-in-None g c =
    ap option_flatten c.in-None.ensures.value
    ∙ sym (lookup-present g.met.K.Eq.laws c.args.key.now c.self.inside.places.entries c.self.invariant.distinct)
    ∙ ap (λ m. lookup (g.K.PartialEq.eq c.args.key.now) m.entries) c.self.view_is
