-- `Gathered::of`: the invariant of `result`.
use Rattle.std.proofs.Common.{sym, subst}
use Rattle.pt_gathered.specs.Gathered.{GatheredState}
use Rattle.pt_gathered.specs.Keeping.{IsKeptOf}
use Rattle.pt_gathered.specs.Tables.{AreTables}
use Rattle.pt_gathered.proofs.Keeping.{kept_at_first}
use Rattle.pt_gathered.proofs.gathered.Gathered.of.Goals as goal

pub invariant_of-result : goal.invariant_of-result
invariant_of-result c = (
  subst (λ (g : GatheredState). AreTables g.shards c.args.lives.items) (sym c.of.ensures) c.requires.tables,
  kept_at_first c.of.result c.args.kept (subst (λ (g : GatheredState). IsKeptOf g c.args.kept) (sym c.of.ensures) c.requires.kept),
)
