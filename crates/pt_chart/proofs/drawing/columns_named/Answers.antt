-- `columns_named`: its clauses `named` and `sorted`.
use Rattle.std.proofs.lemmas.List.Sorted.{IsNonDecreasingBy-from_sort}
use Rattle.pt_chart.proofs.Naming.{named_moved}
use Rattle.pt_chart.proofs.drawing.columns_named.Goals as goal

pub returns-clause-named : goal.returns-clause-named
returns-clause-named c = named_moved c.args.block.now c.args.pids.now c.in_ok-named.named.items c.sort_unstable.new.self.items c.sort_unstable.ensures.permutation c.in_ok-named.ensures

pub returns-clause-sorted : goal.returns-clause-sorted
returns-clause-sorted c = IsNonDecreasingBy-from_sort (λ n. n) c.sort_unstable.new.self.items c.sort_unstable.ensures.sorted
