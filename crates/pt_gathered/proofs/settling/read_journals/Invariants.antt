-- `read_journals`: what holds in its loop over `which`.
use Rattle.pt_gathered.specs.Tables.{AreTables}
use Rattle.pt_gathered.proofs.Told.{AreReadBelow}
use Rattle.pt_gathered.proofs.settling.read_journals.Given as goal

abbrev pub invariant-loop-which : goal.invariant-loop-which
invariant-loop-which l = record {
  tables : AreTables l.node.shards l.lives.items;
  told : AreReadBelow l.which l.node l.lives.items;
}
