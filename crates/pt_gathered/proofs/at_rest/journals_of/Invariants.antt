-- `journals_of`: what holds in its loop over `which`.
use Rattle.std.proofs.Common.{take}
use Rattle.pt_gathered.specs.History.{AreJournalsOf}
use Rattle.pt_gathered.proofs.at_rest.journals_of.Given as goal

abbrev pub invariant-loop-which : goal.invariant-loop-which
invariant-loop-which l = AreJournalsOf l.journals.items (take l.which l.shards)
