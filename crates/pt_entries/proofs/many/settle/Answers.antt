-- `settle`: its clause `counted`, and its checked operations.
use Rattle.std.proofs.Common.{rules}
use Rattle.pt_entries.proofs.many.settle.Goals as goal

pub overflow_mul-count : goal.overflow_mul-count
overflow_mul-count g c = search rules

pub returns-else-len-count-clause-counted : goal.returns-else-len-count-clause-counted
returns-else-len-count-clause-counted g c = search rules
