-- `print_history`: its clause `untouched`.
use Rattle.std.proofs.Common.{rules}
use Rattle.pt_report.proofs.history.print_history.Goals as goal

pub returns-clause-untouched : goal.returns-clause-untouched
returns-clause-untouched g c = search rules
