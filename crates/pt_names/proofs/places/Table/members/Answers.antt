-- `Table::members`: its clause `distinct` of a group with no member.
use Rattle.pt_signal.specs.Values.{same_pid}
use Rattle.pt_names.proofs.Grouped.{none_distinct}
use Rattle.pt_names.proofs.places.Table.members.Goals as goal

pub returns-in-None-clause-distinct : goal.returns-in-None-clause-distinct
returns-in-None-clause-distinct c = none_distinct same_pid
