-- `Groups::groups_of`: its clause `distinct` of a process that is in no group.
use Rattle.pt_names.specs.Groups.{same_group}
use Rattle.pt_names.proofs.Grouped.{none_distinct}
use Rattle.pt_names.proofs.groups.Groups.groups_of.Goals as goal

pub returns-in-None-clause-distinct : goal.returns-in-None-clause-distinct
returns-in-None-clause-distinct c = none_distinct same_group
