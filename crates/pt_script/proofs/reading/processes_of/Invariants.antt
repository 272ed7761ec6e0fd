-- `processes_of`: what holds in its loop over `pending`.
use Rattle.std.proofs.Common.{◌≡◌, map, drop}
use Rattle.pt_script.specs.Steps.{each}
use Rattle.pt_script.specs.Scopes.{naming}
use Rattle.pt_script.specs.Scripts.{next_list, no_lists, pending_view}
use Rattle.pt_script.proofs.reading.processes_of.Given as goal

abbrev pub invariant-loop-pending : goal.invariant-loop-pending
invariant-loop-pending l = each (next_list l.format (naming l.heads.names)) (record { processes = l.draft.processes.items; seen = l.draft.seen }) (drop l.pending-index (map pending_view l.heads.unread.items)) ≡ each (next_list l.format (naming l.heads.names)) no_lists (map pending_view l.heads.unread.items)
