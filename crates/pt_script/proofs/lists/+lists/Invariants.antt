-- `+lists`: what holds in its loop over `read_spawn`, `read_process`, `read_list`, `read_operation` and `read_list-loop-index`.
use Rattle.std.proofs.Common.{◌≡◌, ◌+◌, ◌*◌, ◌≤◌, List, ◌++◌, map, drop, vec_len}
use Rattle.serde_json.specs.View.{view}
use Rattle.pt_script.specs.Plans.{Plan}
use Rattle.pt_script.specs.Lists.{list_at, list_from}
use Rattle.pt_script.specs.Scopes.{scope_view}
use Rattle.pt_script.proofs.ListFacts.{behind}
use Rattle.pt_script.proofs.lists.+lists.Given as goal

abbrev pub decreases-read_spawn : goal.decreases-read_spawn
decreases-read_spawn l = 4 * l.levels + 3

abbrev pub decreases-read_process : goal.decreases-read_process
decreases-read_process l = 4 * l.levels + 2

abbrev pub decreases-read_list : goal.decreases-read_list
decreases-read_list l = 4 * l.levels + 1

abbrev pub decreases-read_operation : goal.decreases-read_operation
decreases-read_operation l = 4 * l.levels

-- what stands so far, and then the rest of the list, is the whole list
abbrev pub invariant-read_list-loop-index : goal.invariant-read_list-loop-index
invariant-read_list-loop-index l = record {
  index : l.index ≤ l.draft.seen;
  made : l.scope.made ≤ l.draft.seen;
  grown : l.initial.draft.seen ≤ l.draft.seen;
  read : (inside : List Plan) × (l.draft.processes.items ≡ l.initial.draft.processes.items ++ inside) × (behind l.operations.items inside (list_from l.levels l.index (scope_view l.scope) (vec_len l.draft.processes) l.draft.seen (drop l.index (map view l.list))) ≡ list_at l.levels (scope_view l.initial.scope) (vec_len l.initial.draft.processes) l.initial.draft.seen (map view l.list));
}
