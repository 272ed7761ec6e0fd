-- A settled node in its handle.
use Rattle.std.specs.Prelude.{Bool, true, false}
use Rattle.pt_gathered.specs.Quiet.{QuietState}
use Rattle.pt_c_desks.specs.declared.quiet_node.QuietNode.{QuietNode}
use Rattle.pt_c_desks.specs.declared.quiet_node.QuietNode.TheVariants.{Listed, Unlisted}

-- the node itself
abbrev pub node_of : QuietNode → QuietState
node_of (Listed q) = q
node_of (Unlisted q) = q

-- whether it has the list of its pids
abbrev pub is_listed : QuietNode → Bool
is_listed (Listed q) = true
is_listed (Unlisted q) = false
