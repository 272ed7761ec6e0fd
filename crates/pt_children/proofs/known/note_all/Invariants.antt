-- `note_all`: what holds in its loop over `place`.
use Rattle.indexmap.specs.IndexMap.{get}
use Rattle.pt_signal.specs.Values.{same_pid}
use Rattle.pt_children.specs.Spans.{KnowsBelow}
use Rattle.pt_children.proofs.known.note_all.Given as goal

abbrev pub invariant-loop-place : goal.invariant-loop-place
invariant-loop-place l = KnowsBelow l.place (get same_pid l.places) l.children
