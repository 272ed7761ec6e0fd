-- What holds of a list of children. No public clause cites this module.
use Rattle.std.specs.Prelude.{◌≡◌, true}
use Rattle.indexmap.specs.IndexMap.{get}
use Rattle.pt_signal.specs.Values.{same_pid}
use Rattle.pt_children.specs.declared.child_list.ChildList.TheInside.{Inside}
use Rattle.pt_children.specs.Spans.{AreSpans, KnowsPlaces}

-- the places of each kind are right, and those of the processes, if they are known
pub record IsChildList (s : Inside) : Type 0 where
  pub spans : AreSpans s.spans s.items.items
  pub known : s.knows ≡ true → KnowsPlaces (get same_pid s.places) s.items.items
