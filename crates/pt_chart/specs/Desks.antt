-- Processes in order of first appearance, and these desk by desk. No public clause cites this module.
use Rattle.std.specs.Prelude.{◌≡◌, ℕ, zero, suc, ◌<◌, ◌==◌, Bool, cond, List, [], ◌∷◌, ◌++◌, fold, All}
use Rattle.std.specs.List.{list_any, filter}
use Rattle.pt_signal.specs.declared.pid.Pid.{Pid}
use Rattle.pt_signal.specs.Values.{same_pid}
use Rattle.pt_events.specs.declared.event.Event.{Event}
use Rattle.pt_events.specs.declared.event.Stamped.{Stamped}
use Rattle.pt_chart.specs.Chart.{named_columns}

-- one more is behind the others, unless it is among them
abbrev pub add_last : List Pid → Pid → List Pid
add_last ps p = cond (list_any (same_pid p) ps) ps (ps ++ p ∷ [])

abbrev pub add_named : List Pid → Event → List Pid
add_named ps e = fold add_last ps (named_columns e)

-- each that is named, once, in order of first appearance
abbrev pub named : List Stamped → List Pid
named events = fold (λ ps s. add_named ps s.event) [] events

abbrev pub on_desk : ℕ → Pid → Bool
on_desk desk p = p.shard == desk

-- those of so many desks, desk by desk
abbrev pub by_desk : ℕ → List Pid → List Pid
by_desk zero ps = []
by_desk (suc desk) ps = by_desk desk ps ++ filter (on_desk desk) ps

-- the others are these, desk by desk
pub record AreInDesks (ps qs : List Pid) : Type 0 where
  pub desks : ℕ
  pub below : All (λ p. p.shard < desks) ps
  pub is : qs ≡ by_desk desks ps
