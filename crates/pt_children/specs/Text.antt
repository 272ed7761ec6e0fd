-- The printed texts, as lists of characters.
use Rattle.std.specs.Prelude.{ℕ, Bool, true, false, List, ◌++◌, codes, decimal}
use Rattle.pt_signal.specs.Text.{reason_text}
use Rattle.pt_children.specs.declared.gave_up.GaveUp.{GaveUp}

-- what a span is of
unfoldable pub unit_text : Bool → List ℕ
unit_text true = codes "of time"
unit_text false = codes "stamps"

-- `N restarts within SPAN UNIT`
unfoldable pub restarts_text : ℕ → ℕ → Bool → List ℕ
restarts_text count span timed = decimal count ++ codes " restarts within " ++ decimal span ++ codes " " ++ unit_text timed

-- `child ID in place PLACE exited with REASON after N restarts within SPAN UNIT`
unfoldable pub gave_up_text : GaveUp → List ℕ
gave_up_text g =
    codes "child " ++ decimal g.id ++ codes " in place " ++ decimal g.place ++ codes " exited with " ++ reason_text g.reason
    ++ codes " after " ++ restarts_text g.restarts g.span g.timed
