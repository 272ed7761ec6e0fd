-- The stages of going on with a node that need no crew.
use Rattle.std.specs.Prelude.{◌≡◌, ℕ, zero, suc, Bool, false, ◌||◌, MatchBool, List, is_some}
use Rattle.pt_desk.specs.DeskState.{DeskState}
use Rattle.pt_gathered.specs.Gathered.{GatheredState}
use Rattle.pt_c_desks.specs.declared.quiet_node.QuietNode.{QuietNode}
use Rattle.pt_c_values.specs.Codes.{filled}
use Rattle.pt_c_values.specs.Places.{HandlePlace, value_behind, values}
use Rattle.pt_c_tools.specs.Nodes.{GathersAs, SettlesAs}
use Rattle.pt_c_values.specs.Filling.{IfEmpty, IfNone}

-- a stage returned the first code. If it is 0, P holds, of what comes behind the stage; else it is the code of the call, and
-- all else was kept
abbrev pub IfPassed : ℕ → ℕ → Type 0 → Type 0 → Type 0
IfPassed zero code kept P = P
IfPassed (suc n) code kept P = (code ≡ suc n) × kept

-- whether the handle has one
abbrev pub has : {S : Type 0} → HandlePlace S → Bool
has p = is_some (value_behind p)

-- the desks are gathered; or they were before, and their handles have to be empty
abbrev pub GathersFirst : ℕ → List (HandlePlace DeskState) → List (HandlePlace DeskState) → HandlePlace GatheredState
    → HandlePlace GatheredState → HandlePlace QuietNode → Type 0
GathersFirst code old new before after settled =
    MatchBool (has before || has settled)
    ((new ≡ old) × (after ≡ before) × IfNone (values old) (code ≡ 0) (code ≡ filled))
    (GathersAs code old new before after)

-- the node is settled; or it was before, and then there is no other
abbrev pub SettlesFirst : ℕ → HandlePlace GatheredState → HandlePlace GatheredState → HandlePlace QuietNode → HandlePlace QuietNode
    → Type 0
SettlesFirst code old new before after =
    MatchBool (has before)
    ((new ≡ old) × (after ≡ before) × IfEmpty old (code ≡ 0) (code ≡ filled))
    (SettlesAs false code old new before after)
