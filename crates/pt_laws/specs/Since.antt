-- What was made in a history and has not been undone since then.
use Rattle.std.specs.Prelude.{◌≡◌, Bool, false, not, ◌⊎◌, List, [], ◌∷◌, ◌++◌, filter, Contains, ⊤}
use Rattle.pt_events.specs.declared.event.Event.{Event}
use Rattle.pt_events.specs.History.{Past}

-- first: what stood at the start; makes, undoes: what an event makes or undoes after the events before it
module _ {X : Type 0} (first : List X) (makes : Past → Event → List X) (undoes : Past → Event → X → Bool) where
  -- in the order of making
  abbrev pub standing : Past → List X
  standing [] = first
  standing (e ∷ past) = filter (λ x. not (undoes past e x)) (standing past) ++ makes past e

  -- no event of later, which follows before, undoes x
  abbrev pub IsUntouched : X → Past → Past → Type 0
  IsUntouched x [] before = ⊤
  IsUntouched x (e ∷ later) before = (undoes (later ++ before) e x ≡ false) × IsUntouched x later before

  -- an event of the history made x, and no later one undid it
  pub record WasMade (past : Past) (x : X) : Type 0 where
    pub later : Past
    pub event : Event
    pub before : Past
    pub split : past ≡ later ++ event ∷ before
    pub made : Contains (makes before event) x
    pub untouched : IsUntouched x later (event ∷ before)

  abbrev pub StandsSince : Past → X → Type 0
  StandsSince past x = WasMade past x ⊎ (Contains first x × IsUntouched x past [])
