-- What filling a handle and giving up what it has answer C, and what they leave in it.
use Rattle.std.specs.Prelude.{◌≡◌, ℕ, ◌∷◌, List, [], Some, None, is_some, cond}
use Rattle.pt_c_values.specs.Places.{HandlePlace, value_behind, empty}

-- where none of the handles has a value; else the code says so
abbrev pub IfNone : {S : Type 0} → List S → Type 0 → Type 0 → Type 0
IfNone [] P Q = P
IfNone (s ∷ values) P Q = Q

abbrev pub IfEmpty : {S : Type 0} → HandlePlace S → Type 0 → Type 0 → Type 0
IfEmpty (Some (Some s)) P Q = Q
IfEmpty _ P Q = P

-- the handle is empty; the code says whether it was before
abbrev pub GivesUp : {S : Type 0} → ℕ → HandlePlace S → HandlePlace S → Type 0
GivesUp code old new = (code ≡ cond (is_some (value_behind old)) 0 empty) × (new ≡ None)
