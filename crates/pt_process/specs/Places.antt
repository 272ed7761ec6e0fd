-- The first of a list that passes a test.
use Rattle.std.specs.Prelude.{◌≡◌, ℕ, ◌<◌, Bool, List, length, slice_get, Option, Some, None}
use Rattle.std.specs.List.{find, remove}
use Rattle.pt_signal.specs.Values.{without_first}

-- the place and the item of the first that passes the test
abbrev pub IsFirst : {X : Type 0} → (X → Bool) → List X → Option (ℕ × X) → Type 0
IsFirst test items None = find test items ≡ None
IsFirst test items (Some found) =
    (found.0 < length items) × (find test items ≡ Some found.1) × (slice_get items found.0 ≡ Some found.1)
    × (remove items found.0 ≡ without_first test items)

-- the place of the first that passes the test: it is found there, and goes from there
abbrev pub IsFirstPlace : {X : Type 0} → (X → Bool) → List X → Option ℕ → Type 0
IsFirstPlace test items None = (find test items ≡ None) × (without_first test items ≡ items)
IsFirstPlace test items (Some k) =
    (k < length items) × (find test items ≡ slice_get items k) × (remove items k ≡ without_first test items)
