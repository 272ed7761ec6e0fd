-- Places in a list. No public clause cites this module.
use Rattle.std.specs.Prelude.{ℕ, suc, Bool, cond, List, [], ◌∷◌}

-- the place of the first that passes the test, or the length of the list
abbrev pub first_place : {X : Type 0} → (X → Bool) → List X → ℕ
first_place test [] = 0
first_place test (x ∷ xs) = cond (test x) 0 (suc (first_place test xs))
