-- Lemmas on lists of letters, one for each desk, for this crate and those above it.
use Rattle.std.proofs.Common.{◌≡◌, ◌≢◌, ℕ, ◌<◌, List, [], ◌∷◌, ◌++◌, length, get_or}
use Rattle.std.proofs.lemmas.List.{get_or-set_same, get_or-set_other, length-set}
use Rattle.pt_signal.specs.declared.letter.Letter.{Letter}
use Rattle.pt_signal.specs.Boxes.{one_more}

-- one letter more for desk j: there are as many lists, its list ends with the letter, and the others stay
module _ (boxes : List (List Letter)) (j : ℕ) (l : Letter) where
  pub one_more_count : length (one_more boxes j l) ≡ length boxes
  one_more_count = length-set boxes j (get_or boxes j [] ++ l ∷ [])

  pub one_more_same : j < length boxes → get_or (one_more boxes j l) j [] ≡ get_or boxes j [] ++ l ∷ []
  one_more_same within = get_or-set_same boxes j (get_or boxes j [] ++ l ∷ []) [] within

  pub one_more_other : (k : ℕ) → k ≢ j → get_or (one_more boxes j l) k [] ≡ get_or boxes k []
  one_more_other k n = get_or-set_other boxes j k (get_or boxes j [] ++ l ∷ []) [] n
