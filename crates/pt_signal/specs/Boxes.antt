-- Lists of letters, one for each desk of a node.
use Rattle.std.specs.Prelude.{ℕ, List, [], ◌∷◌, ◌++◌, slice_index_or, slice_set}
use Rattle.pt_signal.specs.declared.letter.Letter.{Letter}

-- the list for desk k gets one more letter at its end
abbrev pub one_more : List (List Letter) → ℕ → Letter → List (List Letter)
one_more lists k letter = slice_set lists k (slice_index_or lists k [] ++ letter ∷ [])
