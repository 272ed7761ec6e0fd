-- Letters that wait for several desks.
use Rattle.std.specs.Prelude.{List, [], ◌∷◌}
use Rattle.pt_signal.specs.declared.letter.Letter.{Letter}
use Rattle.pt_signal.specs.Boxes.{one_more}

-- the letters in turn, each to the end of the list for its receiver's desk
abbrev pub put_out : List (List Letter) → List Letter → List (List Letter)
put_out lists [] = lists
put_out lists (letter ∷ letters) = put_out (one_more lists letter.to.shard letter) letters
