-- All letters left over, as one list.
use Rattle.std.specs.Prelude.{ℕ, zero, suc, List, [], ◌++◌, length, map}
use Rattle.pt_signal.specs.declared.letter.Letter.{Letter}
use Rattle.pt_signal.specs.declared.letter.LeftOver.{LeftOver}
use Rattle.pt_gathered.specs.Gathered.{GatheredState, over_in}

-- the lists f 0, f 1, up to below n, one after the other
abbrev pub joined_letters : (ℕ → List LeftOver) → ℕ → List LeftOver
joined_letters f zero = []
joined_letters f (suc n) = joined_letters f n ++ f n

abbrev pub from_to : ℕ → ℕ → Letter → LeftOver
from_to d e l = record { from_desk = d; to_desk = e; letter = l }

-- those from desk d to desk e, oldest first
abbrev pub left_between : GatheredState → ℕ → ℕ → List LeftOver
left_between g d e = map (from_to d e) (over_in g.shards g.lanes d e)

-- those from desk d to the desks below n
abbrev pub left_from : GatheredState → ℕ → ℕ → List LeftOver
left_from g d n = joined_letters (left_between g d) n

-- by sending desk, then by receiving desk, oldest first
abbrev pub all_left : GatheredState → List LeftOver
all_left g = joined_letters (λ d. left_from g d (length g.shards)) (length g.shards)
