-- Letters go out of the outbox, and through the hold.
use Rattle.std.specs.Prelude.{ℕ, ◌+◌, ◌==◌, cond, List, [], ◌∷◌, length, drop, sum_by, Option, Some, None, slice_set}
use Rattle.pt_signal.specs.declared.letter.Letter.{Letter}
use Rattle.pt_shard.specs.ShardState.{ShardState, box}

-- the desk without so many of the oldest letters that wait for desk e
abbrev pub sent_on_some : ℕ → ℕ → ShardState → ShardState
sent_on_some e count d = record d { outbox = slice_set d.outbox e (drop count (box d e)) }

-- the desk without the oldest letter that waits for desk e
abbrev pub sent_on : ℕ → ShardState → ShardState
sent_on e d = sent_on_some e 1 d

abbrev pub holding : Option Letter → ShardState → ShardState
holding letter d = record d { hold = letter }

-- the letter in the hold, if it is from desk d
abbrev pub held_from : ℕ → Option Letter → List Letter
held_from d None = []
held_from d (Some l) = cond (l.from.shard == d) (l ∷ []) []

abbrev pub count_held : Option Letter → ℕ
count_held None = 0
count_held (Some l) = 1

-- how many letters wait in the outbox and the hold
abbrev pub count_pending : ShardState → ℕ
count_pending d = sum_by length d.outbox + count_held d.hold
