-- One more digit of a number.
use Rattle.std.proofs.Common.{◌≡◌, ℕ, ◌+◌, ◌<◌, List, ◌∷◌, length, drop, get_or}
use Rattle.std.proofs.lemmas.List.{at_drop_more}
use Rattle.pt_shell.specs.Numbers.{number_after_digits}

pub number_step : (most n : ℕ) (text : List ℕ) (p : ℕ) → p < length text
    → number_after_digits most n (drop p text) ≡ number_after_digits most n (get_or text p 0 ∷ drop (p + 1) text)
number_step most n text p h = at_drop_more (number_after_digits most n) text p 0 h
