-- One byte more of a word or a number.
use Rattle.std.proofs.Common.{◌≡◌, ℕ, ◌+◌, ◌<◌, ◌≤◌, ◌==◌, None, List, ◌∷◌, drop, length, get_or, refl, ap, add-one, drop-cons}
use Rattle.std.proofs.lemmas.List.{drop_all}
use Rattle.std.specs.Prelude.{if◌then◌else◌}
use Rattle.pt_texts.specs.Steps.{behind}
use Rattle.pt_texts.specs.Numbers.{digits_at}

pub at_place : (xs : List ℕ) (p : ℕ) → p < length xs → drop p xs ≡ get_or xs p 0 ∷ drop (p + 1) xs
at_place xs p h = rw add-one (drop-cons xs p 0 h)

pub behind_step : (word text : List ℕ) (p : ℕ) → p < length word → p < length text
    → behind (drop p word) (drop p text) ≡ (if get_or word p 0 == get_or text p 0 then behind (drop (p + 1) word) (drop (p + 1) text) else None)
behind_step word text p h k = rw (at_place word p h, at_place text p k) refl

pub digits_step : (most n : ℕ) (text : List ℕ) (p : ℕ) → p < length text
    → digits_at most n (drop p text) ≡ digits_at most n (get_or text p 0 ∷ drop (p + 1) text)
digits_step most n text p h = ap (digits_at most n) (at_place text p h)

pub behind_short : (word text : List ℕ) (p : ℕ) → p < length word → length text ≤ p → behind (drop p word) (drop p text) ≡ None
behind_short word text p h k = rw (at_place word p h, drop_all p text k) refl
