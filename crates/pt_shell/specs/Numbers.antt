-- Decimal numbers up to a greatest one.
use Rattle.std.specs.Prelude.{ℕ, zero, suc, ◌+◌, ◌-◌, ◌*◌, ◌^◌, ℤ, pos, negsuc, ◌==◌, nat_le, List, [], ◌∷◌}
use Rattle.std.specs.Prelude.{Option, Some, None, if◌then◌else◌}
use Rattle.std.specs.Option.{option_map}
use Rattle.pt_texts.specs.Numbers.{is_digit}

-- the number that the digits write behind those of n, where nothing else stands there and it is not above the most
abbrev pub number_after_digits : ℕ → ℕ → List ℕ → Option ℕ
number_after_digits most n [] = Some n
number_after_digits most n (c ∷ text) =
    if is_digit c
    then (if nat_le (n * 10 + (c - 48)) most then number_after_digits most (n * 10 + (c - 48)) text else None)
    else None

abbrev pub number_in : ℕ → List ℕ → Option ℕ
number_in most [] = None
number_in most (c ∷ text) = number_after_digits most 0 (c ∷ text)

abbrev pub minus_number : ℕ → ℤ
minus_number zero = pos 0
minus_number (suc n) = negsuc n

-- a number of 64 bits with its sign
abbrev pub i64_in : List ℕ → Option ℤ
i64_in [] = None
i64_in (c ∷ text) =
    if c == 45 then option_map minus_number (number_in (2 ^ 63) text) else option_map pos (number_in (2 ^ 63 - 1) (c ∷ text))
