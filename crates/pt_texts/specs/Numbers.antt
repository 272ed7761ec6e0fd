-- Decimal numbers without zeros in front, up to a greatest one.
use Rattle.std.specs.Prelude.{ℕ, zero, suc, ◌+◌, ◌-◌, ◌*◌, ◌^◌, ℤ, pos, negsuc, Bool, ◌&&◌, ◌==◌, nat_le, List, [], ◌∷◌}
use Rattle.std.specs.Prelude.{length, if◌then◌else◌, Ok, Err, codes}
use Rattle.pt_texts.specs.Steps.{Read, Reader, ◌>>=◌, behind, choose, mapped}

-- `0` to `9`
abbrev pub is_digit : ℕ → Bool
is_digit c = nat_le 48 c && nat_le c 57

-- the digits that follow those of n, which is not 0
abbrev pub digits_at : ℕ → ℕ → Reader ℕ
digits_at most n [] = Ok (n, [])
digits_at most n (c ∷ text) =
    if is_digit c
    then (if nat_le (n * 10 + (c - 48)) most then digits_at most (n * 10 + (c - 48)) text else Err (length (c ∷ text)))
    else Ok (n, c ∷ text)

-- a number from 0 to most, which is 9 at least
abbrev pub number_at : ℕ → Reader ℕ
number_at most [] = Err 0
number_at most (c ∷ text) =
    if c == 48
    then Ok (0, text)
    else (if is_digit c then digits_at most (c - 48) text else Err (length (c ∷ text)))

-- numbers of 8, 16, 32 and 64 bits
abbrev pub u8_at : Reader ℕ
u8_at = number_at (2 ^ 8 - 1)

abbrev pub u16_at : Reader ℕ
u16_at = number_at (2 ^ 16 - 1)

abbrev pub u32_at : Reader ℕ
u32_at = number_at (2 ^ 32 - 1)

abbrev pub u64_at : Reader ℕ
u64_at = number_at (2 ^ 64 - 1)

-- minus a number that is not 0
abbrev pub negated : List ℕ → ℕ × List ℕ → Read ℤ
negated text (zero, rest) = Err (length text)
negated text (suc n, rest) = Ok (negsuc n, rest)

-- a number of 64 bits with its sign
abbrev pub i64_at : Reader ℤ
i64_at text =
    choose (behind (codes "-") text)
    (λ rest. number_at (2 ^ 63) rest >>= negated rest)
    (mapped pos (number_at (2 ^ 63 - 1)) text)
