-- Which texts are names.
use Rattle.std.specs.Prelude.{◌≡◌, ℕ, ◌==◌, ◌&&◌, ◌||◌, Bool, true, false, List, ◌++◌, length, nat_le, nat_lt}
use Rattle.std.specs.Prelude.{slice_index, replicate, drop, if◌then◌else◌}
use Rattle.std.specs.List.{list_all}

abbrev pub is_first_letter : ℕ → Bool
is_first_letter b = (nat_le 65 b && nat_le b 90) || (nat_le 97 b && nat_le b 122)

abbrev pub is_name_digit : ℕ → Bool
is_name_digit b = nat_le 48 b && nat_le b 57

-- a letter, a digit, or `_`
abbrev pub is_name_letter : ℕ → Bool
is_name_letter b = is_first_letter b || is_name_digit b || (b == 95)

abbrev pub has_first_letter : List ℕ → Bool
has_first_letter text = is_first_letter (slice_index text 0) && list_all is_name_letter text

-- 1 to 32 letters, digits and `_`, beginning with a letter
abbrev pub is_name_text : List ℕ → Bool
is_name_text text = if nat_lt 0 (length text) && nat_le (length text) 32 then has_first_letter text else false

-- the text, written over the first of 32 zeros
abbrev pub padded : List ℕ → List ℕ
padded text = text ++ drop (length text) (replicate 32 0)

-- two texts that are names give two names
abbrev pub TellsTextsApart : Type 0
TellsTextsApart = (a b : List ℕ) → is_name_text a ≡ true → is_name_text b ≡ true → padded a ≡ padded b → a ≡ b
