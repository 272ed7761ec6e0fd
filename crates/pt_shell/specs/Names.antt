-- Names that stand for pids and references.
use Rattle.std.specs.Prelude.{ℕ, Bool, false, ◌||◌, ◌&&◌, ◌==◌, nat_le, List, [], ◌∷◌, length, Option, Some, None}
use Rattle.std.specs.Prelude.{if◌then◌else◌}
use Rattle.std.specs.List.{list_all}
use Rattle.std.specs.Str.{bytes_eq}
use Rattle.pt_shell.specs.declared.lines.names.Value.{Value}
use Rattle.pt_shell.specs.declared.lines.names.TheConstants.{MOST_NAME}

-- the names that were given, in order, each with what it was given to
abbrev pub Named : Type 0
Named = List (List ℕ × Value)

-- that to which the name was given last; what was found before, where it is none of these
abbrev pub value_after : Option Value → Named → List ℕ → Option Value
value_after found [] name = found
value_after found (b ∷ names) name = value_after (if bytes_eq b.0 name then Some b.1 else found) names name

-- what the name stands for
abbrev pub value_of : Named → List ℕ → Option Value
value_of names name = value_after None names name

abbrev pub is_letter : ℕ → Bool
is_letter c = (nat_le 97 c && nat_le c 122) || (nat_le 65 c && nat_le c 90)

-- a letter, a digit or `_`
abbrev pub is_of_name : ℕ → Bool
is_of_name c = is_letter c || (nat_le 48 c && nat_le c 57) || c == 95

abbrev pub begins_with_letter : List ℕ → Bool
begins_with_letter [] = false
begins_with_letter (c ∷ word) = is_letter c

-- 1 to 32 letters, digits and `_`, the first of them a letter
abbrev pub is_name : List ℕ → Bool
is_name word = nat_le (length word) MOST_NAME && begins_with_letter word && list_all is_of_name word
