-- Where a value begins in a JSON text. A text is here what is left of it from a byte on, so a place is such a rest.
use Rattle.std.specs.Prelude.{ℕ, zero, suc, ◌+◌, ◌-◌, ◌==◌, ◌&&◌, ◌||◌, List, [], ◌∷◌, drop, take, length, Bool, false}
use Rattle.std.specs.Prelude.{if◌then◌else◌, Option, Some, None, option_and_then}
use Rattle.std.specs.Str.{bytes_eq, is_utf8}
use Rattle.serde_json.specs.Find.{as_str}
use Rattle.serde_json.specs.Read.{read}
use Rattle.pt_script.specs.declared.explanation.walking.Stand.{Stand}
use Rattle.pt_script.specs.declared.explanation.walking.Stand.TheVariants.{Plain, Quoted, Escaped}

-- a space, a tab, a line feed or a carriage return
abbrev pub is_white : ℕ → Bool
is_white b = b == 32 || b == 9 || b == 10 || b == 13

-- the text from its first byte on that is no white space
abbrev pub unblanked : List ℕ → List ℕ
unblanked [] = []
unblanked (b ∷ bs) = if is_white b then unblanked bs else b ∷ bs

-- `[` and `{`
abbrev pub is_opening : ℕ → Bool
is_opening b = b == 91 || b == 123

-- `]` and `}`
abbrev pub is_closing : ℕ → Bool
is_closing b = b == 93 || b == 125

-- `,` and `:`
abbrev pub is_separator : ℕ → Bool
is_separator b = b == 44 || b == 58

abbrev pub brackets_of : Stand → ℕ
brackets_of (Plain n) = n
brackets_of (Quoted n) = n
brackets_of (Escaped n) = n

-- one byte further: a quotation mark begins and ends a string, unless a backslash is before it
abbrev pub stand_after : Stand → ℕ → Stand
stand_after (Plain n) b = if b == 34 then Quoted n else (if is_opening b then Plain (n + 1) else (if is_closing b then Plain (n - 1) else Plain n))
stand_after (Quoted n) b = if b == 34 then Plain n else (if b == 92 then Escaped n else Quoted n)
stand_after (Escaped n) b = Quoted n

-- a byte that is in no string and no brackets
abbrev pub is_bare : Stand → Bool
is_bare (Plain n) = n == 0
is_bare (Quoted n) = false
is_bare (Escaped n) = false

-- the text behind the next bare comma or colon, if it comes before the bracket that closes the whole
abbrev pub behind_next : Stand → List ℕ → List ℕ
behind_next s [] = []
behind_next s (b ∷ bs) =
    if is_bare s && is_separator b then bs
    else (if is_bare s && is_closing b then [] else behind_next (stand_after s b) bs)

-- behind a comma or an opening bracket: the text behind so many more commas
abbrev pub passed : ℕ → List ℕ → List ℕ
passed zero t = t
passed (suc k) t = passed k (behind_next (Plain 0) t)

-- a list from its bracket on: the text from the item with this index on
abbrev pub item_place : ℕ → List ℕ → List ℕ
item_place k t = unblanked (passed k (drop 1 t))

-- a text reads as the string with these bytes
abbrev pub is_text : List ℕ → Option (List ℕ) → Bool
is_text name None = false
is_text name (Some s) = bytes_eq s name

abbrev pub spells : List ℕ → List ℕ → Bool
spells name t = if is_utf8 t then is_text name (option_and_then as_str (read t)) else false

-- the bytes of t up to the comma or colon that v is behind
abbrev pub text_before : List ℕ → List ℕ → List ℕ
text_before t v = take (length t - length v - 1) t

-- behind a comma or an opening bracket: the text from the last value of this name on among so many members, or found
abbrev pub last_value : List ℕ → ℕ → List ℕ → List ℕ → List ℕ
last_value name zero found t = found
last_value name (suc n) found [] = found
last_value name (suc n) found (b ∷ bs) =
    last_value name n
    (if spells name (text_before (b ∷ bs) (behind_next (Plain 0) (b ∷ bs))) then unblanked (behind_next (Plain 0) (b ∷ bs)) else found)
    (behind_next (Plain 0) (behind_next (Plain 0) (b ∷ bs)))

-- an object from its bracket on: the text from the value of this member on, or the object where it has none. It has no
-- more members than bytes.
abbrev pub member_place : List ℕ → List ℕ → List ℕ
member_place name t = last_value name (length t) t (drop 1 t)
