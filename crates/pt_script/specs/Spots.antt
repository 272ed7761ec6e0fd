-- The line and the column of what is said to be wrong with a script.
use Rattle.std.specs.Prelude.{◌≡◌, ◌⊎◌, ◌<◌, ℕ, zero, suc, ◌+◌, ◌-◌, ◌==◌, List, [], ◌∷◌, codes, drop, take, length, nat_lt, Bool}
use Rattle.std.specs.Prelude.{if◌then◌else◌, Option, Some, None, count_by}
use Rattle.std.specs.Borrow.{Bor}
use Rattle.std.specs.Str.{bytes_eq, IsUtf8}
use Rattle.serde_json.specs.Data.{Data}
use Rattle.serde_json.specs.Read.{read}
use Rattle.serde_json.specs.View.{view}
use Rattle.pt_script.specs.declared.fault.Place.{Place}
use Rattle.pt_script.specs.declared.limits.TheConstants.{MAX_BYTES, MAX_NESTING}
use Rattle.pt_script.specs.declared.explanation.why.Spot.{Spot}
use Rattle.pt_script.specs.declared.explanation.spot.Element.{Element}
use Rattle.pt_script.specs.Explaining.{list_in, spawned_in}
use Rattle.pt_script.specs.Standing.{processes_in}
use Rattle.pt_script.specs.Walks.{behind_next, item_place, unblanked, member_place}
use Rattle.pt_script.specs.declared.explanation.walking.Stand.TheVariants.{Plain}

-- Elements of a list, and its text behind its bracket or a comma; each has some processes inside. The text of the process
-- with this number is inside the element in which it begins.
abbrev pub among_elements : (Data → List Data) → (Data → List ℕ → ℕ → List ℕ) → List Data → List ℕ → ℕ → List ℕ
among_elements inside text [] t n = []
among_elements inside text (d ∷ ds) t n =
    if nat_lt n (length (inside d)) then text d (unblanked t) n
    else among_elements inside text ds (behind_next (Plain 0) t) (n - length (inside d))

-- a process with its text: the text of the process with this number among those that begin in it, itself the first
abbrev pub text_within : ℕ → Data → List ℕ → ℕ → List ℕ
text_within zero d t n = t
text_within (suc levels) d t zero = t
text_within (suc levels) d t (suc n) =
    among_elements (spawned_in levels) (text_within levels) (list_in (codes "ops") d) (drop 1 (member_place (codes "ops") t)) n

-- a script with its text: the text of the process with this number
abbrev pub process_place : Data → List ℕ → ℕ → List ℕ
process_place d t n =
    among_elements (processes_in MAX_NESTING) (text_within MAX_NESTING) (list_in (codes "processes") d)
    (drop 1 (member_place (codes "processes") t)) n

-- the text from the script, the process or the operation on that a place names
abbrev pub place_in_text : Data → List ℕ → Option ℕ → Option ℕ → List ℕ
place_in_text d t None op = t
place_in_text d t (Some number) None = process_place d t number
place_in_text d t (Some number) (Some index) = item_place index (member_place (codes "ops") (process_place d t number))

-- from the value of a member on, which may be one of a pick; from the whole on where it lacks the member, or none is told
abbrev pub member_in_text : Option (Bor (List ℕ)) → List ℕ → List ℕ
member_in_text None t = t
member_in_text (Some member) t =
    if bytes_eq (take 5 member.now) (codes "pick.") then member_place (drop 5 member.now) (member_place (codes "pick") t)
    else member_place member.now t

-- the processes inside an element of the top list, or of a list of operations
abbrev pub inside_element : Bool → ℕ → Data → List Data
inside_element top levels d = if top then processes_in levels d else spawned_in levels d

-- the element that a search has come to, or none
abbrev pub text_from : (Data → List ℕ → ℕ → List ℕ) → Option Element → List ℕ
text_from text None = []
text_from text (Some e) = text (view e.value.now) e.text.now e.left

-- the line of the byte behind these: lines begin at 1
abbrev pub line_behind : List ℕ → ℕ
line_behind bytes = 1 + count_by (λ b. b == 10) bytes

-- its column in bytes, beginning at 1 behind each line feed; the first of these bytes is in this column
abbrev pub column_behind : ℕ → List ℕ → ℕ
column_behind column [] = column
column_behind column (b ∷ bs) = column_behind (if b == 10 then 1 else column + 1) bs

-- the line and the column of the byte before which there are so many
abbrev pub spot_at : List ℕ → ℕ → Spot
spot_at bytes n = record { line = line_behind (take n bytes); column = column_behind 1 (take n bytes) }

-- of a value: where what is told begins
abbrev pub spot_of : List ℕ → Data → Place → Option (Bor (List ℕ)) → Spot
spot_of bytes d place member =
    spot_at bytes (length bytes - length (member_in_text member (place_in_text d (unblanked bytes) place.process place.op)))

-- of bytes: they are too long, and it is the first byte too many; they are a value; or they are none
abbrev pub IsSpotOf : List ℕ → Place → Option (Bor (List ℕ)) → Spot → Type 0
IsSpotOf bytes place member spot =
    ((MAX_BYTES < length bytes) × (spot ≡ spot_at bytes MAX_BYTES))
    ⊎ ((d : Data) × (read bytes ≡ Some d) × (spot ≡ spot_of bytes d place member))
    ⊎ (IsUtf8 bytes → read bytes ≡ None)
