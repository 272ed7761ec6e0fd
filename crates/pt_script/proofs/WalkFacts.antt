-- Walks along a JSON text, a member or an item further.
use Rattle.std.proofs.Common.{◌≡◌, ℕ, Bool, true, false, zero, suc, ◌-◌, ◌<◌, List, [], ◌∷◌, length, Some, None, refl, ap, arith}
use Rattle.std.specs.Prelude.{if◌then◌else◌}
use Rattle.std.specs.Str.{IsUtf8}
use Rattle.std.proofs.lemmas.Str.{is_utf8-from_IsUtf8, IsUtf8-from_is_utf8}
use Rattle.std.specs.Str.{is_utf8}
use Rattle.serde_json.specs.Data.{Data}
use Rattle.serde_json.specs.Find.{as_str}
use Rattle.serde_json.specs.Read.{read}
use Rattle.pt_script.specs.declared.explanation.walking.Stand.TheVariants.{Plain}
use Rattle.pt_script.specs.Walks.{behind_next, text_before, is_text, last_value, passed, spells, unblanked}

-- a member further
pub member_passed : (name : List ℕ) (n : ℕ) (found t : List ℕ) → 0 < n → 0 < length t
    → last_value name n found t ≡ last_value name (n - 1) (if spells name (text_before t (behind_next (Plain 0) t)) then unblanked (behind_next (Plain 0) t) else found)
    (behind_next (Plain 0) (behind_next (Plain 0) t))
member_passed name zero found t some more = absurd (omega (arith, some))
member_passed name (suc n) found [] some more = absurd (omega (arith, more))
member_passed name (suc n) found (b ∷ bs) some more =
    let e : n ≡ suc n - 1 = omega arith in
    ap (λ m. last_value name m (if spells name (text_before (b ∷ bs) (behind_next (Plain 0) (b ∷ bs))) then unblanked (behind_next (Plain 0) (b ∷ bs)) else found)
    (behind_next (Plain 0) (behind_next (Plain 0) (b ∷ bs)))) e

pub no_members : (name : List ℕ) (n : ℕ) (found t : List ℕ) → length t ≡ 0 → last_value name n found t ≡ found
no_members name zero found t none = refl
no_members name (suc n) found [] none = refl
no_members name (suc n) found (b ∷ bs) none = absurd (omega (arith, none))

-- an item further
pub item_passed : (k : ℕ) (t : List ℕ) → 0 < k → passed k t ≡ passed (k - 1) (behind_next (Plain 0) t)
item_passed zero t some = absurd (omega (arith, some))
item_passed (suc k) t some = let e : k ≡ suc k - 1 = omega arith in ap (λ n. passed n (behind_next (Plain 0) t)) e

-- what a text spells
pub spelt : (name t : List ℕ) (d : Data) → IsUtf8 t → read t ≡ Some d → spells name t ≡ is_text name (as_str d)
spelt name t d text value = rw (is_utf8-from_IsUtf8 t text, value) refl

not_spelt : (name t : List ℕ) (b : Bool) → is_utf8 t ≡ b → (IsUtf8 t → read t ≡ None) → spells name t ≡ false
not_spelt name t true is none = rw (is, none (IsUtf8-from_is_utf8 t is)) refl
not_spelt name t false is none = rw is refl

pub spells_nothing : (name t : List ℕ) → (IsUtf8 t → read t ≡ None) → spells name t ≡ false
spells_nothing name t none = not_spelt name t (is_utf8 t) refl none
