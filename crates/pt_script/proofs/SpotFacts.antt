-- The text of a process, by the elements of lists in which it begins.
use Rattle.std.proofs.Common.{◌≡◌, ℕ, Bool, zero, suc, ◌+◌, ◌-◌, ◌<◌, ◌≤◌, List, ◌∷◌, length, drop, get_or, refl, sym, ap, ◌∙◌, arith}
use Rattle.std.specs.Prelude.{codes, if◌then◌else◌, nat_lt}
use Rattle.std.proofs.lemmas.Bool.{le-ltb, lt-ltb}
use Rattle.std.proofs.lemmas.List.{drop_more}
use Rattle.serde_json.specs.Data.{Data}
use Rattle.pt_script.specs.declared.explanation.walking.Stand.TheVariants.{Plain}
use Rattle.pt_script.specs.Explaining.{list_in, spawned_in}
use Rattle.pt_script.specs.Spots.{among_elements, process_place, text_within}
use Rattle.pt_script.specs.Standing.{processes_in}
use Rattle.pt_script.specs.Walks.{behind_next, unblanked, member_place}

-- the element that has the process, and one that has not
element_is : (inside : Data → List Data) (text : Data → List ℕ → ℕ → List ℕ) (ds : List Data) (t : List ℕ) (n i : ℕ) (d : Data) → i < length ds → get_or ds i d ≡ d
    → among_elements inside text (drop i ds) t n
    ≡ (if nat_lt n (length (inside d)) then text d (unblanked t) n else among_elements inside text (drop (i + 1) ds) (behind_next (Plain 0) t) (n - length (inside d)))
element_is inside text ds t n i d lt here =
    ap (λ es. among_elements inside text es t n) (drop_more ds i d lt ∙ ap (λ x. x ∷ drop (i + 1) ds) here)

pub element_has : (inside : Data → List Data) (text : Data → List ℕ → ℕ → List ℕ) (ds : List Data) (t : List ℕ) (n i : ℕ) (d : Data) → i < length ds → get_or ds i d ≡ d
    → n < length (inside d) → among_elements inside text (drop i ds) t n ≡ text d (unblanked t) n
element_has inside text ds t n i d lt here less =
    element_is inside text ds t n i d lt here
    ∙ ap (λ (b : Bool). if b then text d (unblanked t) n else among_elements inside text (drop (i + 1) ds) (behind_next (Plain 0) t) (n - length (inside d))) (lt-ltb n (length (inside d)) less)

pub element_passed : (inside : Data → List Data) (text : Data → List ℕ → ℕ → List ℕ) (ds : List Data) (t : List ℕ) (n i : ℕ) (d : Data) (rest : List ℕ) (more : ℕ)
    → i < length ds → get_or ds i d ≡ d → length (inside d) ≤ n → rest ≡ behind_next (Plain 0) t → more ≡ n - length (inside d)
    → among_elements inside text (drop i ds) t n ≡ among_elements inside text (drop (i + 1) ds) rest more
element_passed inside text ds t n i d rest more lt here le rest_is more_is =
    element_is inside text ds t n i d lt here
    ∙ ap (λ (b : Bool). if b then text d (unblanked t) n else among_elements inside text (drop (i + 1) ds) (behind_next (Plain 0) t) (n - length (inside d))) (le-ltb n (length (inside d)) le)
    ∙ ap (λ r. among_elements inside text (drop (i + 1) ds) r (n - length (inside d))) (sym rest_is)
    ∙ ap (λ m. among_elements inside text (drop (i + 1) ds) rest m) (sym more_is)

-- the process itself, and one that it spawns
pub itself : (levels : ℕ) (d : Data) (t : List ℕ) (n : ℕ) → n ≡ 0 → t ≡ text_within levels d t n
itself zero d t n none = refl
itself (suc levels) d t n none = ap (text_within (suc levels) d t) (sym none)

pub at_last : (levels : ℕ) (d : Data) (t : List ℕ) (n : ℕ) → levels ≡ 0 → t ≡ text_within levels d t n
at_last levels d t n none = ap (λ l. text_within l d t n) (sym none)

pub spawned_inside : (levels : ℕ) (d : Data) (t : List ℕ) (n : ℕ) → 0 < levels → 0 < n
    → text_within levels d t n
    ≡ among_elements (spawned_in (levels - 1)) (text_within (levels - 1)) (list_in (codes "ops") d) (drop 1 (member_place (codes "ops") t)) (n - 1)
spawned_inside zero d t n deep some = absurd (omega (arith, deep))
spawned_inside (suc levels) d t zero deep some = absurd (omega (arith, some))
spawned_inside (suc levels) d t (suc n) deep some =
    let l : levels ≡ suc levels - 1 = omega arith in
    let m : n ≡ suc n - 1 = omega arith in
    ap (λ k. among_elements (spawned_in k) (text_within k) (list_in (codes "ops") d) (drop 1 (member_place (codes "ops") t)) n) l
    ∙ ap (λ k. among_elements (spawned_in (suc levels - 1)) (text_within (suc levels - 1)) (list_in (codes "ops") d) (drop 1 (member_place (codes "ops") t)) k) m

-- the operations of a process with their text, and the processes of a script
pub inside_spawn : (levels : ℕ) (d : Data) (t : List ℕ) (n : ℕ) (ds : List Data) (operations held : List ℕ) → 0 < levels → 0 < n → ds ≡ list_in (codes "ops") d
    → operations ≡ drop 1 held → held ≡ member_place (codes "ops") t
    → text_within levels d t n ≡ among_elements (spawned_in (levels - 1)) (text_within (levels - 1)) ds operations (n - 1)
inside_spawn levels d t n ds operations held deep some list behind member =
    spawned_inside levels d t n deep some
    ∙ ap (λ es. among_elements (spawned_in (levels - 1)) (text_within (levels - 1)) es (drop 1 (member_place (codes "ops") t)) (n - 1)) (sym list)
    ∙ ap (λ o. among_elements (spawned_in (levels - 1)) (text_within (levels - 1)) ds o (n - 1)) (sym (behind ∙ ap (drop 1) member))

pub inside_script : (d : Data) (t : List ℕ) (n : ℕ) (ds : List Data) (processes held : List ℕ) → ds ≡ list_in (codes "processes") d
    → processes ≡ drop 1 held → held ≡ member_place (codes "processes") t
    → process_place d t n ≡ among_elements (processes_in 63) (text_within 63) ds processes n
inside_script d t n ds processes held list behind member =
    ap (λ es. among_elements (processes_in 63) (text_within 63) es (drop 1 (member_place (codes "processes") t)) n) (sym list)
    ∙ ap (λ o. among_elements (processes_in 63) (text_within 63) ds o n) (sym (behind ∙ ap (drop 1) member))
