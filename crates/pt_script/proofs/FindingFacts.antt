-- The process that has a number, among those of a text.
use Rattle.std.proofs.Common.{◌≡◌, ℕ, Bool, true, false, zero, suc, ◌-◌, ◌<◌, ◌≤◌, List, [], ◌∷◌, ◌++◌, map, length, length-append, get_or, take, drop, Some, None, refl, sym, ap, subst, ◌∙◌, append_assoc, arith}
use Rattle.std.specs.Prelude.{codes, if◌then◌else◌, Vec}
use Rattle.std.proofs.lemmas.List.{get_or_append_left}
use Rattle.std.specs.declared.alloc.Global.{Global}
use denote.Ref.{Bor}
use Rattle.serde_json.specs.Data.{Data, null, boolean, number, string, array, object}
use Rattle.serde_json.specs.Find.{as_array}
use Rattle.serde_json.specs.View.{view, items_view}
use Rattle.serde_json.specs.declared.value.Value.{Value}
use Rattle.pt_script.specs.Members.{list}
use Rattle.pt_script.specs.Operations.{is_spawn}
use Rattle.pt_script.specs.Scripts.{loose}
use Rattle.pt_script.specs.Standing.{OperationStands, processes_in, processes_of, spawns_in}
use Rattle.pt_script.proofs.ObjectFacts.{data_of-items_of}
use Rattle.pt_script.specs.declared.explanation.finding.Found.{Found}
use Rattle.pt_script.specs.declared.explanation.finding.Reached.{Reached}
use Rattle.pt_script.specs.declared.explanation.finding.Reached.TheVariants.{At, Before}
use Rattle.pt_script.specs.Explaining.{LeadsTo, list_in, spawned_in}

-- lists of a text
pub items_given : (d : Data) (v : Bor (Vec Value Global)) → Some (items_view v.now.items) ≡ as_array d → map view v.now.items ≡ loose (list d)
items_given (array ds) v h = let e : items_view v.now.items ≡ ds = cc in rw (← e) (sym (data_of-items_of (map view v.now.items)))
items_given null v h = cc
items_given (boolean b) v h = cc
items_given (number n) v h = cc
items_given (string s) v h = cc
items_given (object ms) v h = cc

pub none_given : (d : Data) → None ≡ as_array d → [] ≡ loose (list d)
none_given (array ds) h = cc
none_given null h = refl
none_given (boolean b) h = refl
none_given (number n) h = refl
none_given (string s) h = refl
none_given (object ms) h = refl

-- one that is found among the first is found among all
behind_at : (ds es : List Data) (left : ℕ) → length ds ≤ left → (x : Data) → get_or (ds ++ es) left x ≡ get_or es (left - length ds) x
behind_at [] es left le x = let e : left ≡ left - length {A = Data} [] = omega arith in ap (λ n. get_or es n x) e
behind_at (d ∷ ds) es zero le x = absurd (omega (arith, le))
behind_at (d ∷ ds) es (suc left) le x =
    let e : left - length ds ≡ suc left - length (d ∷ ds) = omega arith in
    behind_at ds es left (omega (arith, le)) x ∙ ap (λ n. get_or es n x) e

pub found_first : (ds es : List Data) (left : ℕ) (found : Found) → OperationStands ds left (view found.value.now) → OperationStands (ds ++ es) left (view found.value.now)
found_first ds es left found (lt, is) = (omega (arith, lt, length-append ds es), get_or_append_left ds es null left lt ∙ is)

-- and one behind the first is found behind them
pub found_behind : (ds es : List Data) (left more : ℕ) (r : Reached) → length ds ≤ left → more ≡ left - length ds → LeadsTo es more r → LeadsTo (ds ++ es) left r
found_behind ds es left more (At found) le is (lt, at) =
    (omega (arith, lt, is, le, length-append ds es), behind_at ds es left le null ∙ ap (λ n. get_or es n null) (sym is) ∙ at)
found_behind ds es left more (Before rest) le is (none, left_is) =
    (omega (arith, none, is, le, length-append ds es), omega (arith, none, is, le, left_is, length-append ds es))

-- the process itself
pub found_here : (d : Data) (ds : List Data) (left : ℕ) → left ≡ 0 → OperationStands (d ∷ ds) left d
found_here d ds left is = subst (λ n. OperationStands (d ∷ ds) n d) (sym is) (omega arith, refl)

pub passed_here : (d : Data) (ds : List Data) (left : ℕ) (r : Reached) → 0 < left → LeadsTo ds (left - 1) r → LeadsTo (d ∷ ds) left r
passed_here d ds left r some h = found_behind (d ∷ []) ds left (left - 1) r (omega (arith, some)) refl h

pub with_inside : (levels : ℕ) (d : Data) → (rest : List Data) × (processes_in levels d ≡ d ∷ rest)
unfolding processes_in
with_inside zero d = ([], refl)
with_inside (suc less) d = (spawns_in (λ op. processes_in less op) (list_in (codes "ops") d), refl)

pub inside_is : (levels : ℕ) (d : Data) → 0 < levels → processes_in levels d ≡ d ∷ spawns_in (processes_in (levels - 1)) (list_in (codes "ops") d)
unfolding processes_in
inside_is zero d some = absurd (omega arith)
inside_is (suc less) d some = let e : less ≡ suc less - 1 = omega arith in ap (λ n. d ∷ spawns_in (processes_in n) (list_in (codes "ops") d)) e

-- the first of a list begin the first of its processes
processes_parts : (n : ℕ) (ds : List Data) → processes_of ds ≡ processes_of (take n ds) ++ processes_of (drop n ds)
processes_parts zero ds = refl
processes_parts (suc n) [] = refl
processes_parts (suc n) (d ∷ ds) = ap (λ xs. processes_in 63 d ++ xs) (processes_parts n ds) ∙ sym (append_assoc (processes_in 63 d) (processes_of (take n ds)) (processes_of (drop n ds)))

pub among_processes : (n : ℕ) (ds : List Data) (left : ℕ) (found : Found) → OperationStands (processes_of (take n ds)) left (view found.value.now) → OperationStands (processes_of ds) left (view found.value.now)
among_processes n ds left found h = subst (λ xs. OperationStands xs left (view found.value.now)) (sym (processes_parts n ds)) (found_first (processes_of (take n ds)) (processes_of (drop n ds)) left found h)

spawns_parts : (inside : Data → List Data) (n : ℕ) (ds : List Data) → spawns_in inside ds ≡ spawns_in inside (take n ds) ++ spawns_in inside (drop n ds)
spawns_parts inside zero ds = refl
spawns_parts inside (suc n) [] = refl
spawns_parts inside (suc n) (d ∷ ds) =
    let mine : List Data = if is_spawn d then inside d else [] in
    ap (λ xs. mine ++ xs) (spawns_parts inside n ds) ∙ sym (append_assoc mine (spawns_in inside (take n ds)) (spawns_in inside (drop n ds)))

pub among_spawns : (inside : Data → List Data) (n : ℕ) (ds : List Data) (left : ℕ) (found : Found) → OperationStands (spawns_in inside (take n ds)) left (view found.value.now) → OperationStands (spawns_in inside ds) left (view found.value.now)
among_spawns inside n ds left found h = subst (λ xs. OperationStands xs left (view found.value.now)) (sym (spawns_parts inside n ds)) (found_first (spawns_in inside (take n ds)) (spawns_in inside (drop n ds)) left found h)

-- an operation that spawns, or not
pub by_spawn : (levels : ℕ) (d : Data) (left : ℕ) (r : Reached) → is_spawn d ≡ true → LeadsTo (processes_in levels d) left r → LeadsTo (spawned_in levels d) left r
by_spawn levels d left r is h = subst (λ (b : Bool). LeadsTo (if b then processes_in levels d else []) left r) (sym is) h

pub by_other : (levels : ℕ) (d : Data) (left : ℕ) → is_spawn d ≡ false → LeadsTo (spawned_in levels d) left (Before left)
by_other levels d left is = subst (λ (b : Bool). LeadsTo (if b then processes_in levels d else []) left (Before left)) (sym is) (omega arith, omega arith)
