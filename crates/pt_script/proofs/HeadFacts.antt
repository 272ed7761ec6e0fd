-- How many processes a desk has, and how many processes begin in a value.
use Rattle.std.proofs.Common.{◌≡◌, ℕ, zero, suc, ◌+◌, ◌-◌, ◌<◌, Ok, Err, List, [], ◌∷◌, ◌++◌, Bool, true, false, cond, length, get_or, set, take, refl, ap, sym, ◌∙◌, arith}
use Rattle.std.specs.Prelude.{◌==◌, count_by, sum_by, slice_index, codes, if◌then◌else◌}
use Rattle.std.proofs.lemmas.List.{get_or-set_same, get_or-set_other, take_more}
use Rattle.std.proofs.lemmas.List.Sums.{sum_by-append}
use Rattle.std.proofs.lemmas.Bool.{eqb-true, eqb-false}
use Rattle.serde_json.specs.Data.{Data}
use Rattle.serde_json.specs.Find.{get}
use Rattle.pt_script.specs.declared.values.Top.{Top}
use Rattle.pt_script.specs.declared.fault.Fault.{Fault}
use Rattle.pt_script.specs.Members.{required, list}
use Rattle.pt_script.specs.Operations.{is_spawn}
use Rattle.pt_script.specs.Scripts.{begun_in, spawned_by}

abbrev on_desk : ℕ → Top → Bool
on_desk k t = t.desk == k

counted_more : (tops : List Top) (t : Top) (k : ℕ) → count_by (on_desk k) (tops ++ t ∷ []) ≡ count_by (on_desk k) tops + cond (on_desk k t) 1 0
counted_more tops t k = omega (arith, sum_by-append (λ u. cond (on_desk k u) 1 0) tops (t ∷ []))

counted_case : (crowd : List ℕ) (tops : List Top) (t : Top) (n k : ℕ) (b : Bool) → on_desk k t ≡ b → slice_index crowd k ≡ count_by (on_desk k) tops → t.desk < length crowd → n ≡ slice_index crowd t.desk + 1 → slice_index (set crowd t.desk n) k ≡ count_by (on_desk k) (tops ++ t ∷ [])
counted_case crowd tops t n k true equal h inside e =
    let same : t.desk ≡ k = eqb-true t.desk k equal in
    let a : slice_index (set crowd t.desk n) k ≡ n = ap (slice_index (set crowd t.desk n)) (sym same) ∙ get_or-set_same crowd t.desk n 0 inside in
    let b : slice_index crowd t.desk ≡ slice_index crowd k = ap (slice_index crowd) same in
    let m : count_by (on_desk k) (tops ++ t ∷ []) ≡ count_by (on_desk k) tops + 1 = counted_more tops t k ∙ ap (λ c. count_by (on_desk k) tops + cond c 1 0) equal in
    omega (arith, a, b, m, h, e)
counted_case crowd tops t n k false other h inside e =
    let a : slice_index (set crowd t.desk n) k ≡ slice_index crowd k = get_or-set_other crowd t.desk k n 0 (λ same. eqb-false t.desk k other (sym same)) in
    let m : count_by (on_desk k) (tops ++ t ∷ []) ≡ count_by (on_desk k) tops + 0 = counted_more tops t k ∙ ap (λ c. count_by (on_desk k) tops + cond c 1 0) other in
    omega (arith, a, m, h)

-- the counts with one process more
pub counted : (crowd : List ℕ) (tops : List Top) (t : Top) (n : ℕ) → ((k : ℕ) → k < 64 → slice_index crowd k ≡ count_by (λ u. u.desk == k) tops) → t.desk < length crowd → n ≡ slice_index crowd t.desk + 1 → (k : ℕ) → k < 64 → slice_index (set crowd t.desk n) k ≡ count_by (λ u. u.desk == k) (tops ++ t ∷ [])
counted crowd tops t n h inside e k lt = counted_case crowd tops t n k (on_desk k t) refl (h k lt) inside e

begun_suc : (less : ℕ) (d : Data) (ds : List Data) → required list (get (codes "ops") d) ≡ Ok ds → begun_in (suc less) d ≡ 1 + spawned_by (λ op. begun_in less op) ds
unfolding begun_in
begun_suc less d ds h = rw h refl

-- what a process with a list begins
pub begun_below : (levels : ℕ) (d : Data) (ds : List Data) → 0 < levels → required list (get (codes "ops") d) ≡ Ok ds → begun_in levels d ≡ 1 + spawned_by (begun_in (levels - 1)) ds
begun_below levels d ds some h =
    let e : levels ≡ suc (levels - 1) = omega arith in
    ap (λ l. begun_in l d) e ∙ begun_suc (levels - 1) d ds h

pub begun_last : (d : Data) → begun_in 0 d ≡ 1
unfolding begun_in
begun_last d = refl

-- what a process without a list begins
pub begun_alone : (levels : ℕ) (d : Data) (f : Fault) → required list (get (codes "ops") d) ≡ Err f → begun_in levels d ≡ 1
unfolding begun_in
begun_alone zero d f h = refl
begun_alone (suc less) d f h = rw h refl

-- what one operation more of a list begins
pub spawned_more : (begins : Data → ℕ) (ds : List Data) (i : ℕ) (d : Data) → i < length ds → get_or ds i d ≡ d → spawned_by begins (take (i + 1) ds) ≡ spawned_by begins (take i ds) + (if is_spawn d then begins d else 0)
spawned_more begins ds i d lt here =
    let f : Data → ℕ = λ x. if is_spawn x then begins x else 0 in
    let a : sum_by f (take (i + 1) ds) ≡ sum_by f (take i ds ++ d ∷ []) = ap (sum_by f) (take_more ds i d lt ∙ ap (λ y. take i ds ++ y ∷ []) here) in
    let b : sum_by f (take i ds ++ d ∷ []) ≡ sum_by f (take i ds) + sum_by f (d ∷ []) = sum_by-append f (take i ds) (d ∷ []) in
    let c : sum_by f (d ∷ []) ≡ f d = omega arith in
    omega (arith, a, b, c)
