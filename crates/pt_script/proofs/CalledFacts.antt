-- The names of processes, one after the other.
use Rattle.std.proofs.Common.{◌≡◌, ℕ, zero, suc, ◌+◌, ◌-◌, ◌<◌, List, [], ◌∷◌, ◌++◌, Bool, true, false, map, length, take, get_or, Some, None, Result, Ok, Err, refl, ap, sym, ◌∙◌, append_assoc, append-nil, arith}
use Rattle.std.specs.Prelude.{OnOk, codes, if◌then◌else◌}
use Rattle.std.specs.Str.{is_utf8, IsUtf8}
use Rattle.std.proofs.lemmas.List.{take_more, map-append}
use Rattle.serde_json.specs.Data.{Data}
use Rattle.serde_json.specs.Find.{get}
use Rattle.serde_json.specs.Read.{read}
use Rattle.pt_script.specs.declared.fault.Fault.{Fault}
use Rattle.pt_script.specs.Members.{required, list}
use Rattle.pt_script.specs.Operations.{is_spawn}
use Rattle.pt_script.specs.Called.{name_of, names_in}
use Rattle.pt_script.specs.Standing.{all_processes, processes_in, processes_of, spawns_in}
use Rattle.std.proofs.lemmas.Str.{is_utf8-from_IsUtf8, IsUtf8-from_is_utf8}

pub on_ok : {T E : Type 0} {A B : Type 0} (r : Result T E) → (A → B) → OnOk r A → OnOk r B
on_ok (Ok x) f h = f h
on_ok (Err e) f h = tt

-- a name more
pub pushed : {S : Type 0} (bytes : S → List ℕ) (old new : List S) (x : S) (name : List ℕ) → new ≡ old ++ x ∷ [] → bytes x ≡ name → map bytes new ≡ map bytes old ++ name ∷ []
pushed bytes old new x name is named = ap (map bytes) is ∙ map-append bytes old (x ∷ []) ∙ ap (λ n. map bytes old ++ n ∷ []) named

-- the names of these, and then of those
pub goes_on : (start between behind : List (List ℕ)) (ps qs : List Data) → between ≡ start ++ map name_of ps → behind ≡ between ++ map name_of qs → behind ≡ start ++ map name_of (ps ++ qs)
goes_on start between behind ps qs first second =
    second ∙ ap (λ z. z ++ map name_of qs) first ∙ append_assoc start (map name_of ps) (map name_of qs) ∙ ap (λ z. start ++ z) (sym (map-append name_of ps qs))

-- the processes of one more of a list
module _ (of_list : List Data → List Data) (of_one : Data → List Data) (nil : of_list [] ≡ []) (cons : (d : Data) (ds : List Data) → of_list (d ∷ ds) ≡ of_one d ++ of_list ds) where
  behind : (ds : List Data) (d : Data) → of_list (ds ++ d ∷ []) ≡ of_list ds ++ of_one d
  behind [] d = cons d [] ∙ ap (λ z. of_one d ++ z) nil ∙ append-nil (of_one d) ∙ ap (λ z. z ++ of_one d) (sym nil)
  behind (x ∷ ds) d =
      cons x (ds ++ d ∷ []) ∙ ap (λ z. of_one x ++ z) (behind ds d) ∙ sym (append_assoc (of_one x) (of_list ds) (of_one d))
      ∙ ap (λ z. z ++ of_one d) (sym (cons x ds))

  one_more : (ds : List Data) (i : ℕ) (d : Data) → i < length ds → get_or ds i d ≡ d → of_list (take i ds) ++ of_one d ≡ of_list (take (i + 1) ds)
  one_more ds i d lt here = sym (ap of_list (take_more ds i d lt ∙ ap (λ y. take i ds ++ y ∷ []) here) ∙ behind (take i ds) d)

pub one_more_spawns : (inside : Data → List Data) (ds : List Data) (i : ℕ) (d : Data) → i < length ds → get_or ds i d ≡ d
    → spawns_in inside (take i ds) ++ (if is_spawn d then inside d else []) ≡ spawns_in inside (take (i + 1) ds)
one_more_spawns inside = one_more (spawns_in inside) (λ d. if is_spawn d then inside d else []) refl (λ d ds. refl)

pub one_more_process : (ds : List Data) (i : ℕ) (d : Data) → i < length ds → get_or ds i d ≡ d → processes_of (take i ds) ++ processes_in 63 d ≡ processes_of (take (i + 1) ds)
one_more_process = one_more processes_of (processes_in 63) refl (λ d ds. refl)

pub alone_at_last : (d : Data) → processes_in 0 d ≡ d ∷ []
unfolding processes_in
alone_at_last d = refl

pub alone : (levels : ℕ) (d : Data) (f : Fault) → required list (get (codes "ops") d) ≡ Err f → processes_in levels d ≡ d ∷ []
unfolding processes_in
alone zero d f h = refl
alone (suc less) d f h = rw h refl

pub with_spawns : (levels : ℕ) (d : Data) (ops : List Data) → 0 < levels → required list (get (codes "ops") d) ≡ Ok ops → processes_in levels d ≡ d ∷ spawns_in (processes_in (levels - 1)) ops
unfolding processes_in
with_spawns zero d ops some h = absurd (omega arith)
with_spawns (suc less) d ops some h = let e : less ≡ suc less - 1 = omega arith in rw h (ap (λ n. d ∷ spawns_in (processes_in n) ops) e)

pub names_of_value : (bytes : List ℕ) (d : Data) → IsUtf8 bytes → read bytes ≡ Some d → names_in bytes ≡ map name_of (all_processes d)
unfolding names_in
names_of_value bytes d text value = rw (is_utf8-from_IsUtf8 bytes text, value) refl

no_names : (bytes : List ℕ) (b : Bool) → is_utf8 bytes ≡ b → (IsUtf8 bytes → read bytes ≡ None) → names_in bytes ≡ []
unfolding names_in
no_names bytes true is none = rw (is, none (IsUtf8-from_is_utf8 bytes is)) refl
no_names bytes false is none = rw is refl

pub names_of_no_value : (bytes : List ℕ) → (IsUtf8 bytes → read bytes ≡ None) → names_in bytes ≡ []
names_of_no_value bytes none = no_names bytes (is_utf8 bytes) refl none
