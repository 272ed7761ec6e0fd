-- Scripts as they are run, with their repeats written out: they are sound, and their faults have places.
use Rattle.std.proofs.Common.{◌≡◌, ℕ, zero, suc, ◌+◌, ◌<◌, List, [], ◌∷◌, length, Option, Some, None, Result, Ok, Err, refl, ap, sym, ◌∙◌, subst, arith}
use Rattle.std.specs.Prelude.{IfOk, slice_index_or, ◌↔◌}
use Rattle.serde_json.specs.Data.{Data, null}
use Rattle.serde_json.specs.Read.{read}
use Rattle.pt_script.specs.declared.fault.Fault.{Fault}
use Rattle.pt_script.specs.declared.fault.Place.{Place}
use Rattle.pt_script.specs.declared.fault.ScriptError.{ScriptError}
use Rattle.pt_script.specs.declared.fault.ScriptError.TheVariants.{Memory, Refused}
use Rattle.pt_script.specs.declared.values.Operation.{Operation}
use Rattle.pt_script.specs.declared.values.Settings.{Settings}
use Rattle.pt_script.specs.Lists.{at_operation, at_script}
use Rattle.pt_script.specs.Plans.{Plan, Whole}
use Rattle.pt_script.specs.Scripts.{as_written, reading}
use Rattle.pt_script.specs.Sound.{IsSoundScript}
use Rattle.pt_script.specs.Standing.{AreOperationsOf, ArePlansOf, HasPlaceIn, all_processes, ops_of}
use Rattle.pt_script.specs.Steps.{◌>>=◌}
use Rattle.pt_script.specs.Unrolling.{refused, unrolled, unrolled_processes}
use Rattle.pt_script.proofs.Numbering.{Read, as_written_told}
use Rattle.pt_script.proofs.SoundScripts.{as_written_sound}
use Rattle.pt_script.proofs.Standing.{Told, told}
use Rattle.pt_script.proofs.UnrolledScripts.{HasOperation, WholeOut, old_format, unrolled_sound, whole_out}

-- sound ---------------------------------------------------------------------------

run_sound : (r : Result Whole ScriptError) (w : Whole) → IfOk r IsSoundScript → r >>= unrolled ≡ Ok w → IsSoundScript w
run_sound (Ok v) w sound is = unrolled_sound v w sound is
run_sound (Err e) w sound is = cc

pub accepted_sound : (bytes : List ℕ) (w : Whole) → reading bytes ≡ Ok w → IsSoundScript w
unfolding reading
accepted_sound bytes w is = run_sound (as_written bytes) w (as_written_sound bytes) is

-- faults ----------------------------------------------------------------------------

operations_length : (all : List Data) (os : List Operation) (ds : List Data) → AreOperationsOf all os ds → length os ≡ length ds
operations_length all [] [] are = refl
operations_length all [] (d ∷ ds) are = absurd are
operations_length all (o ∷ os) [] are = absurd are
operations_length all (o ∷ os) (d ∷ ds) are = ap suc (operations_length all os ds are.1)

-- an operation of a script is one of the text
among : (all : List Data) (ps : List Plan) (ds : List Data) (k op : ℕ) → ArePlansOf all ps ds → HasOperation ps k op → (k < length ds) × (op < length (ops_of (slice_index_or ds k null)))
among all [] ds k op are has = absurd has
among all (p ∷ ps) [] k op are has = absurd are
among all (p ∷ ps) (d ∷ ds) zero op are has = (omega arith, omega (arith, has, operations_length all p.operations (ops_of d) are.0))
among all (p ∷ ps) (d ∷ ds) (suc k) op are has =
    let later = among all ps ds k op are.1 has in
    (omega (arith, later.0), later.1)

abbrev place_of : ScriptError → Place
place_of (Refused fault place) = place
place_of Memory = at_script

out_told : (o : Option Data) (w : Whole) (r : Result Whole ScriptError) → Read o w → WholeOut w r → Told (HasPlaceIn o) (λ u. Unit {0}) r
out_told o w (Ok u) is h = tt
out_told o w (Err Memory) is h = tt
out_told o w (Err (Refused fault place)) is h =
    let here : place ≡ at_operation h.1 h.2 = ap place_of h.4 in
    subst (HasPlaceIn o) (sym here) (subst (λ x. HasPlaceIn x (at_operation h.1 h.2)) (sym is.1) (among (all_processes is.0) w.processes (all_processes is.0) h.1 h.2 is.2.plans h.3))

both_told : (P : Place → Type 0) (A B : Whole → Type 0) (r : Result Whole ScriptError) → IfOk r A → Told P B r → Told P (λ w. A w × B w) r
both_told P A B (Ok w) a b = (a, b)
both_told P A B (Err (Refused fault place)) a b = b
both_told P A B (Err Memory) a b = tt

reading_told : (bytes : List ℕ) → Told (HasPlaceIn (read bytes)) (λ u. Unit {0}) (reading bytes)
unfolding reading
reading_told bytes =
    let o : Option Data = read bytes in
    told (HasPlaceIn o) (λ w. IsSoundScript w × Read o w) (λ u. Unit {0}) (as_written bytes) unrolled
    (both_told (HasPlaceIn o) IsSoundScript (Read o) (as_written bytes) (as_written_sound bytes) (as_written_told bytes))
    (λ w h. out_told o w (unrolled w) h.1 (whole_out w h.0))

pub faults_have_places : (bytes : List ℕ) (fault : Fault) (place : Place) → reading bytes ≡ Err (Refused fault place) → HasPlaceIn (read bytes) place
faults_have_places bytes fault place e = rw e at (reading_told bytes)

-- formats 1 and 2 ---------------------------------------------------------------------

abbrev settings_or : Settings → Result Whole ScriptError → Settings
settings_or other (Ok w) = w.settings
settings_or other (Err e) = other

format_kept : (w : Whole) (r : Result (List Plan) ScriptError) (u : Whole) → r >>= (λ ps. Ok (record w { processes = ps })) ≡ Ok u → u.settings ≡ w.settings
format_kept w (Ok ps) u is = sym (ap (settings_or w.settings) is)
format_kept w (Err e) u is = sym (ap (settings_or w.settings) is)

written_is : (r : Result Whole ScriptError) (w : Whole) → w.settings.format < 3 → r >>= unrolled ≡ Ok w → r ≡ Ok w
written_is (Ok v) w old is =
    let same : w.settings ≡ v.settings = format_kept v (unrolled_processes v.settings.format v.processes) w is in
    let young : v.settings.format < 3 = subst (λ s. s.format < 3) same old in
    sym (old_format v young) ∙ is
written_is (Err e) w old is = cc

run_is : (r : Result Whole ScriptError) (w : Whole) → w.settings.format < 3 → r ≡ Ok w → r >>= unrolled ≡ Ok w
run_is r w old is = ap (λ x. x >>= unrolled) is ∙ old_format w old

pub old_formats : (bytes : List ℕ) (w : Whole) → w.settings.format < 3 → (reading bytes ≡ Ok w) ↔ (as_written bytes ≡ Ok w)
unfolding reading
old_formats bytes w old = (written_is (as_written bytes) w old, run_is (as_written bytes) w old)
