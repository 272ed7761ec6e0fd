-- Lists, processes and scripts that are written out: they are sound, and what is refused has its place.
use Rattle.std.proofs.Common.{◌≡◌, ℕ, zero, suc, ◌+◌, ◌<◌, ◌≤◌, List, [], ◌∷◌, Bool, true, false, length, map, Option, Some, None, Result, Ok, Err, refl, ap, sym, ◌∙◌, subst, arith}
use Rattle.std.specs.Prelude.{if◌then◌else◌, nat_le, slice_get}
use Rattle.std.specs.List.{All}
use Rattle.std.proofs.lemmas.List.{length-map}
use Rattle.std.proofs.lemmas.List.Elements.{All-cons, All-head, All-tail}
use Rattle.std.proofs.lemmas.List.Sums.{sum_by-cons}
use Rattle.std.proofs.lemmas.Option.{slice_get_within}
use Rattle.pt_script.specs.declared.fault.Fault.{Fault}
use Rattle.pt_script.specs.declared.fault.Fault.TheVariants.{Bounds, Field}
use Rattle.pt_script.specs.declared.fault.ScriptError.{ScriptError}
use Rattle.pt_script.specs.declared.unrolling.Block.{Block}
use Rattle.pt_script.specs.declared.values.Operation.{Operation}
use Rattle.pt_script.specs.declared.values.Operation.TheVariants as operation
use Rattle.pt_script.specs.Plans.{Plan, Whole}
use Rattle.pt_script.specs.Steps.{◌>>=◌}
use Rattle.pt_script.specs.Sound.{Fits, IsSoundScript, ListFits, PlansFit, TopFits, operations_of, tags_made}
use Rattle.pt_script.specs.Unrolling.{Reached, Further, Ended, On, Wrong, Unrolled, onward, past_next, further, at_first, at_last, refused, hurried, hurried_operation, hurried_plan, unrolled, unrolled_list, unrolled_plans, unrolled_processes}
use Rattle.pt_script.proofs.UnrolledSound.{Goes, Stands, first_stands, further_goes}

-- a list that goes on has an operation at its place
abbrev IsOn : Further → Type 0
IsOn Ended = ⊥
IsOn (On r) = Unit {0}
IsOn (Wrong op) = ⊥

last_is_end : (bs : List Block) → IsOn (at_last bs) → ⊥
last_is_end [] h = h
last_is_end (b ∷ bs) h = h

on_within : (os : List Operation) (r : Reached) (o : Option Operation) → slice_get os r.place ≡ o → IsOn (past_next os r o) → r.place < length os
on_within os r None e h = absurd (last_is_end r.blocks h)
on_within os r (Some o) e h = slice_get_within os r.place o e

-- what a list is written out to: it fits, within the operations that were left; what is refused is in the list
abbrev pub ListOut : ℕ → ℕ → ℕ → List Operation → Result Unrolled ScriptError → Type 0
ListOut n budget process os (Ok u) = ListFits n 0 u.operations × (length u.operations + u.left ≤ budget)
ListOut n budget process os (Err e) = (fault : Fault) × (op : ℕ) × (op < length os) × (e ≡ refused fault process op)

onward_goes : (n left budget process : ℕ) (os : List Operation) (r : Reached) (f : Further) → ListFits n 0 os → Stands n os r → Goes n os r f → (IsOn f → r.place < length os) → length r.operations + left ≤ budget → ListOut n budget process os (onward left process os r f)
unfolding onward
onward_goes n zero budget process os r Ended fits h g within few = (h.fits, few)
onward_goes n (suc left) budget process os r Ended fits h g within few = (h.fits, few)
onward_goes n zero budget process os r (Wrong op) fits h g within few = (Field, op, g, refl)
onward_goes n (suc left) budget process os r (Wrong op) fits h g within few = (Field, op, g, refl)
onward_goes n zero budget process os r (On next) fits h g within few = (Bounds, r.place, within tt, refl)
onward_goes n (suc left) budget process os r (On next) fits h g within few =
    onward_goes n left budget process os next (further os next) fits g.0 (further_goes n os next fits g.0) (on_within os next (slice_get os next.place) refl) (omega (arith, g.1, few))

pub list_out : (n left process : ℕ) (os : List Operation) → ListFits n 0 os → ListOut n left process os (unrolled_list left process os)
list_out n left process os fits =
    let h = first_stands n os in
    onward_goes n left left process os at_first (further os at_first) fits h (further_goes n os at_first fits h) (on_within os at_first (slice_get os 0) refl) (omega arith)

-- processes ---------------------------------------------------------------------------

-- the operation with this number is one of the process with that number
abbrev pub HasOperation : List Plan → ℕ → ℕ → Type 0
HasOperation [] k op = ⊥
HasOperation (p ∷ ps) zero op = op < length p.operations
HasOperation (p ∷ ps) (suc k) op = HasOperation ps k op

abbrev pub PlansOut : ℕ → ℕ → ℕ → List Plan → Result (List Plan) ScriptError → Type 0
PlansOut n left first ps (Ok qs) = PlansFit n qs × (length qs ≡ length ps) × (operations_of qs ≤ left)
PlansOut n left first ps (Err e) = (fault : Fault) × (k : ℕ) × (op : ℕ) × HasOperation ps k op × (e ≡ refused fault (first + k) op)

more_plans : (n left first : ℕ) (p : Plan) (ps : List Plan) (one : Unrolled) → ListOut n left first p.operations (Ok one) → (others : Result (List Plan) ScriptError) → PlansOut n one.left (first + 1) ps others → PlansOut n left first (p ∷ ps) (others >>= λ qs. Ok (record { trap = p.trap; operations = one.operations } ∷ qs))
more_plans n left first p ps one h (Ok qs) g =
    let new : Plan = record { trap = p.trap; operations = one.operations } in
    (All-cons (λ q. ListFits n 0 q.operations) new qs h.0 g.0, omega (arith, g.1), omega (arith, sum_by-cons (λ q. length q.operations) new qs, h.1, g.2))
more_plans n left first p ps one h (Err e) g = (g.0, suc g.1, g.2, g.3, g.4 ∙ ap (λ k. refused g.0 k g.2) (omega arith))

first_plan : (n left first : ℕ) (p : Plan) (ps : List Plan) (one : Result Unrolled ScriptError) → ListOut n left first p.operations one → ((u : Unrolled) → PlansOut n u.left (first + 1) ps (unrolled_plans u.left (first + 1) ps)) → PlansOut n left first (p ∷ ps) (one >>= λ u. (unrolled_plans u.left (first + 1) ps >>= λ qs. Ok (record { trap = p.trap; operations = u.operations } ∷ qs)))
first_plan n left first p ps (Ok one) h rest = more_plans n left first p ps one h (unrolled_plans one.left (first + 1) ps) (rest one)
first_plan n left first p ps (Err e) h rest = (h.0, 0, h.1, h.2, h.3 ∙ ap (λ k. refused h.0 k h.1) (omega arith))

pub plans_out : (n left first : ℕ) (ps : List Plan) → PlansFit n ps → PlansOut n left first ps (unrolled_plans left first ps)
unfolding unrolled_plans
plans_out n left first [] fit = (fit, refl, omega arith)
plans_out n left first (p ∷ ps) fit =
    let one = All-head (λ q. ListFits n 0 q.operations) p ps fit in
    let others = All-tail (λ q. ListFits n 0 q.operations) p ps fit in
    first_plan n left first p ps (unrolled_list left first p.operations) (list_out n left first p.operations one) (λ u. plans_out n u.left (first + 1) ps others)

-- scripts -------------------------------------------------------------------------------

abbrev pub WholeOut : Whole → Result Whole ScriptError → Type 0
WholeOut w (Ok u) = IsSoundScript u × (length u.processes ≡ length w.processes)
WholeOut w (Err e) = (fault : Fault) × (k : ℕ) × (op : ℕ) × HasOperation w.processes k op × (e ≡ refused fault k op)

-- with other processes, as many, which fit and are short
with_processes : (w : Whole) (ps : List Plan) → PlansFit (length w.processes) ps → length ps ≡ length w.processes → operations_of ps ≤ 65536 → IsSoundScript w → IsSoundScript (record w { processes = ps })
with_processes w ps fit size short h = record {
  settings = h.settings;
  tops = subst (λ n. All (TopFits n w.settings.desks) w.tops) (sym size) h.tops;
  lists = subst (λ n. PlansFit n ps) (sym size) fit;
  processes = omega (arith, size, h.processes);
  operations = short;
}

of_plans : (w : Whole) → IsSoundScript w → (r : Result (List Plan) ScriptError) → PlansOut (length w.processes) 65536 0 w.processes r → WholeOut w (r >>= λ ps. Ok (record w { processes = ps }))
of_plans w h (Ok ps) g = (with_processes w ps g.0 g.1 g.2 h, g.1)
of_plans w h (Err e) g = (g.0, g.1, g.2, g.3, g.4 ∙ ap (λ k. refused g.0 k g.2) (omega arith))

by_format : (ps : List Plan) (n : ℕ) → PlansFit n ps → operations_of ps ≤ 65536 → (b : Bool) → PlansOut n 65536 0 ps (if b then unrolled_plans 65536 0 ps else Ok ps)
by_format ps n fit short true = plans_out n 65536 0 ps fit
by_format ps n fit short false = (fit, refl, short)

pub whole_out : (w : Whole) → IsSoundScript w → WholeOut w (unrolled w)
whole_out w h = of_plans w h (unrolled_processes w.settings.format w.processes) (by_format w.processes (length w.processes) h.lists h.operations (nat_le 3 w.settings.format))

pub unrolled_sound : (w u : Whole) → IsSoundScript w → unrolled w ≡ Ok u → IsSoundScript u
unrolled_sound w u h e = (subst (WholeOut w) e (whole_out w h)).0

-- the same of processes that were written out
pub plans_written_sound : (w : Whole) (ps : List Plan) → IsSoundScript w → unrolled_plans 65536 0 w.processes ≡ Ok ps → IsSoundScript (record w { processes = ps })
plans_written_sound w ps h e =
    let n : ℕ = length w.processes in
    let out = subst (PlansOut n 65536 0 w.processes) e (plans_out n 65536 0 w.processes h.lists) in
    with_processes w ps out.0 out.1 out.2 h

-- formats 1 and 2 are as they are written
pub old_format : (w : Whole) → w.settings.format < 3 → unrolled w ≡ Ok w
old_format w old =
    let no : nat_le 3 w.settings.format ≡ false = grind arith in
    rw no refl

-- hurried scripts -------------------------------------------------------------------------

hurried_fits : (n made : ℕ) (o : Operation) → Fits n made o → Fits n made (hurried_operation o)
hurried_fits n made (operation.ReceiveAfter p tries) h = h
hurried_fits n made o h = h

hurried_makes : (o : Operation) → tags_made (hurried_operation o) ≡ tags_made o
hurried_makes (operation.ReceiveAfter p tries) = refl
hurried_makes o = refl

hurried_list : (n made : ℕ) (os : List Operation) → ListFits n made os → ListFits n made (map hurried_operation os)
hurried_list n made [] h = tt
hurried_list n made (o ∷ os) h = (hurried_fits n made o h.0, subst (λ k. ListFits n k (map hurried_operation os)) (ap (λ k. made + k) (sym (hurried_makes o))) (hurried_list n (made + tags_made o) os h.1))

hurried_plans : (n : ℕ) (ps : List Plan) → PlansFit n ps → PlansFit n (map hurried_plan ps)
hurried_plans n [] h = h
hurried_plans n (p ∷ ps) h =
    let P : Plan → Type 0 = λ q. ListFits n 0 q.operations in
    All-cons P (hurried_plan p) (map hurried_plan ps) (hurried_list n 0 p.operations (All-head P p ps h)) (hurried_plans n ps (All-tail P p ps h))

-- as many operations
pub hurried_size : (ps : List Plan) → operations_of (map hurried_plan ps) ≡ operations_of ps
hurried_size [] = refl
hurried_size (p ∷ ps) =
    let size : Plan → ℕ = λ q. length q.operations in
    let one : length (map hurried_operation p.operations) ≡ length p.operations = length-map p.operations hurried_operation in
    omega (arith, sum_by-cons size (hurried_plan p) (map hurried_plan ps), sum_by-cons size p ps, one, hurried_size ps)

pub hurried_sound : (w : Whole) → IsSoundScript w → IsSoundScript (hurried w)
hurried_sound w h = with_processes w (map hurried_plan w.processes) (hurried_plans (length w.processes) w.processes h.lists) (length-map w.processes hurried_plan) (omega (arith, hurried_size w.processes, h.operations)) h
