-- A list is read one operation after the other.
use Rattle.std.proofs.Common.{◌≡◌, ℕ, zero, suc, true, false, ◌+◌, ◌-◌, List, [], ◌∷◌, ◌++◌, length, Result, Ok, Err, refl, ap, sym, ◌∙◌, append_assoc, append-nil, ◌<◌, ◌≤◌, get_or, drop, arith}
use Rattle.std.proofs.lemmas.List.{drop_more, drop_all}
use Rattle.serde_json.specs.Data.{Data}
use Rattle.pt_script.specs.declared.fault.ScriptError.{ScriptError}
use Rattle.pt_script.specs.declared.values.Operation.{Operation}
use Rattle.pt_script.specs.Scopes.{Scope}
use Rattle.pt_script.specs.Steps.{◌>>=◌}
use Rattle.pt_script.specs.declared.fault.Fault.{Fault}
use Rattle.pt_script.specs.declared.fault.Place.{Place}
use Rattle.pt_script.specs.declared.fault.ScriptError.TheVariants.{Refused, Memory}
use Rattle.pt_script.specs.Operations.{is_spawn}
use Rattle.pt_script.specs.Plans.{Plan}
use Rattle.pt_script.specs.Lists.{Part, Step, list_from, list_with, step_at, one_at, limits, placed, at_operation, simple, spawned, ScriptRefuses, ReadsSimple, ReadsStep}

-- what was read before, and then what read gives
abbrev pub behind : List Operation → List Plan → Result Part ScriptError → Result Part ScriptError
behind os inside read = read >>= λ p. Ok (record { operations = os ++ p.operations; inside = inside ++ p.inside; seen = p.seen })

abbrev pub with_first : Step → Result Part ScriptError → Result Part ScriptError
with_first one read = read >>= λ rest. Ok (record { operations = one.operation ∷ rest.operations; inside = one.inside ++ rest.inside; seen = rest.seen })

pub list_from-cons : (levels index : ℕ) (s : Scope) (next seen : ℕ) (d : Data) (ds : List Data) → list_from levels index s next seen (d ∷ ds) ≡ step_at levels index s next seen d >>= λ one. with_first one (list_from levels (index + 1) one.scope (next + length one.inside) one.seen ds)
unfolding list_from step_at list_with
list_from-cons zero index s next seen d ds = refl
list_from-cons (suc levels) index s next seen d ds = refl

pub list_from-nil : (levels index : ℕ) (s : Scope) (next seen : ℕ) → list_from levels index s next seen [] ≡ Ok (record { operations = []; inside = []; seen = seen })
unfolding list_from list_with
list_from-nil zero index s next seen = refl
list_from-nil (suc levels) index s next seen = refl

pub behind-first : (os : List Operation) (inside : List Plan) (one : Step) (read : Result Part ScriptError) → behind os inside (with_first one read) ≡ behind (os ++ one.operation ∷ []) (inside ++ one.inside) read
behind-first os inside one (Err e) = refl
behind-first os inside one (Ok p) = rw (append_assoc os (one.operation ∷ []) p.operations, append_assoc inside one.inside p.inside) refl

-- behind one more operation
pub behind_step : (levels index : ℕ) (s : Scope) (next seen : ℕ) (d : Data) (ds : List Data) (os : List Operation) (inside : List Plan) (one : Step) (all : Result Part ScriptError) → step_at levels index s next seen d ≡ Ok one → behind os inside (list_from levels index s next seen (d ∷ ds)) ≡ all → behind (os ++ one.operation ∷ []) (inside ++ one.inside) (list_from levels (index + 1) one.scope (next + length one.inside) one.seen ds) ≡ all
behind_step levels index s next seen d ds os inside one all step before =
    sym (behind-first os inside one (list_from levels (index + 1) one.scope (next + length one.inside) one.seen ds))
    ∙ ap (λ r. behind os inside (r >>= λ o. with_first o (list_from levels (index + 1) o.scope (next + length o.inside) o.seen ds))) (sym step)
    ∙ ap (behind os inside) (sym (list_from-cons levels index s next seen d ds))
    ∙ before

-- the fault of an operation is that of the list
pub behind_fault : (levels index : ℕ) (s : Scope) (next seen : ℕ) (d : Data) (ds : List Data) (os : List Operation) (inside : List Plan) (e : ScriptError) (all : Result Part ScriptError) → step_at levels index s next seen d ≡ Err e → behind os inside (list_from levels index s next seen (d ∷ ds)) ≡ all → all ≡ Err e
behind_fault levels index s next seen d ds os inside e all step before =
    sym before ∙ ap (behind os inside) (list_from-cons levels index s next seen d ds)
    ∙ ap (λ r. behind os inside (r >>= λ o. with_first o (list_from levels (index + 1) o.scope (next + length o.inside) o.seen ds))) step

-- what a step meets first: a limit
pub step_at-limits : (levels index : ℕ) (s : Scope) (next seen : ℕ) (d : Data) (e : ScriptError) → limits (is_spawn d) (at_operation s.own index) levels next seen ≡ Err e → step_at levels index s next seen d ≡ Err e
unfolding step_at one_at
step_at-limits zero index s next seen d e h = rw h refl
step_at-limits (suc levels) index s next seen d e h = rw h refl

-- an operation that spawns nothing
pub step_at-simple : (levels index : ℕ) (s : Scope) (next seen : ℕ) (d : Data) → limits (is_spawn d) (at_operation s.own index) levels next seen ≡ Ok tt → is_spawn d ≡ false → step_at levels index s next seen d ≡ (placed (at_operation s.own index) (simple s d) >>= λ o. Ok (record { operation = o.0; inside = []; seen = seen + 1; scope = o.1 }))
unfolding step_at one_at
step_at-simple zero index s next seen d h calm = rw (h, calm) refl
step_at-simple (suc levels) index s next seen d h calm = rw (h, calm) refl

-- a spawn
pub step_at-spawn : (less index : ℕ) (s : Scope) (next seen : ℕ) (d : Data) → limits (is_spawn d) (at_operation s.own index) (suc less) next seen ≡ Ok tt → is_spawn d ≡ true → step_at (suc less) index s next seen d ≡ spawned (λ t n k es. list_from less 0 t n k es) (at_operation s.own index) s next (seen + 1) d
unfolding step_at one_at
step_at-spawn less index s next seen d h spawns = rw (h, spawns) refl

-- the limits let no spawn pass at the last level
pub limits_levels : (place : Place) (levels next seen : ℕ) → limits true place levels next seen ≡ Ok tt → 0 < levels
limits_levels place levels next seen h = grind arith

pub step_at-spawn_below : (levels index : ℕ) (s : Scope) (next seen : ℕ) (d : Data) → limits (is_spawn d) (at_operation s.own index) levels next seen ≡ Ok tt → is_spawn d ≡ true → step_at levels index s next seen d ≡ spawned (λ t n k es. list_from (levels - 1) 0 t n k es) (at_operation s.own index) s next (seen + 1) d
step_at-spawn_below levels index s next seen d h spawns =
    let some : 0 < levels = limits_levels (at_operation s.own index) levels next seen (rw spawns at h) in
    let e : levels ≡ suc (levels - 1) = omega arith in
    ap (λ l. step_at l index s next seen d) e ∙ step_at-spawn (levels - 1) index s next seen d (ap (λ l. limits (is_spawn d) (at_operation s.own index) l next seen) (sym e) ∙ h) spawns

-- the same of a list's items by index
pub behind_next : (levels index : ℕ) (s : Scope) (next seen : ℕ) (xs : List Data) (d : Data) (os : List Operation) (inside : List Plan) (one : Step) (all : Result Part ScriptError) → index < length xs → get_or xs index d ≡ d → step_at levels index s next seen d ≡ Ok one → behind os inside (list_from levels index s next seen (drop index xs)) ≡ all → behind (os ++ one.operation ∷ []) (inside ++ one.inside) (list_from levels (index + 1) one.scope (next + length one.inside) one.seen (drop (index + 1) xs)) ≡ all
behind_next levels index s next seen xs d os inside one all lt here step before =
    behind_step levels index s next seen d (drop (index + 1) xs) os inside one all step
    (ap (λ ds. behind os inside (list_from levels index s next seen ds)) (sym (drop_more xs index d lt ∙ ap (λ e. e ∷ drop (index + 1) xs) here)) ∙ before)

pub refuses_behind : (levels index : ℕ) (s : Scope) (next seen : ℕ) (xs : List Data) (d : Data) (os : List Operation) (inside : List Plan) (e : ScriptError) (all : Result Part ScriptError) → index < length xs → get_or xs index d ≡ d → ScriptRefuses e (step_at levels index s next seen d) → behind os inside (list_from levels index s next seen (drop index xs)) ≡ all → ScriptRefuses e all
refuses_behind levels index s next seen xs d os inside Memory all lt here step before = tt
refuses_behind levels index s next seen xs d os inside (Refused f p) all lt here step before =
    behind_fault levels index s next seen d (drop (index + 1) xs) os inside (Refused f p) all step
    (ap (λ ds. behind os inside (list_from levels index s next seen ds)) (sym (drop_more xs index d lt ∙ ap (λ e. e ∷ drop (index + 1) xs) here)) ∙ before)

pub behind_end : (levels index : ℕ) (s : Scope) (next seen : ℕ) (xs : List Data) (os : List Operation) (inside : List Plan) (all : Result Part ScriptError) → length xs ≤ index → behind os inside (list_from levels index s next seen (drop index xs)) ≡ all → all ≡ Ok (record { operations = os; inside = inside; seen = seen })
behind_end levels index s next seen xs os inside all past before =
    sym before
    ∙ ap (λ ds. behind os inside (list_from levels index s next seen ds)) (drop_all index xs past)
    ∙ ap (behind os inside) (list_from-nil levels index s next seen)
    ∙ ap (λ xs. Ok (record { operations = xs; inside = inside ++ []; seen = seen })) (append-nil os)
    ∙ ap (λ xs. Ok (record { operations = os; inside = xs; seen = seen })) (append-nil inside)

-- what was refused, or nothing where memory ran out
pub refuses_from : {A : Type 0} (e : ScriptError) (read : Result A ScriptError) → read ≡ Err e → ScriptRefuses e read
refuses_from Memory read h = tt
refuses_from (Refused f p) read h = h

-- a refusal stays one, whatever comes after it
pub refuses_after : {A B : Type 0} (e : ScriptError) (read : Result A ScriptError) (f : A → Result B ScriptError) → ScriptRefuses e read → ScriptRefuses e (read >>= f)
refuses_after Memory read f h = tt
refuses_after (Refused fault place) read f h = ap (λ r. r >>= f) h

-- an operation that spawns nothing, as a step
pub simple_reads : (plans : List Plan) (place : Place) (after : Scope) (r : Result Operation ScriptError) (seen : ℕ) (read : Result (Operation × Scope) Fault) → ReadsSimple place after r read → ReadsStep plans plans (seen + 1) after r (placed place read >>= λ o. Ok (record { operation = o.0; inside = []; seen = seen + 1; scope = o.1 }))
simple_reads plans place after (Ok o) seen read h = ([], rw h refl, sym (append-nil plans))
simple_reads plans place after (Err e) seen read h = refuses_after e (placed place read) _ h
