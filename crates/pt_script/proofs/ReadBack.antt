-- Lists of operations that were written are read back.
use Rattle.std.proofs.Common.{◌≡◌, ℕ, zero, suc, ◌+◌, ◌<◌, ◌≤◌, ◌^◌, List, [], ◌∷◌, ◌++◌, map, Bool, true, false, length, length-append, Some, None, Ok, refl, ap, sym, subst, ◌∙◌, arith}
use Rattle.std.specs.Prelude.{nat_le}
use Rattle.std.proofs.lemmas.List.Sums.{sum_by-append}
use Rattle.serde_json.specs.Data.{Data}
use Rattle.pt_script.specs.declared.fault.Place.{Place}
use Rattle.pt_script.specs.declared.values.Operation.{Operation}
use Rattle.pt_script.specs.declared.values.Operation.TheVariants as operation
use Rattle.pt_script.specs.Plans.{Plan}
use Rattle.pt_script.specs.Steps.{◌>>=◌}
use Rattle.pt_script.specs.Operations.{is_spawn, spawn}
use Rattle.pt_script.specs.Scopes.{Scope, process_in}
use Rattle.pt_script.specs.Lists.{Part, Step, placed, at_operation, fresh_scope, with_child, limits, list_from, step_at}
use Rattle.pt_script.specs.Sound.{operations_of}
use Rattle.pt_script.specs.Sights.{NameSight, CanDo, sight_behind, first_sight, Begins, StepBegins, ListBegins, NoneBegins, BeginsIn}
use Rattle.pt_script.specs.Writing.{Called, written_operation, CanSay, scope_behind}
use Rattle.pt_script.specs.WritingScripts.{process_name, calls, plan_of, spawn_written, operation_written, list_written}
use Rattle.pt_script.proofs.ObjectFacts.{data_of-items_of}
use Rattle.pt_script.proofs.ListFacts.{list_from-cons, list_from-nil, step_at-simple, step_at-spawn, with_first}
use Rattle.pt_script.proofs.SoundLists.{sum_cons}
use Rattle.pt_script.proofs.StepFacts.{spawned_read}
use Rattle.pt_script.proofs.SightFacts.{Agrees, own_name, can_say, agrees_behind, spawned_in, begun_in_sight, new_name_of}
use Rattle.pt_script.proofs.Writing.{back}

-- the processes stand there from a number on
abbrev pub StandAll : List Plan → ℕ → List Plan → Type 0
StandAll all n [] = Unit {0}
StandAll all n (p ∷ ps) = (plan_of all n ≡ p) × StandAll all (n + 1) ps

pub stand_first : (all : List Plan) (n : ℕ) (xs ys : List Plan) → StandAll all n (xs ++ ys) → StandAll all n xs
stand_first all n [] ys h = tt
stand_first all n (x ∷ xs) ys h = (h.0, stand_first all (n + 1) xs ys h.1)

pub stand_others : (all : List Plan) (n : ℕ) (xs ys : List Plan) → StandAll all n (xs ++ ys) → StandAll all (n + length xs) ys
stand_others all n [] ys h = let e : n ≡ n + 0 = omega arith in subst (λ m. StandAll all m ys) e h
stand_others all n (x ∷ xs) ys h =
    let e : n + 1 + length xs ≡ n + length (x ∷ xs) = omega arith in
    subst (λ m. StandAll all m ys) e (stand_others all (n + 1) xs ys h.1)

-- one operation --------------------------------------------------------------------

spawn_back : (s : Scope) (n : ℕ) (linked trap : Bool) (ops : List Data) → n < 2 ^ 64 → process_in s (process_name n) ≡ None → spawn s (spawn_written n linked trap ops) ≡ Ok (record { name = process_name n; linked = linked; trap = trap; ops = ops })
unfolding spawn
spawn_back s n linked trap ops small new = rw (own_name n small, new, data_of-items_of ops) refl

limits_calm : (place : Place) (levels next seen : ℕ) → seen < 65536 → limits false place levels next seen ≡ Ok tt
limits_calm place levels next seen few = let low : nat_le 65536 seen ≡ false = grind (arith, few) in rw low refl

limits_spawn : (place : Place) (less next seen : ℕ) → next < 4096 → seen < 65536 → limits true place (suc less) next seen ≡ Ok tt
limits_spawn place less next seen low few =
    let a : nat_le 4096 next ≡ false = grind (arith, low) in
    let b : nat_le 65536 seen ≡ false = grind (arith, few) in
    let c : nat_le (suc less) 0 ≡ false = grind arith in
    rw (a, b, c) refl

simple_back : (levels index : ℕ) (s : Scope) (next seen : ℕ) (c : Called) (o : Operation) → is_spawn (written_operation c o) ≡ false → CanSay s c o → seen < 65536 → step_at levels index s next seen (written_operation c o) ≡ Ok (record { operation = o; inside = []; seen = seen + 1; scope = scope_behind s c o })
simple_back levels index s next seen c o calm say few =
    let free : limits (is_spawn (written_operation c o)) (at_operation s.own index) levels next seen ≡ Ok tt = ap (λ b. limits b (at_operation s.own index) levels next seen) calm ∙ limits_calm (at_operation s.own index) levels next seen few in
    step_at-simple levels index s next seen (written_operation c o) free calm ∙ ap (λ r. placed (at_operation s.own index) r >>= λ m. Ok (record { operation = m.0; inside = []; seen = seen + 1; scope = m.1 })) (back s c o say)

-- how many operations have been read behind a spawn
abbrev read_behind : ℕ → Plan → List Plan → ℕ
read_behind seen child inside = seen + 1 + (length child.operations + operations_of inside)

spawn_step : (less index next seen : ℕ) (s : Scope) (linked : Bool) (child : Plan) (inside : List Plan) (ops : List Data) → next < 4096 → seen < 65536 → process_in s (process_name next) ≡ None → list_from less 0 (fresh_scope s.format next (Some s.own) s.tops) (next + 1) (seen + 1) ops ≡ Ok (record { operations = child.operations; inside = inside; seen = read_behind seen child inside }) → step_at (suc less) index s next seen (spawn_written next linked child.trap ops) ≡ Ok (record { operation = operation.Spawn next linked; inside = child ∷ inside; seen = read_behind seen child inside; scope = with_child s (process_name next) next })
spawn_step less index next seen s linked child inside ops low few new got =
    let d : Data = spawn_written next linked child.trap ops in
    let place : Place = at_operation s.own index in
    step_at-spawn less index s next seen d (limits_spawn place less next seen low few) refl
    ∙ spawned_read (λ t n k es. list_from less 0 t n k es) place s next (seen + 1) d (record { name = process_name next; linked = linked; trap = child.trap; ops = ops }) (record { operations = child.operations; inside = inside; seen = read_behind seen child inside }) (read_behind seen child inside) (with_child s (process_name next) next).children (spawn_back s next linked child.trap ops (omega (arith, low)) new) got refl refl

-- lists ------------------------------------------------------------------------------

-- what a spawn in a list of so many levels begins
abbrev pub Inner : ℕ → Begins
Inner zero = NoneBegins
Inner (suc levels) = λ u n qs ps. BeginsIn levels u n qs ps

opened : (levels : ℕ) (v : NameSight) (next : ℕ) (os : List Operation) (plans : List Plan) → BeginsIn levels v next os plans → ListBegins (Inner levels) v next os plans
unfolding BeginsIn
opened zero v next os plans h = h
opened (suc levels) v next os plans h = h

-- the operations of a list, written
abbrev pub ops_written : ℕ → List Plan → NameSight → List Operation → List Data
ops_written levels all v os = map (operation_written (λ n. list_written levels all (Some v.own) n) all (calls v.own v.parent)) os

abbrev whole_part : ℕ → List Operation → List Plan → Part
whole_part seen os plans = record { operations = os; inside = plans; seen = seen + (length os + operations_of plans) }

-- in lists of so many levels, what was written is read back
abbrev pub ReadsBack : List Plan → ℕ → Type 0
ReadsBack all levels =
    (from to next seen index : ℕ) (s : Scope) (v : NameSight) (os : List Operation) (plans : List Plan) → Agrees from to next seen s v → BeginsIn levels v next os plans → to ≤ 4096
    → StandAll all next plans → next + length plans ≤ to → seen + (length os + operations_of plans) ≤ 65536
    → list_from levels index s next seen (ops_written levels all v os) ≡ Ok (whole_part seen os plans)

abbrev InnerBack : List Plan → ℕ → Type 0
InnerBack all zero = Unit {0}
InnerBack all (suc levels) = ReadsBack all levels

-- an operation is read back, with what it begins, and what is behind it agrees
abbrev StepBack : (levels from to next seen index : ℕ) → Scope → NameSight → Operation → List Plan → Data → Type 0
StepBack levels from to next seen index s v o mine d =
    (t : Scope) × (step_at levels index s next seen d ≡ Ok (record { operation = o; inside = mine; seen = seen + (1 + operations_of mine); scope = t }))
    × Agrees from to (next + length mine) (seen + (1 + operations_of mine)) t (sight_behind v o)

simple_case : (levels from to next seen index : ℕ) (s : Scope) (v : NameSight) (o : Operation) (mine : List Plan) (d : Data) → Agrees from to next seen s v → next ≤ 4096 → seen < 65536 → is_spawn (written_operation (calls v.own v.parent) o) ≡ false → d ≡ written_operation (calls v.own v.parent) o → CanDo v o → mine ≡ [] → StepBack levels from to next seen index s v o mine d
simple_case levels from to next seen index s v o mine d h low few calm same can none =
    let c : Called = calls v.own v.parent in
    let a : seen + 1 ≡ seen + (1 + operations_of []) = omega arith in
    let b : next ≡ next + length {A = Plan} [] = omega arith in
    let read : step_at levels index s next seen d ≡ Ok (record { operation = o; inside = []; seen = seen + (1 + operations_of []); scope = scope_behind s c o }) =
    ap (λ e. step_at levels index s next seen e) same ∙ simple_back levels index s next seen c o calm (can_say from to next seen s v h low (omega (arith, few)) o can) few ∙ ap (λ k. Ok (record { operation = o; inside = []; seen = k; scope = scope_behind s c o })) a in
    let agrees : Agrees from to (next + length {A = Plan} []) (seen + (1 + operations_of [])) (scope_behind s c o) (sight_behind v o) = subst (λ n. Agrees from to n (seen + (1 + operations_of [])) (scope_behind s c o) (sight_behind v o)) b (subst (λ k. Agrees from to next k (scope_behind s c o) (sight_behind v o)) a (agrees_behind from to next seen s v h (omega (arith, few)) o can)) in
    subst (λ (ps : List Plan). StepBack levels from to next seen index s v o ps d) (sym none) (scope_behind s c o, read, agrees)

-- the written list of a process is that of its operations
list_is : (less : ℕ) (all : List Plan) (format own n : ℕ) (tops : List ℕ) (child : Plan) → plan_of all n ≡ child → list_written (suc less) all (Some own) n ≡ ops_written less all (first_sight format n (Some own) tops) child.operations
unfolding list_written
list_is less all format own n tops child e = rw e refl

spawn_case : (all : List Plan) (levels from to next seen index : ℕ) (s : Scope) (v : NameSight) (n : ℕ) (linked : Bool) (mine : List Plan) → InnerBack all levels → Agrees from to next seen s v → to ≤ 4096 → StandAll all next mine → next + length mine ≤ to → seen + (1 + operations_of mine) ≤ 65536 → StepBegins (Inner levels) v next (operation.Spawn n linked) mine → StepBack levels from to next seen index s v (operation.Spawn n linked) mine (spawn_written n linked (plan_of all n).trap (list_written levels all (Some v.own) n))
spawn_case all levels from to next seen index s v n linked [] inner h low stand fits few begins = absurd begins
spawn_case all zero from to next seen index s v n linked (child ∷ inside) inner h low stand fits few begins = absurd begins.1
spawn_case all (suc less) from to next seen index s v n linked (child ∷ inside) inner h low stand fits few begins =
    let sum : operations_of (child ∷ inside) ≡ length child.operations + operations_of inside = sum_cons (λ (p : Plan). length p.operations) child inside in
    let u : NameSight = first_sight v.format next (Some v.own) v.tops in
    let t : Scope = fresh_scope s.format next (Some s.own) s.tops in
    let ops : List Data = list_written (suc less) all (Some v.own) next in
    let small : next < 4096 = omega (arith, fits, low) in
    let ahead : next < to = omega (arith, fits) in
    let short : seen < 65536 = omega (arith, few) in
    let seen_is : read_behind seen child inside ≡ seen + (1 + operations_of (child ∷ inside)) = omega (arith, sum) in
    let next_is : next + (length inside + 1) ≡ next + length (child ∷ inside) = omega arith in
    let got : list_from less 0 t (next + 1) (seen + 1) ops ≡ Ok (record { operations = child.operations; inside = inside; seen = read_behind seen child inside }) =
    ap (λ (es : List Data). list_from less 0 t (next + 1) (seen + 1) es) (list_is less all v.format v.own next v.tops child stand.0) ∙ inner from to (next + 1) (seen + 1) 0 t u child.operations inside (begun_in_sight from to next seen s v h) begins.1 low stand.1 (omega (arith, fits)) (omega (arith, few, sum)) in
    let read : step_at (suc less) index s next seen (spawn_written next linked child.trap ops) ≡ Ok (record { operation = operation.Spawn next linked; inside = child ∷ inside; seen = seen + (1 + operations_of (child ∷ inside)); scope = with_child s (process_name next) next }) =
    spawn_step less index next seen s linked child inside ops small short (new_name_of from to next seen s v h ahead small) got ∙ ap (λ k. Ok (record { operation = operation.Spawn next linked; inside = child ∷ inside; seen = k; scope = with_child s (process_name next) next })) seen_is in
    let agrees : Agrees from to (next + length (child ∷ inside)) (seen + (1 + operations_of (child ∷ inside))) (with_child s (process_name next) next) (sight_behind v (operation.Spawn next linked)) =
    subst (λ m. Agrees from to m (seen + (1 + operations_of (child ∷ inside))) (with_child s (process_name next) next) (sight_behind v (operation.Spawn next linked))) next_is (spawned_in from to next seen (seen + (1 + operations_of (child ∷ inside))) (length inside) s v h small (omega arith) linked) in
    let here : StepBack (suc less) from to next seen index s v (operation.Spawn next linked) (child ∷ inside) (spawn_written next linked child.trap ops) = (with_child s (process_name next) next, read, agrees) in
    let plain : StepBack (suc less) from to next seen index s v (operation.Spawn next linked) (child ∷ inside) (spawn_written next linked (plan_of all next).trap ops) = subst (λ (p : Plan). StepBack (suc less) from to next seen index s v (operation.Spawn next linked) (child ∷ inside) (spawn_written next linked p.trap ops)) (sym stand.0) here in
    subst (λ m. StepBack (suc less) from to next seen index s v (operation.Spawn m linked) (child ∷ inside) (spawn_written m linked (plan_of all m).trap (list_written (suc less) all (Some v.own) m))) (sym begins.0) plain

step_back : (all : List Plan) (levels from to next seen index : ℕ) (s : Scope) (v : NameSight) (o : Operation) (mine : List Plan) → InnerBack all levels → Agrees from to next seen s v → to ≤ 4096 → StandAll all next mine → next + length mine ≤ to → seen + (1 + operations_of mine) ≤ 65536 → StepBegins (Inner levels) v next o mine → StepBack levels from to next seen index s v o mine (operation_written (λ n. list_written levels all (Some v.own) n) all (calls v.own v.parent) o)
step_back all levels from to next seen index s v (operation.Spawn n linked) mine inner h low stand fits few begins = spawn_case all levels from to next seen index s v n linked mine inner h low stand fits few begins
step_back all levels from to next seen index s v o mine inner h low stand fits few begins = simple_case levels from to next seen index s v o mine (written_operation (calls v.own v.parent) o) h (omega (arith, fits, low)) (omega (arith, few)) refl refl begins.0 begins.1

then_list : (all : List Plan) (levels next seen index : ℕ) (s t : Scope) (v : NameSight) (o : Operation) (os : List Operation) (mine others : List Plan) (d : Data) (ds : List Data) → step_at levels index s next seen d ≡ Ok (record { operation = o; inside = mine; seen = seen + (1 + operations_of mine); scope = t }) → list_from levels (index + 1) t (next + length mine) (seen + (1 + operations_of mine)) ds ≡ Ok (whole_part (seen + (1 + operations_of mine)) os others) → list_from levels index s next seen (d ∷ ds) ≡ Ok (whole_part seen (o ∷ os) (mine ++ others))
then_list all levels next seen index s t v o os mine others d ds step rest =
    let sum : seen + (1 + operations_of mine) + (length os + operations_of others) ≡ seen + (length (o ∷ os) + operations_of (mine ++ others)) = omega (arith, sum_by-append (λ (p : Plan). length p.operations) mine others) in
    let one : Step = record { operation = o; inside = mine; seen = seen + (1 + operations_of mine); scope = t } in
    list_from-cons levels index s next seen d ds
    ∙ ap (λ r. r >>= λ one. with_first one (list_from levels (index + 1) one.scope (next + length one.inside) one.seen ds)) step
    ∙ ap (λ r. with_first one r) rest
    ∙ ap (λ k. Ok (record { operations = o ∷ os; inside = mine ++ others; seen = k })) sum

-- in lists of so many levels, these operations are read back
abbrev ListBack : List Plan → ℕ → List Operation → Type 0
ListBack all levels os =
    (from to next seen index : ℕ) (s : Scope) (v : NameSight) (plans : List Plan) → Agrees from to next seen s v → to ≤ 4096 → ListBegins (Inner levels) v next os plans
    → StandAll all next plans → next + length plans ≤ to → seen + (length os + operations_of plans) ≤ 65536
    → list_from levels index s next seen (ops_written levels all v os) ≡ Ok (whole_part seen os plans)

nil_back : (all : List Plan) (levels : ℕ) → ListBack all levels []
nil_back all levels from to next seen index s v plans h low begins stand fits few =
    let e : seen ≡ seen + (0 + operations_of []) = omega arith in
    let read : list_from levels index s next seen [] ≡ Ok (whole_part seen [] []) = list_from-nil levels index s next seen ∙ ap (λ k. Ok (record { operations = []; inside = []; seen = k })) e in
    subst (λ (ps : List Plan). list_from levels index s next seen [] ≡ Ok (whole_part seen [] ps)) (sym begins) read

-- the names are the same behind an operation
same_names : (levels : ℕ) (all : List Plan) (v : NameSight) (o : Operation) (os : List Operation) → ops_written levels all (sight_behind v o) os ≡ ops_written levels all v os
same_names levels all v (operation.Monitor n tag) os = refl
same_names levels all v _ os = refl

parts_back : (all : List Plan) (levels : ℕ) → InnerBack all levels → (o : Operation) (os : List Operation) → ListBack all levels os → (from to next seen index : ℕ) (s : Scope) (v : NameSight) (mine others : List Plan) → Agrees from to next seen s v → to ≤ 4096 → StepBegins (Inner levels) v next o mine → ListBegins (Inner levels) (sight_behind v o) (next + length mine) os others → StandAll all next (mine ++ others) → next + length (mine ++ others) ≤ to → seen + (length (o ∷ os) + operations_of (mine ++ others)) ≤ 65536 → list_from levels index s next seen (ops_written levels all v (o ∷ os)) ≡ Ok (whole_part seen (o ∷ os) (mine ++ others))
parts_back all levels inner o os back_rest from to next seen index s v mine others h low step rest stand fits few =
    let len : length (mine ++ others) ≡ length mine + length others = length-append mine others in
    let sum : operations_of (mine ++ others) ≡ operations_of mine + operations_of others = sum_by-append (λ (p : Plan). length p.operations) mine others in
    let one : StepBack levels from to next seen index s v o mine (operation_written (λ n. list_written levels all (Some v.own) n) all (calls v.own v.parent) o) = step_back all levels from to next seen index s v o mine inner h low (stand_first all next mine others stand) (omega (arith, fits, len)) (omega (arith, few, sum)) step in
    let further : ℕ = seen + (1 + operations_of mine) in
    let later : list_from levels (index + 1) one.0 (next + length mine) further (ops_written levels all (sight_behind v o) os) ≡ Ok (whole_part further os others) =
    back_rest from to (next + length mine) further (index + 1) one.0 (sight_behind v o) others one.2 low rest (stand_others all next mine others stand) (omega (arith, fits, len)) (omega (arith, few, sum)) in
    then_list all levels next seen index s one.0 v o os mine others (operation_written (λ n. list_written levels all (Some v.own) n) all (calls v.own v.parent) o) (ops_written levels all v os) one.1 (subst (λ (es : List Data). list_from levels (index + 1) one.0 (next + length mine) further es ≡ Ok (whole_part further os others)) (same_names levels all v o os) later)

cons_back : (all : List Plan) (levels : ℕ) → InnerBack all levels → (o : Operation) (os : List Operation) → ListBack all levels os → ListBack all levels (o ∷ os)
cons_back all levels inner o os back_rest from to next seen index s v plans h low begins stand fits few =
    let split = begins.2 in
    let P : List Plan → Type 0 = λ ps. StandAll all next ps → next + length ps ≤ to → seen + (length (o ∷ os) + operations_of ps) ≤ 65536 → list_from levels index s next seen (ops_written levels all v (o ∷ os)) ≡ Ok (whole_part seen (o ∷ os) ps) in
    let parted : P (begins.0 ++ begins.1) = λ a b c. parts_back all levels inner o os back_rest from to next seen index s v begins.0 begins.1 h low begins.3 begins.4 a b c in
    subst P (sym split) parted stand fits few

list_back : (all : List Plan) (levels : ℕ) → InnerBack all levels → (os : List Operation) → ListBack all levels os
list_back all levels inner [] = nil_back all levels
list_back all levels inner (o ∷ os) = cons_back all levels inner o os (list_back all levels inner os)

pub lists_back : (all : List Plan) (levels : ℕ) → ReadsBack all levels
lists_back all zero from to next seen index s v os plans h begins low stand fits few = list_back all zero tt os from to next seen index s v plans h low (opened zero v next os plans begins) stand fits few
lists_back all (suc less) from to next seen index s v os plans h begins low stand fits few = list_back all (suc less) (lists_back all less) os from to next seen index s v plans h low (opened (suc less) v next os plans begins) stand fits few
