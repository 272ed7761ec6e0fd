-- The place of a fault is in the text, and numbers are places.
use Rattle.std.proofs.Common.{◌≡◌, ℕ, zero, suc, ◌+◌, ◌<◌, List, [], ◌∷◌, ◌++◌, Bool, true, false, length, get_or, Some, Result, Ok, Err, refl, ap, sym, subst, ◌∙◌, arith}
use Rattle.std.specs.Prelude.{IfOk, codes, if◌then◌else◌, nat_le, ◌&&◌}
use Rattle.std.specs.Str.{bytes_eq}
use Rattle.serde_json.specs.Data.{Data, null}
use Rattle.serde_json.specs.Find.{get}
use Rattle.serde_json.specs.Read.{read}
use Rattle.pt_script.specs.declared.fault.Fault.{Fault}
use Rattle.pt_script.specs.declared.fault.Fault.TheVariants.{Bounds}
use Rattle.pt_script.specs.declared.fault.Place.{Place}
use Rattle.pt_script.specs.declared.fault.ScriptError.{ScriptError}
use Rattle.pt_script.specs.declared.fault.ScriptError.TheVariants.{Refused, Memory}
use Rattle.pt_script.specs.declared.values.Operation.{Operation}
use Rattle.pt_script.specs.declared.values.Operation.TheVariants as operation
use Rattle.pt_script.specs.Plans.{Plan}
use Rattle.pt_script.specs.Steps.{◌>>=◌}
use Rattle.pt_script.specs.Members.{required, text}
use Rattle.pt_script.specs.Operations.{Spawning, is_spawn, spawn, tagged, plain}
use Rattle.pt_script.specs.Scopes.{Scope, can_ask}
use Rattle.pt_script.specs.Lists.{Part, Step, ListReader, placed, at_process, at_operation, fresh_scope, with_child, with_monitor, with_ask, limits, spawned, simple, named_operation, one_at, list_with, no_list, list_from}
use Rattle.pt_script.specs.Scripts.{loose}
use Rattle.pt_script.specs.Standing.{ops_of, spawns_in, processes_in, OperationStands, IsAmong, IsOperationOf, AreOperationsOf, ArePlansOf}
use Rattle.pt_script.proofs.ListFacts.{limits_levels}
use Rattle.pt_script.proofs.SoundSteps.{skip, either}
use Rattle.pt_script.proofs.SoundLists.{spawn_list, ListIs}

-- what is read, or else the place of its fault
abbrev pub Told : {A : Type 0} → (Place → Type 0) → (A → Type 0) → Result A ScriptError → Type 0
Told P Q (Ok x) = Q x
Told P Q (Err (Refused fault place)) = P place
Told P Q (Err Memory) = Unit {0}

pub told : {A B : Type 0} (P : Place → Type 0) (Q : A → Type 0) (R : B → Type 0) (r : Result A ScriptError) (f : A → Result B ScriptError) → Told P Q r → ((x : A) → Q x → Told P R (f x)) → Told P R (r >>= f)
told P Q R (Ok x) f h g = g x h
told P Q R (Err (Refused fault place)) f h g = h
told P Q R (Err Memory) f h g = tt

pub told_placed : {A : Type 0} (P : Place → Type 0) (Q : A → Type 0) (place : Place) (r : Result A Fault) → P place → IfOk r Q → Told P Q (placed place r)
told_placed P Q place (Ok x) h g = g
told_placed P Q place (Err e) h g = h

abbrev pub In : List Data → Place → Type 0
In all place = IsAmong all place.process place.op

-- the values stand there from a number on
abbrev pub StandFrom : List Data → ℕ → List Data → Type 0
StandFrom all n [] = Unit {0}
StandFrom all n (d ∷ ds) = OperationStands all n d × StandFrom all (n + 1) ds

pub front : (all : List Data) (n : ℕ) (xs ys : List Data) → StandFrom all n (xs ++ ys) → StandFrom all n xs
front all n [] ys h = tt
front all n (x ∷ xs) ys h = (h.0, front all (n + 1) xs ys h.1)

pub behind : (all : List Data) (n : ℕ) (xs ys : List Data) → StandFrom all n (xs ++ ys) → StandFrom all (n + length xs) ys
behind all n [] ys h = let e : n ≡ n + 0 = omega arith in subst (λ m. StandFrom all m ys) e h
behind all n (x ∷ xs) ys h =
    let e : n + 1 + length xs ≡ n + length (x ∷ xs) = omega arith in
    subst (λ m. StandFrom all m ys) e (behind all (n + 1) xs ys h.1)

-- the operations of a list, from an index on, are among those of their process
abbrev pub OwnFrom : List Data → ℕ → ℕ → List Data → Type 0
OwnFrom all own index ds = (k : ℕ) → k < length ds → In all (at_operation own (index + k))

pub own_all : (all : List Data) (own : ℕ) (d : Data) (ds : List Data) → OperationStands all own d → ops_of d ≡ ds → OwnFrom all own 0 ds
own_all all own d ds stands is k lt =
    let e : ops_of (get_or all own null) ≡ ds = ap ops_of stands.1 ∙ is in
    let f : 0 + k ≡ k = omega arith in
    (stands.0, subst (λ m. m < length (ops_of (get_or all own null))) (sym f) (subst (λ (es : List Data). k < length es) (sym e) lt))

own_first : (all : List Data) (own index : ℕ) (d : Data) (ds : List Data) → OwnFrom all own index (d ∷ ds) → In all (at_operation own index)
own_first all own index d ds h = let e : index + 0 ≡ index = omega arith in subst (λ m. In all (at_operation own m)) e (h 0 (omega arith))

own_rest : (all : List Data) (own index : ℕ) (d : Data) (ds : List Data) → OwnFrom all own index (d ∷ ds) → OwnFrom all own (index + 1) ds
own_rest all own index d ds h k lt = let e : index + (k + 1) ≡ index + 1 + k = omega arith in subst (λ m. In all (at_operation own m)) e (h (k + 1) (omega (arith, lt)))

pub plans_append : (all : List Data) (ps qs : List Plan) (ds es : List Data) → ArePlansOf all ps ds → ArePlansOf all qs es → ArePlansOf all (ps ++ qs) (ds ++ es)
plans_append all [] qs [] es h g = g
plans_append all [] qs (d ∷ ds) es h g = absurd h
plans_append all (p ∷ ps) qs [] es h g = absurd h
plans_append all (p ∷ ps) qs (d ∷ ds) es h g = (h.0, plans_append all ps qs ds es h.1 g)

pub plans_length : (all : List Data) (ps : List Plan) (ds : List Data) → ArePlansOf all ps ds → length ps ≡ length ds
plans_length all [] [] h = refl
plans_length all [] (d ∷ ds) h = absurd h
plans_length all (p ∷ ps) [] h = absurd h
plans_length all (p ∷ ps) (d ∷ ds) h = omega (arith, plans_length all ps ds h.1)

-- what a list says, among all processes
pub record PartOf (all : List Data) (ds inside : List Data) (part : Part) : Type 0 where
  pub operations : AreOperationsOf all part.operations ds
  pub inside_is : ArePlansOf all part.inside inside

record StepOf (all : List Data) (s : Scope) (d : Data) (inside : List Data) (one : Step) : Type 0 where
  operation_is : IsOperationOf all one.operation d
  inside_is : ArePlansOf all one.inside inside
  own : one.scope.own ≡ s.own

-- a reader of the lists of spawns
abbrev ReaderOf : List Data → ListReader → (Data → List Data) → Type 0
ReaderOf all read inside =
    (s : Scope) (next seen : ℕ) (ds : List Data) → OwnFrom all s.own 0 ds → StandFrom all next (spawns_in inside ds)
    → Told (In all) (PartOf all ds (spawns_in inside ds)) (read s next seen ds)

told_where : {A : Type 0} (P : Place → Type 0) (r : Result A ScriptError) → Told P (λ x. Unit {0}) r → Told P (λ x. r ≡ Ok x) r
told_where P (Ok x) h = refl
told_where P (Err (Refused fault place)) h = h
told_where P (Err Memory) h = tt

limit_place : (all : List Data) (b : Bool) (place : Place) (levels next seen : ℕ) → In all place → (b ≡ true → In all (at_process next)) → Told (In all) (λ u. Unit {0}) (limits b place levels next seen)
limit_place all true place levels next seen h g =
    let T : Result (Unit {0}) ScriptError → Type 0 = Told (In all) (λ u. Unit {0}) in
    let refused : Result (Unit {0}) ScriptError = Err (Refused Bounds place) in
    let deep : Result (Unit {0}) ScriptError = if nat_le levels 0 then refused else Ok tt in
    either T (nat_le 4096 next) (Err (Refused Bounds (at_process next))) (if nat_le 65536 seen then refused else deep) (g refl) (either T (nat_le 65536 seen) refused deep h (either T (nat_le levels 0) refused (Ok tt) h tt))
limit_place all false place levels next seen h g =
    let T : Result (Unit {0}) ScriptError → Type 0 = Told (In all) (λ u. Unit {0}) in
    either T (nat_le 65536 seen) (Err (Refused Bounds place)) (Ok tt) h tt

abbrev within : (Data → List Data) → Data → List Data
within inside d = d ∷ spawns_in inside (ops_of d)

spawn_of : (all : List Data) (read : ListReader) (inside : Data → List Data) → ReaderOf all read inside → (place : Place) (s : Scope) (next seen : ℕ) (d : Data) → In all place → StandFrom all next (within inside d) → Told (In all) (StepOf all s d (within inside d)) (spawned read place s next seen d)
spawn_of all read inside reads place s next seen d here stand =
    let t : Scope = fresh_scope s.format next (Some s.own) s.tops in
    let Q : Step → Type 0 = StepOf all s d (within inside d) in
    let of_part : Spawning → Part → Result Step ScriptError = λ child part. Ok (record { operation = operation.Spawn next child.linked; inside = record { trap = child.trap; operations = part.operations } ∷ part.inside; seen = part.seen; scope = with_child s child.name next }) in
    told (In all) (ListIs d) Q (placed place (spawn s d)) (λ child. read t (next + 1) seen child.ops >>= of_part child) (told_placed (In all) (ListIs d) place (spawn s d) here (spawn_list s d)) (λ child is.
    let ops : ops_of d ≡ child.ops = ap loose is in
    told (In all) (PartOf all child.ops (spawns_in inside child.ops)) Q (read t (next + 1) seen child.ops) (of_part child) (reads t (next + 1) seen child.ops (own_all all next d child.ops stand.0 ops) (subst (λ (es : List Data). StandFrom all (next + 1) (spawns_in inside es)) ops stand.1)) (λ part p. record {
      operation_is = λ spawns. stand.0;
      inside_is = (subst (AreOperationsOf all part.operations) (sym ops) p.operations, subst (λ (es : List Data). ArePlansOf all part.inside (spawns_in inside es)) (sym ops) p.inside_is);
      own = refl;
    }))

-- operations that spawn nothing

abbrev SameOwn : Scope → Operation × Scope → Type 0
SameOwn s o = o.1.own ≡ s.own

named_own : (s : Scope) (op : List ℕ) (d : Data) → IfOk (named_operation s op d) (SameOwn s)
named_own s op d =
    let T : Result (Operation × Scope) Fault → Type 0 = λ r. IfOk r (SameOwn s) in
    let watch : Result (Operation × Scope) Fault = tagged s d >>= λ m. Ok (operation.Monitor m.0 s.made, with_monitor s m.1) in
    let ask : Result (Operation × Scope) Fault = tagged s d >>= λ m. Ok (operation.Alive m.0 s.made, with_ask s m.1) in
    let rest : Result (Operation × Scope) Fault = plain s op d >>= λ o. Ok (o, s) in
    either T (bytes_eq op (codes "monitor")) watch (if bytes_eq op (codes "alive") && can_ask s then ask else rest) (skip (SameOwn s) (tagged s d) (λ m. Ok (operation.Monitor m.0 s.made, with_monitor s m.1)) (λ m. refl))
    (either T (bytes_eq op (codes "alive") && can_ask s) ask rest (skip (SameOwn s) (tagged s d) (λ m. Ok (operation.Alive m.0 s.made, with_ask s m.1)) (λ m. refl)) (skip (SameOwn s) (plain s op d) (λ o. Ok (o, s)) (λ o. refl)))

simple_own : (s : Scope) (d : Data) → IfOk (simple s d) (SameOwn s)
simple_own s d = skip (SameOwn s) (required text (get (codes "op") d)) (λ op. named_operation s op d) (λ op. named_own s op d)

simple_of : (all : List Data) (place : Place) (s : Scope) (seen : ℕ) (d : Data) → In all place → is_spawn d ≡ false → Told (In all) (StepOf all s d []) (placed place (simple s d) >>= λ o. Ok (record { operation = o.0; inside = []; seen = seen + 1; scope = o.1 }))
simple_of all place s seen d here calm =
    told (In all) (SameOwn s) (StepOf all s d []) (placed place (simple s d)) (λ o. Ok (record { operation = o.0; inside = []; seen = seen + 1; scope = o.1 })) (told_placed (In all) (SameOwn s) place (simple s d) here (simple_own s d)) (λ o own. record { operation_is = λ spawns. absurd (let e : true ≡ false = sym spawns ∙ calm in cc); inside_is = tt; own = own })

-- one operation

chosen : (all : List Data) (read : ListReader) (inside : Data → List Data) (levels : ℕ) → (0 < levels → ReaderOf all read inside) → (place : Place) (s : Scope) (next seen : ℕ) (d : Data) (b : Bool) → is_spawn d ≡ b → In all place → StandFrom all next (if b then within inside d else []) → limits b place levels next seen ≡ Ok tt → Told (In all) (StepOf all s d (if b then within inside d else [])) (if b then spawned read place s next (seen + 1) d else (placed place (simple s d) >>= λ o. Ok (record { operation = o.0; inside = []; seen = seen + 1; scope = o.1 })))
chosen all read inside levels reads place s next seen d true is here stand e = spawn_of all read inside (reads (limits_levels place levels next seen e)) place s next (seen + 1) d here stand
chosen all read inside levels reads place s next seen d false is here stand e = simple_of all place s seen d here is

first_stands : (all : List Data) (inside : Data → List Data) (next : ℕ) (d : Data) (b : Bool) → StandFrom all next (if b then within inside d else []) → b ≡ true → In all (at_process next)
first_stands all inside next d true stand is = stand.0.0
first_stands all inside next d false stand is = absurd (let e : false ≡ true = is in cc)

one_of : (all : List Data) (read : ListReader) (inside : Data → List Data) (levels : ℕ) → (0 < levels → ReaderOf all read inside) → (index : ℕ) (s : Scope) (next seen : ℕ) (d : Data) → In all (at_operation s.own index) → StandFrom all next (if is_spawn d then within inside d else []) → Told (In all) (StepOf all s d (if is_spawn d then within inside d else [])) (one_at read levels index s next seen d)
unfolding one_at
one_of all read inside levels reads index s next seen d here stand =
    let place : Place = at_operation s.own index in
    let P : Unit {0} → Type 0 = λ u. limits (is_spawn d) place levels next seen ≡ Ok u in
    told (In all) P (StepOf all s d (if is_spawn d then within inside d else [])) (limits (is_spawn d) place levels next seen) (λ u. if is_spawn d then spawned read place s next (seen + 1) d else (placed place (simple s d) >>= λ o. Ok (record { operation = o.0; inside = []; seen = seen + 1; scope = o.1 }))) (told_where (In all) (limits (is_spawn d) place levels next seen) (limit_place all (is_spawn d) place levels next seen here (first_stands all inside next d (is_spawn d) stand))) (λ u e. chosen all read inside levels reads place s next seen d (is_spawn d) refl here stand e)

-- lists

list_with_of : (all : List Data) (read : ListReader) (inside : Data → List Data) (levels : ℕ) → (0 < levels → ReaderOf all read inside) → (index : ℕ) (s : Scope) (next seen : ℕ) (ds : List Data) → OwnFrom all s.own index ds → StandFrom all next (spawns_in (within inside) ds) → Told (In all) (PartOf all ds (spawns_in (within inside) ds)) (list_with read levels index s next seen ds)
unfolding list_with
list_with_of all read inside levels reads index s next seen [] own stand = record { operations = tt; inside_is = tt }
list_with_of all read inside levels reads index s next seen (d ∷ ds) own stand =
    let xs : List Data = if is_spawn d then within inside d else [] in
    let ys : List Data = spawns_in (within inside) ds in
    let Q : Part → Type 0 = PartOf all (d ∷ ds) (spawns_in (within inside) (d ∷ ds)) in
    told (In all) (StepOf all s d xs) Q (one_at read levels index s next seen d) (λ one. list_with read levels (index + 1) one.scope (next + length one.inside) one.seen ds >>= λ rest. Ok (record { operations = one.operation ∷ rest.operations; inside = one.inside ++ rest.inside; seen = rest.seen })) (one_of all read inside levels reads index s next seen d (own_first all s.own index d ds own) (front all next xs ys stand)) (λ one h.
    let len : length one.inside ≡ length xs = plans_length all one.inside xs h.inside_is in
    let mine : OwnFrom all one.scope.own (index + 1) ds = subst (λ n. OwnFrom all n (index + 1) ds) (sym h.own) (own_rest all s.own index d ds own) in
    let later : StandFrom all (next + length one.inside) ys = subst (λ n. StandFrom all (next + n) ys) (sym len) (behind all next xs ys stand) in
    told (In all) (PartOf all ds ys) Q (list_with read levels (index + 1) one.scope (next + length one.inside) one.seen ds) (λ rest. Ok (record { operations = one.operation ∷ rest.operations; inside = one.inside ++ rest.inside; seen = rest.seen })) (list_with_of all read inside levels reads (index + 1) one.scope (next + length one.inside) one.seen ds mine later) (λ rest g. record {
      operations = (h.operation_is, g.operations);
      inside_is = plans_append all one.inside rest.inside xs ys h.inside_is g.inside_is;
    }))

pub list_from_of : (all : List Data) (levels more : ℕ) → levels < more → (index : ℕ) (s : Scope) (next seen : ℕ) (ds : List Data) → OwnFrom all s.own index ds → StandFrom all next (spawns_in (λ d. processes_in more d) ds) → Told (In all) (PartOf all ds (spawns_in (λ d. processes_in more d) ds)) (list_from levels index s next seen ds)
unfolding list_from processes_in
list_from_of all zero zero lt index s next seen ds own stand = absurd (omega (arith, lt))
list_from_of all (suc levels) zero lt index s next seen ds own stand = absurd (omega (arith, lt))
list_from_of all zero (suc more) lt index s next seen ds own stand = list_with_of all no_list (λ d. processes_in more d) 0 (λ some. absurd (omega (arith, some))) index s next seen ds own stand
list_from_of all (suc levels) (suc more) lt index s next seen ds own stand =
    let below : levels < more = omega (arith, lt) in
    list_with_of all (λ t k m es. list_from levels 0 t k m es) (λ d. processes_in more d) (suc levels) (λ some t k m es o h. list_from_of all levels more below 0 t k m es o h) index s next seen ds own stand
