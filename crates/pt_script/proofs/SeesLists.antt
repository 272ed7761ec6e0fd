-- What lists say is in sight, and what their spawns begin stands behind one another.
use Rattle.std.proofs.Common.{◌≡◌, ℕ, zero, suc, ◌+◌, ◌<◌, List, [], ◌∷◌, ◌++◌, Bool, true, false, length, Option, Some, Result, Ok, refl, ap, arith}
use Rattle.std.specs.Prelude.{IfOk, codes, if◌then◌else◌}
use Rattle.std.specs.Str.{bytes_eq}
use Rattle.serde_json.specs.Data.{Data}
use Rattle.serde_json.specs.Find.{get}
use Rattle.pt_script.specs.Members.{required, list}
use Rattle.pt_script.specs.declared.fault.Place.{Place}
use Rattle.pt_script.specs.declared.fault.ScriptError.{ScriptError}
use Rattle.pt_script.specs.declared.values.Operation.{Operation}
use Rattle.pt_script.specs.declared.values.Operation.TheVariants as operation
use Rattle.pt_script.specs.Steps.{◌>>=◌}
use Rattle.pt_script.specs.Operations.{Spawning, is_spawn, spawn}
use Rattle.pt_script.specs.Scopes.{Scope}
use Rattle.pt_script.specs.Lists.{Part, Step, ListReader, placed, at_operation, fresh_scope, with_child, limits, spawned, simple, one_at, list_with, no_list, list_from}
use Rattle.pt_script.specs.Sights.{NameSight, CanDo, sight_behind, first_sight, Begins, StepBegins, ListBegins, NoneBegins, BeginsIn}
use Rattle.pt_script.proofs.ListFacts.{limits_levels}
use Rattle.pt_script.proofs.SoundSteps.{bind, where_ok, either, placed_ok}
use Rattle.pt_script.proofs.SoundLists.{ListIs, spawn_list}
use Rattle.pt_script.proofs.ReadValues.{IsRead, AllRead, list_at_read}
use Rattle.pt_script.proofs.SeesSteps.{IsIn, ScopeSees, in_here, in_later, Goes, simple_goes}

-- what a list says begins what is inside it
abbrev pub PartSees : Begins → NameSight → ℕ → Part → Type 0
PartSees Inner v next part = Inner v next part.operations part.inside

record StepSees (Inner : Begins) (v : NameSight) (next : ℕ) (one : Step) : Type 0 where
  begins : StepBegins Inner v next one.operation one.inside
  scope : ScopeSees (sight_behind v one.operation) one.scope

pub if_ok : {A E : Type 0} (P : A → Type 0) (r : Result A E) (x : A) → IfOk r P → r ≡ Ok x → P x
if_ok P r x h e = rw e at h

abbrev ReaderSees : Begins → ListReader → Type 0
ReaderSees Inner read = (s : Scope) (v : NameSight) (next seen : ℕ) (ds : List Data) → ScopeSees v s → AllRead ds → IfOk (read s next seen ds) (PartSees Inner v next)

sees_first : (own : ℕ) (parent own_parent : Option ℕ) (v : NameSight) (s : Scope) → ScopeSees v s → parent ≡ own_parent → ScopeSees (first_sight v.format own own_parent v.tops) (fresh_scope s.format own parent s.tops)
sees_first own parent own_parent v s h e = record {
  format = h.format;
  own = refl;
  parent = e;
  made = refl;
  tops = h.tops;
  children = λ q. tt;
  monitors = λ q. tt;
  asks = λ q. tt;
}

sees_child : (v : NameSight) (s : Scope) (name : List ℕ) (next : ℕ) (linked : Bool) → ScopeSees v s → ScopeSees (sight_behind v (operation.Spawn next linked)) (with_child s name next)
sees_child v s name next linked h = record {
  format = h.format;
  own = h.own;
  parent = h.parent;
  made = h.made;
  tops = h.tops;
  children = λ q. either (IsIn (next ∷ v.children)) (bytes_eq name q) (Some next) (s.children q) (in_here next v.children) (in_later next v.children (s.children q) (h.children q));
  monitors = h.monitors;
  asks = h.asks;
}

spawn_sees : (Inner : Begins) (read : ListReader) → ReaderSees Inner read → (place : Place) (s : Scope) (v : NameSight) (next seen : ℕ) (d : Data) → ScopeSees v s → IsRead d → IfOk (spawned read place s next seen d) (StepSees Inner v next)
spawn_sees Inner read reads place s v next seen d h is =
    let Q : Step → Type 0 = StepSees Inner v next in
    let t : Scope = fresh_scope s.format next (Some s.own) s.tops in
    let u : NameSight = first_sight v.format next (Some v.own) v.tops in
    let of_part : Spawning → Part → Result Step ScriptError = λ child part. Ok (record { operation = operation.Spawn next child.linked; inside = record { trap = child.trap; operations = part.operations } ∷ part.inside; seen = part.seen; scope = with_child s child.name next }) in
    bind (ListIs d) Q (placed place (spawn s d)) (λ child. read t (next + 1) seen child.ops >>= of_part child) (placed_ok (ListIs d) place (spawn s d) (spawn_list s d)) (λ child list_is.
    bind (PartSees Inner u (next + 1)) Q (read t (next + 1) seen child.ops) (of_part child) (reads t u (next + 1) seen child.ops (sees_first next (Some s.own) (Some v.own) v s h (ap Some h.own)) (if_ok AllRead (required list (get (codes "ops") d)) child.ops (list_at_read (codes "ops") d is) list_is)) (λ part p. record {
      begins = (refl, p);
      scope = sees_child v s child.name next child.linked h;
    }))

calm_begins : (Inner : Begins) (v : NameSight) (next : ℕ) (o : Operation) → CanDo v o → StepBegins Inner v next o []
calm_begins Inner v next (operation.Spawn n linked) c = absurd c
calm_begins Inner v next o c = (c, refl)

simple_sees : (Inner : Begins) (place : Place) (s : Scope) (v : NameSight) (next seen : ℕ) (d : Data) → ScopeSees v s → IsRead d → IfOk (placed place (simple s d) >>= λ o. Ok (record { operation = o.0; inside = []; seen = seen + 1; scope = o.1 })) (StepSees Inner v next)
simple_sees Inner place s v next seen d h is =
    bind (λ o. Goes v o.0 o.1) (StepSees Inner v next) (placed place (simple s d)) (λ o. Ok (record { operation = o.0; inside = []; seen = seen + 1; scope = o.1 })) (placed_ok (λ o. Goes v o.0 o.1) place (simple s d) (simple_goes v s h d is)) (λ o g. record { begins = calm_begins Inner v next o.0 g.can; scope = g.scope })

chosen : (Inner : Begins) (read : ListReader) (levels : ℕ) → (0 < levels → ReaderSees Inner read) → (place : Place) (s : Scope) (v : NameSight) (next seen : ℕ) (d : Data) (b : Bool) → ScopeSees v s → IsRead d → limits b place levels next seen ≡ Ok tt → IfOk (if b then spawned read place s next (seen + 1) d else (placed place (simple s d) >>= λ o. Ok (record { operation = o.0; inside = []; seen = seen + 1; scope = o.1 }))) (StepSees Inner v next)
chosen Inner read levels reads place s v next seen d true h is e = spawn_sees Inner read (reads (limits_levels place levels next seen e)) place s v next (seen + 1) d h is
chosen Inner read levels reads place s v next seen d false h is e = simple_sees Inner place s v next seen d h is

one_sees : (Inner : Begins) (read : ListReader) (levels : ℕ) → (0 < levels → ReaderSees Inner read) → (index : ℕ) (s : Scope) (v : NameSight) (next seen : ℕ) (d : Data) → ScopeSees v s → IsRead d → IfOk (one_at read levels index s next seen d) (StepSees Inner v next)
unfolding one_at
one_sees Inner read levels reads index s v next seen d h is =
    let place : Place = at_operation s.own index in
    let P : Unit {0} → Type 0 = λ u. limits (is_spawn d) place levels next seen ≡ Ok u in
    bind P (StepSees Inner v next) (limits (is_spawn d) place levels next seen) (λ u. if is_spawn d then spawned read place s next (seen + 1) d else (placed place (simple s d) >>= λ o. Ok (record { operation = o.0; inside = []; seen = seen + 1; scope = o.1 }))) (where_ok P (limits (is_spawn d) place levels next seen) (λ u e. e)) (λ u e. chosen Inner read levels reads place s v next seen d (is_spawn d) h is e)

list_with_sees : (Inner : Begins) (read : ListReader) (levels : ℕ) → (0 < levels → ReaderSees Inner read) → (index : ℕ) (s : Scope) (v : NameSight) (next seen : ℕ) (ds : List Data) → ScopeSees v s → AllRead ds → IfOk (list_with read levels index s next seen ds) (PartSees (ListBegins Inner) v next)
unfolding list_with
list_with_sees Inner read levels reads index s v next seen [] h are = refl
list_with_sees Inner read levels reads index s v next seen (d ∷ ds) h are =
    let Q : Part → Type 0 = PartSees (ListBegins Inner) v next in
    let of_rest : Step → Part → Result Part ScriptError = λ one rest. Ok (record { operations = one.operation ∷ rest.operations; inside = one.inside ++ rest.inside; seen = rest.seen }) in
    bind (StepSees Inner v next) Q (one_at read levels index s next seen d) (λ one. list_with read levels (index + 1) one.scope (next + length one.inside) one.seen ds >>= of_rest one) (one_sees Inner read levels reads index s v next seen d h are.0) (λ one g.
    bind (PartSees (ListBegins Inner) (sight_behind v one.operation) (next + length one.inside)) Q (list_with read levels (index + 1) one.scope (next + length one.inside) one.seen ds) (of_rest one) (list_with_sees Inner read levels reads (index + 1) one.scope (sight_behind v one.operation) (next + length one.inside) one.seen ds g.scope are.1) (λ rest k.
    (one.inside, rest.inside, refl, g.begins, k)))

pub list_from_sees : (levels index : ℕ) (s : Scope) (v : NameSight) (next seen : ℕ) (ds : List Data) → ScopeSees v s → AllRead ds → IfOk (list_from levels index s next seen ds) (PartSees (BeginsIn levels) v next)
unfolding list_from BeginsIn
list_from_sees zero index s v next seen ds h are = list_with_sees NoneBegins no_list 0 (λ some. absurd (omega (arith, some))) index s v next seen ds h are
list_from_sees (suc levels) index s v next seen ds h are = list_with_sees (λ u n qs ps. BeginsIn levels u n qs ps) (λ t n k es. list_from levels 0 t n k es) (suc levels) (λ some t u n k es g all. list_from_sees levels 0 t u n k es g all) index s v next seen ds h are
