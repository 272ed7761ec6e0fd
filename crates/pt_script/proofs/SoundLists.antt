-- What lists say fits their scope, begins as many processes as were counted before, and keeps the limits.
use Rattle.std.proofs.Common.{◌≡◌, ℕ, zero, suc, ◌+◌, ◌<◌, ◌≤◌, List, [], ◌∷◌, ◌++◌, Bool, true, false, length, length-append, Some, Ok, refl, ap, sym, arith}
use Rattle.std.specs.Prelude.{IfOk, codes, if◌then◌else◌, sum_by}
use Rattle.std.specs.Str.{bytes_eq}
use Rattle.std.proofs.lemmas.List.Elements.{All-nil, All-cons, All-append}
use Rattle.std.proofs.lemmas.List.Sums.{sum_by-append}
use Rattle.serde_json.specs.Data.{Data}
use Rattle.serde_json.specs.Find.{get}
use Rattle.pt_script.specs.declared.fault.Place.{Place}
use Rattle.pt_script.specs.declared.values.Operation.{Operation}
use Rattle.pt_script.specs.declared.values.Operation.TheVariants as operation
use Rattle.pt_script.specs.Plans.{Plan}
use Rattle.pt_script.specs.Steps.{◌>>=◌}
use Rattle.pt_script.specs.Members.{known_members, required, optional_member, list, flag}
use Rattle.pt_script.specs.Operations.{Spawning, is_spawn, spawn, new_name}
use Rattle.pt_script.specs.Scopes.{Scope, process_in}
use Rattle.pt_script.specs.Scripts.{begun_in, spawned_by, loose}
use Rattle.pt_script.specs.Lists.{Part, Step, ListReader, placed, at_operation, fresh_scope, with_child, limits, spawned, simple, one_at, list_with, no_list, list_from}
use Rattle.pt_script.specs.Sound.{IsBelow, ListFits, PlansFit, tags_made, operations_of}
use Rattle.pt_script.proofs.ListFacts.{limits_levels}
use Rattle.pt_script.proofs.SoundSteps.{bind, skip, where_ok, under, either, placed_ok, ScopeFits, Goes, simple_goes}

-- what a list says of the numbers below n; more is what its spawns begin
pub record PartFits (n : ℕ) (s : Scope) (next seen more : ℕ) (part : Part) : Type 0 where
  pub fits : ScopeFits n s → next + length part.inside ≤ n → ListFits n s.made part.operations × PlansFit n part.inside
  pub counted : length part.inside ≡ more
  pub few : next ≤ 4096 → next + length part.inside ≤ 4096
  pub read : part.seen ≡ seen + length part.operations + operations_of part.inside
  pub short : seen ≤ 65536 → part.seen ≤ 65536

-- the same of one operation
pub record StepFits (n : ℕ) (s : Scope) (next seen more : ℕ) (one : Step) : Type 0 where
  pub goes : ScopeFits n s → next + length one.inside ≤ n → Goes n s one.operation one.scope × PlansFit n one.inside
  pub counted : length one.inside ≡ more
  pub few : next ≤ 4096 → next + length one.inside ≤ 4096
  pub read : one.seen ≡ seen + 1 + operations_of one.inside
  pub short : seen ≤ 65536 → one.seen ≤ 65536

-- a reader of lists whose parts fit, where a spawn inside begins as many processes as begins says
abbrev ReaderFits : ℕ → ListReader → (Data → ℕ) → Type 0
ReaderFits n read begins = (s : Scope) (next seen : ℕ) (ds : List Data) → IfOk (read s next seen ds) (PartFits n s next seen (spawned_by begins ds))

empty_fits : (n : ℕ) (s : Scope) (next seen : ℕ) → PartFits n s next seen 0 (record { operations = []; inside = []; seen = seen })
empty_fits n s next seen = record {
  fits = λ sound fits. (tt, All-nil (λ p. ListFits n 0 p.operations));
  counted = refl;
  few = λ h. omega arith;
  read = omega arith;
  short = λ h. h;
}

pub sum_cons : {X : Type 0} (f : X → ℕ) (x : X) (xs : List X) → sum_by f (x ∷ xs) ≡ f x + sum_by f xs
sum_cons f x xs = omega (arith, sum_by-append f (x ∷ []) xs)

-- limits -------------------------------------------------------------------------------

small_seen : (b : Bool) (place : Place) (levels next seen : ℕ) → limits b place levels next seen ≡ Ok tt → seen < 65536
small_seen b place levels next seen h = grind arith

small_next : (place : Place) (levels next seen : ℕ) → limits true place levels next seen ≡ Ok tt → next < 4096
small_next place levels next seen h = grind arith

-- spawns --------------------------------------------------------------------------------

child_scope : (n : ℕ) (s : Scope) (next : ℕ) → next < n → ScopeFits n s → ScopeFits n (fresh_scope s.format next (Some s.own) s.tops)
child_scope n s next lt h = record { own = lt; parent = h.own; tops = h.tops; children = λ q. tt; monitors = λ q. tt; asks = λ q. tt }

behind_child : (n : ℕ) (s : Scope) (name : List ℕ) (next : ℕ) → next < n → ScopeFits n s → ScopeFits n (with_child s name next)
behind_child n s name next lt h = record {
  own = h.own;
  parent = h.parent;
  tops = h.tops;
  children = λ q. either (IsBelow n) (bytes_eq name q) (Some next) (s.children q) lt (h.children q);
  monitors = h.monitors;
  asks = h.asks;
}

abbrev pub ListIs : Data → Spawning → Type 0
ListIs d c = required list (get (codes "ops") d) ≡ Ok c.ops

-- the `ops` of a spawn are a list
pub spawn_list : (s : Scope) (d : Data) → IfOk (spawn s d) (ListIs d)
unfolding spawn
spawn_list s d =
    let P : List Data → Type 0 = λ ops. required list (get (codes "ops") d) ≡ Ok ops in
    skip (ListIs d) (known_members (codes "op" ∷ codes "name" ∷ codes "linked" ∷ codes "trap" ∷ codes "ops" ∷ []) d) (λ u. (required (new_name (process_in s)) (get (codes "name") d) >>= λ name. (optional_member false flag (get (codes "linked") d) >>= λ linked. (optional_member false flag (get (codes "trap") d) >>= λ trap. (required list (get (codes "ops") d) >>= λ ops. Ok (record { name = name; linked = linked; trap = trap; ops = ops })))))) (λ u.
    skip (ListIs d) (required (new_name (process_in s)) (get (codes "name") d)) (λ name. (optional_member false flag (get (codes "linked") d) >>= λ linked. (optional_member false flag (get (codes "trap") d) >>= λ trap. (required list (get (codes "ops") d) >>= λ ops. Ok (record { name = name; linked = linked; trap = trap; ops = ops }))))) (λ name.
    skip (ListIs d) (optional_member false flag (get (codes "linked") d)) (λ linked. (optional_member false flag (get (codes "trap") d) >>= λ trap. (required list (get (codes "ops") d) >>= λ ops. Ok (record { name = name; linked = linked; trap = trap; ops = ops })))) (λ linked.
    skip (ListIs d) (optional_member false flag (get (codes "trap") d)) (λ trap. (required list (get (codes "ops") d) >>= λ ops. Ok (record { name = name; linked = linked; trap = trap; ops = ops }))) (λ trap.
    bind P (ListIs d) (required list (get (codes "ops") d)) (λ ops. Ok (record { name = name; linked = linked; trap = trap; ops = ops })) (where_ok P (required list (get (codes "ops") d)) (λ ops e. e)) (λ ops e. e)))))

spawned_fits : (n : ℕ) (s : Scope) (next seen : ℕ) (d : Data) (begins : Data → ℕ) (child : Spawning) (part : Part) → ListIs d child → next < 4096 → seen < 65536 → PartFits n (fresh_scope s.format next (Some s.own) s.tops) (next + 1) (seen + 1) (spawned_by begins child.ops) part → StepFits n s next seen (1 + spawned_by begins (loose (required list (get (codes "ops") d)))) (record { operation = operation.Spawn next child.linked; inside = record { trap = child.trap; operations = part.operations } ∷ part.inside; seen = part.seen; scope = with_child s child.name next })
spawned_fits n s next seen d begins child part is low short h = record {
  goes = λ sound fits.
      let lt : next < n = omega (arith, fits) in
      let inner = h.fits (child_scope n s next lt sound) (omega (arith, fits)) in (
        record { fits = lt; scope = behind_child n s child.name next lt sound; made = omega arith },
        All-cons (λ p. ListFits n 0 p.operations) (record { trap = child.trap; operations = part.operations }) part.inside inner.0 inner.1,
      );
  counted = omega (arith, h.counted, ap (λ r. spawned_by begins (loose r)) is);
  few = λ small. omega (arith, h.few (omega arith));
  read = omega (arith, h.read, sum_cons (λ (p : Plan). length p.operations) (record { trap = child.trap; operations = part.operations }) part.inside);
  short = λ small. h.short (omega arith);
}

spawn_step : (n : ℕ) (read : ListReader) (begins : Data → ℕ) → ReaderFits n read begins → (place : Place) (s : Scope) (next seen : ℕ) (d : Data) → next < 4096 → seen < 65536 → IfOk (spawned read place s next (seen + 1) d) (StepFits n s next seen (1 + spawned_by begins (loose (required list (get (codes "ops") d)))))
spawn_step n read begins reads place s next seen d low short =
    let Q : Step → Type 0 = StepFits n s next seen (1 + spawned_by begins (loose (required list (get (codes "ops") d)))) in
    let inner : Scope = fresh_scope s.format next (Some s.own) s.tops in
    bind (ListIs d) Q (placed place (spawn s d)) (λ child. read inner (next + 1) (seen + 1) child.ops >>= λ part. Ok (record { operation = operation.Spawn next child.linked; inside = record { trap = child.trap; operations = part.operations } ∷ part.inside; seen = part.seen; scope = with_child s child.name next })) (placed_ok (ListIs d) place (spawn s d) (spawn_list s d)) (λ child is.
    bind (PartFits n inner (next + 1) (seen + 1) (spawned_by begins child.ops)) Q (read inner (next + 1) (seen + 1) child.ops) (λ part. Ok (record { operation = operation.Spawn next child.linked; inside = record { trap = child.trap; operations = part.operations } ∷ part.inside; seen = part.seen; scope = with_child s child.name next })) (reads inner (next + 1) (seen + 1) child.ops) (λ part h. spawned_fits n s next seen d begins child part is low short h))

-- operations that spawn nothing -----------------------------------------------------------

plain_step : (n : ℕ) (s : Scope) (next seen : ℕ) (o : Operation × Scope) → seen < 65536 → (ScopeFits n s → Goes n s o.0 o.1) → StepFits n s next seen 0 (record { operation = o.0; inside = []; seen = seen + 1; scope = o.1 })
plain_step n s next seen o short h = record {
  goes = λ sound fits. (h sound, All-nil (λ p. ListFits n 0 p.operations));
  counted = refl;
  few = λ small. omega arith;
  read = omega arith;
  short = λ small. omega arith;
}

simple_step : (n : ℕ) (place : Place) (s : Scope) (next seen : ℕ) (d : Data) → seen < 65536 → IfOk (placed place (simple s d) >>= λ o. Ok (record { operation = o.0; inside = []; seen = seen + 1; scope = o.1 })) (StepFits n s next seen 0)
simple_step n place s next seen d short =
    let P : Operation × Scope → Type 0 = λ o. ScopeFits n s → Goes n s o.0 o.1 in
    bind P (StepFits n s next seen 0) (placed place (simple s d)) (λ o. Ok (record { operation = o.0; inside = []; seen = seen + 1; scope = o.1 }))
    (placed_ok P place (simple s d) (under (λ o. Goes n s o.0 o.1) (simple s d) (λ sound. simple_goes n s sound d)))
    (λ o h. plain_step n s next seen o short h)

-- one operation ------------------------------------------------------------------------------

abbrev begun_by : (Data → ℕ) → Data → ℕ
begun_by begins d = 1 + spawned_by begins (loose (required list (get (codes "ops") d)))

chosen : (n : ℕ) (read : ListReader) (begins : Data → ℕ) (levels : ℕ) → (0 < levels → ReaderFits n read begins) → (place : Place) (s : Scope) (next seen : ℕ) (d : Data) (b : Bool) → limits b place levels next seen ≡ Ok tt → IfOk (if b then spawned read place s next (seen + 1) d else (placed place (simple s d) >>= λ o. Ok (record { operation = o.0; inside = []; seen = seen + 1; scope = o.1 }))) (StepFits n s next seen (if b then begun_by begins d else 0))
chosen n read begins levels reads place s next seen d true e = spawn_step n read begins (reads (limits_levels place levels next seen e)) place s next seen d (small_next place levels next seen e) (small_seen true place levels next seen e)
chosen n read begins levels reads place s next seen d false e = simple_step n place s next seen d (small_seen false place levels next seen e)

one_fits : (n : ℕ) (read : ListReader) (begins : Data → ℕ) (levels : ℕ) → (0 < levels → ReaderFits n read begins) → (index : ℕ) (s : Scope) (next seen : ℕ) (d : Data) → IfOk (one_at read levels index s next seen d) (StepFits n s next seen (if is_spawn d then begun_by begins d else 0))
unfolding one_at
one_fits n read begins levels reads index s next seen d =
    let place : Place = at_operation s.own index in
    let P : Unit {0} → Type 0 = λ u. limits (is_spawn d) place levels next seen ≡ Ok u in
    bind P (StepFits n s next seen (if is_spawn d then begun_by begins d else 0)) (limits (is_spawn d) place levels next seen) (λ u. if is_spawn d then spawned read place s next (seen + 1) d else (placed place (simple s d) >>= λ o. Ok (record { operation = o.0; inside = []; seen = seen + 1; scope = o.1 }))) (where_ok P (limits (is_spawn d) place levels next seen) (λ u e. e)) (λ u e. chosen n read begins levels reads place s next seen d (is_spawn d) e)

-- lists ----------------------------------------------------------------------------------------

joined : (n : ℕ) (s : Scope) (next seen x y all : ℕ) → all ≡ x + y → (one : Step) (rest : Part) → StepFits n s next seen x one → PartFits n one.scope (next + length one.inside) one.seen y rest → PartFits n s next seen all (record { operations = one.operation ∷ rest.operations; inside = one.inside ++ rest.inside; seen = rest.seen })
joined n s next seen x y all sum one rest h g =
    let len = length-append one.inside rest.inside in
    let ops = sum_by-append (λ (p : Plan). length p.operations) one.inside rest.inside in
    record {
      fits = λ sound fits.
          let a = h.goes sound (omega (arith, fits, len)) in
          let b = g.fits a.0.scope (omega (arith, fits, len)) in
          let more : ListFits n (s.made + tags_made one.operation) rest.operations = rw (sym a.0.made) b.0 in
          ((a.0.fits, more), All-append (λ p. ListFits n 0 p.operations) one.inside rest.inside a.1 b.1);
      counted = omega (arith, len, h.counted, g.counted, sum);
      few = λ small. omega (arith, len, g.few (h.few small));
      read = omega (arith, ops, h.read, g.read);
      short = λ small. g.short (h.short small);
    }

list_with_fits : (n : ℕ) (read : ListReader) (begins : Data → ℕ) (levels : ℕ) → (0 < levels → ReaderFits n read begins) → (index : ℕ) (s : Scope) (next seen : ℕ) (ds : List Data) → IfOk (list_with read levels index s next seen ds) (PartFits n s next seen (spawned_by (begun_by begins) ds))
unfolding list_with
list_with_fits n read begins levels reads index s next seen [] = empty_fits n s next seen
list_with_fits n read begins levels reads index s next seen (d ∷ ds) =
    let x : ℕ = if is_spawn d then begun_by begins d else 0 in
    let y : ℕ = spawned_by (begun_by begins) ds in
    let all : ℕ = spawned_by (begun_by begins) (d ∷ ds) in
    let sum : all ≡ x + y = sum_cons (λ e. if is_spawn e then begun_by begins e else 0) d ds in
    bind (StepFits n s next seen x) (PartFits n s next seen all) (one_at read levels index s next seen d) (λ one. list_with read levels (index + 1) one.scope (next + length one.inside) one.seen ds >>= λ rest. Ok (record { operations = one.operation ∷ rest.operations; inside = one.inside ++ rest.inside; seen = rest.seen })) (one_fits n read begins levels reads index s next seen d) (λ one h.
    bind (PartFits n one.scope (next + length one.inside) one.seen y) (PartFits n s next seen all) (list_with read levels (index + 1) one.scope (next + length one.inside) one.seen ds) (λ rest. Ok (record { operations = one.operation ∷ rest.operations; inside = one.inside ++ rest.inside; seen = rest.seen })) (list_with_fits n read begins levels reads (index + 1) one.scope (next + length one.inside) one.seen ds) (λ rest g.
    joined n s next seen x y all sum one rest h g))

pub list_from_fits : (n levels more : ℕ) → levels < more → (index : ℕ) (s : Scope) (next seen : ℕ) (ds : List Data) → IfOk (list_from levels index s next seen ds) (PartFits n s next seen (spawned_by (begun_in more) ds))
unfolding list_from begun_in
list_from_fits n zero zero lt index s next seen ds = absurd (omega (arith, lt))
list_from_fits n (suc levels) zero lt index s next seen ds = absurd (omega (arith, lt))
list_from_fits n zero (suc more) lt index s next seen ds = list_with_fits n no_list (begun_in more) 0 (λ some. absurd (omega (arith, some))) index s next seen ds
list_from_fits n (suc levels) (suc more) lt index s next seen ds =
    let below : levels < more = omega (arith, lt) in
    list_with_fits n (λ t k m es. list_from levels 0 t k m es) (begun_in more) (suc levels) (λ some t k m es. list_from_fits n levels more below 0 t k m es) index s next seen ds
