-- `search` and what it calls: their contracts.
use Rattle.std.proofs.Common.{◌≡◌, ◌+◌, ◌-◌, ◌<◌, List, ◌++◌, ◌∷◌, [], length, map, take, ap, sym, subst, ◌∙◌, refl, arith}
use Rattle.std.specs.Prelude.{codes}
use Rattle.std.proofs.lemmas.List.{get_or-map, length-map, take_all}
use Rattle.serde_json.specs.Data.{Data}
use Rattle.serde_json.specs.View.{view}
use Rattle.pt_script.specs.Standing.{OperationStands, processes_in, spawns_in}
use Rattle.pt_script.proofs.CalledFacts.{alone_at_last, one_more_spawns}
use Rattle.pt_script.specs.declared.explanation.finding.Reached.TheVariants.{At, Before}
use Rattle.pt_script.specs.Explaining.{LeadsTo, list_in, spawned_in}
use Rattle.pt_script.proofs.FindingFacts.{among_spawns, by_other, by_spawn, found_behind, found_here, inside_is, passed_here, with_inside}
use Rattle.pt_script.proofs.explanation.finding.+search.Goals as goal

pub search-returns-then-left-eq0 : goal.search-returns-then-left-eq0
search-returns-then-left-eq0 t c =
    let d = view c.args.value.now in
    let inside = with_inside c.args.levels d in
    subst (λ (ds : List Data). OperationStands ds c.args.left d) (sym inside.1) (found_here d inside.0 c.args.left c.if-left-eq0.true)

pub search-returns-then-levels-eq0 : goal.search-returns-then-levels-eq0
search-returns-then-levels-eq0 t c =
    let d = view c.args.value.now in
    let some : 0 < c.args.left = omega (arith, c.if-left-eq0.false) in
    let is : processes_in c.args.levels d ≡ d ∷ [] = ap (λ n. processes_in n d) c.if-levels-eq0.true ∙ alone_at_last d in
    subst (λ (ds : List Data). LeadsTo ds c.args.left (Before (c.args.left - 1))) (sym is) (omega (arith, some), refl)

pub search-returns : goal.search-returns
search-returns t c =
    let d = view c.args.value.now in
    let some : 0 < c.args.left = omega (arith, c.if-left-eq0.false) in
    let deep : 0 < c.args.levels = omega (arith, c.if-levels-eq0.false) in
    let inside = spawns_in (processes_in (c.args.levels - 1)) in
    subst (λ (ds : List Data). LeadsTo ds c.args.left c.search_within.result) (sym (inside_is c.args.levels d deep))
    (passed_here d (inside (list_in (codes "ops") d)) c.args.left c.search_within.result some
    (subst (λ (ds : List Data). LeadsTo (inside ds) (c.args.left - 1) c.search_within.result) c.list_at.ensures c.search_within.ensures))

pub search_within-loop-operation-preserved : goal.search_within-loop-operation-preserved
search_within-loop-operation-preserved t c =
    let v = c.operation-item.result in
    let xs = c.args.list.now in
    let i = c.loop-operation.operation-index in
    let inside = processes_in c.args.levels in
    let lt : i < length xs = omega (arith, c.loop-operation-test.true) in
    let ds = spawns_in inside (take i (map view xs)) in
    let more : ds ++ spawned_in c.args.levels (view v) ≡ spawns_in inside (take (i + 1) (map view xs)) =
    one_more_spawns inside (map view xs) i (view v) (rw (length-map xs view) lt) (get_or-map view xs i v (view v) lt ∙ ap view (sym c.operation-item.is)) in
    subst (λ (es : List Data). LeadsTo es c.args.left (Before c.in-Before.more)) more
    (found_behind ds (spawned_in c.args.levels (view v)) c.args.left c.loop-operation.left (Before c.in-Before.more) c.loop-operation.invariant.0 c.loop-operation.invariant.1 c.in-Before.ensures)

pub search_within-returns-in-At : goal.search_within-returns-in-At
search_within-returns-in-At t c =
    let v = c.operation-item.result in
    let xs = c.args.list.now in
    let i = c.loop-operation.operation-index in
    let inside = processes_in c.args.levels in
    let lt : i < length xs = omega (arith, c.loop-operation-test.true) in
    let ds = spawns_in inside (take i (map view xs)) in
    let more : ds ++ spawned_in c.args.levels (view v) ≡ spawns_in inside (take (i + 1) (map view xs)) =
    one_more_spawns inside (map view xs) i (view v) (rw (length-map xs view) lt) (get_or-map view xs i v (view v) lt ∙ ap view (sym c.operation-item.is)) in
    among_spawns inside (i + 1) (map view xs) c.args.left c.in-At.found
    (subst (λ (es : List Data). LeadsTo es c.args.left (At c.in-At.found)) more
    (found_behind ds (spawned_in c.args.levels (view v)) c.args.left c.loop-operation.left (At c.in-At.found) c.loop-operation.invariant.0 c.loop-operation.invariant.1 c.in-At.ensures))

pub search_within-returns : goal.search_within-returns
search_within-returns t c =
    let xs = c.args.list.now in
    let i = c.loop-operation.operation-index in
    let inside = processes_in c.args.levels in
    subst (λ (ys : List Data). LeadsTo (spawns_in inside ys) c.args.left (Before c.loop-operation.left)) (take_all i (map view xs) (omega (arith, c.loop-operation-test.false, length-map xs view))) c.loop-operation.invariant

pub search_by-returns-then-is_spawn : goal.search_by-returns-then-is_spawn
search_by-returns-then-is_spawn t c =
    by_spawn c.args.levels (view c.args.operation.now) c.args.left c.search.result (sym c.is_spawn.ensures ∙ c.if-is_spawn.true) c.search.ensures

pub search_by-returns-else-is_spawn : goal.search_by-returns-else-is_spawn
search_by-returns-else-is_spawn t c =
    by_other c.args.levels (view c.args.operation.now) c.args.left (sym c.is_spawn.ensures ∙ c.if-is_spawn.false)
