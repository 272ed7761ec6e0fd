-- `+called`: its contract.
use Rattle.std.proofs.Common.{◌≡◌, ◌-◌, ◌<◌, Ok, [], ◌∷◌, ◌++◌, length, map, ap, sym, ◌∙◌, arith}
use Rattle.std.specs.Prelude.{codes}
use Rattle.std.specs.String.{string_bytes}
use Rattle.std.proofs.lemmas.List.{get_or-map, length-map}
use Rattle.serde_json.specs.Find.{get}
use Rattle.serde_json.specs.View.{view}
use Rattle.pt_script.specs.Called.{name_of}
use Rattle.pt_script.specs.Members.{required, list}
use Rattle.pt_script.specs.Standing.{processes_in, spawns_in}
use Rattle.pt_script.proofs.CalledFacts.{alone, alone_at_last, goes_on, on_ok, one_more_spawns, pushed, with_spawns}
use Rattle.pt_script.proofs.called.+called.Goals as goal

pub name_process-returns-then-levels-eq0 : goal.name_process-returns-then-levels-eq0
name_process-returns-then-levels-eq0 t c =
    let d = view c.args.value.now in
    let old = c.args.names.now.items in
    pushed string_bytes old c.push.new.self.items c.in_ok-name_of.field-0 (name_of d) c.in_ok-push.ensures.items c.in_ok-name_of.ensures
    ∙ ap (λ ds. map string_bytes old ++ map name_of ds) (sym (ap (λ l. processes_in l d) c.if-levels-eq0.true ∙ alone_at_last d))

pub name_process-returns-in-Ok : goal.name_process-returns-in-Ok
name_process-returns-in-Ok t c =
    let d = view c.args.value.now in
    let old = c.args.names.now.items in
    let between = c.push.new.self.items in
    let ops = map view c.in-Ok.ops.now.items in
    let inside = processes_in (c.args.levels - 1) in
    let said : required list (get (codes "ops") d) ≡ Ok ops = rw c.get.ensures at c.in-Ok.ensures in
    let some : 0 < c.args.levels = omega (arith, c.if-levels-eq0.false) in
    let here = pushed string_bytes old between c.in_ok-name_of.field-0 (name_of d) c.in_ok-push.ensures.items c.in_ok-name_of.ensures in
    on_ok c.name_spawns.result
    (λ more. goes_on (map string_bytes old) (map string_bytes between) (map string_bytes c.name_spawns.new.names.items) (d ∷ []) (spawns_in inside ops) here
    (more ∙ ap (λ xs. map string_bytes between ++ map name_of (spawns_in inside (map view xs))) c.deref.ensures.value)
    ∙ ap (λ ds. map string_bytes old ++ map name_of ds) (sym (with_spawns c.args.levels d ops some said)))
    c.name_spawns.ensures

pub name_process-returns-in-Err : goal.name_process-returns-in-Err
name_process-returns-in-Err t c =
    let d = view c.args.value.now in
    let old = c.args.names.now.items in
    pushed string_bytes old c.push.new.self.items c.in_ok-name_of.field-0 (name_of d) c.in_ok-push.ensures.items c.in_ok-name_of.ensures
    ∙ ap (λ ds. map string_bytes old ++ map name_of ds) (sym (alone c.args.levels d c.in-Err.field-0 (rw c.get.ensures at c.in-Err.ensures)))

pub name_spawns-loop-op-preserved : goal.name_spawns-loop-op-preserved
name_spawns-loop-op-preserved t c =
    let v = c.op-item.result in
    let xs = c.args.ops.now in
    let i = c.loop-op.op-index in
    let inside = processes_in c.args.levels in
    let lt : i < length xs = omega (arith, c.loop-op-test.true) in
    let start = map string_bytes c.args.names.now.items in
    goes_on start (map string_bytes c.loop-op.names.items) (map string_bytes c.name_spawn.new.names.items) _ _ c.loop-op.invariant c.in_ok-name_spawn.ensures
    ∙ ap (λ ds. start ++ map name_of ds)
    (one_more_spawns inside (map view xs) i (view v) (rw (length-map xs view) lt) (get_or-map view xs i v (view v) lt ∙ ap view (sym c.op-item.is)))
