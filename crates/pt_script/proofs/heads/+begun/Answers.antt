-- `+begun`: its contract.
use Rattle.std.proofs.Common.{◌≡◌, ◌-◌, ◌<◌, Ok, length, map, ap, sym, ◌∙◌, arith}
use Rattle.std.specs.Prelude.{codes, min}
use Rattle.std.proofs.lemmas.List.{get_or-map, length-map}
use Rattle.serde_json.specs.Find.{get}
use Rattle.serde_json.specs.View.{view}
use Rattle.pt_script.specs.Members.{required, list}
use Rattle.pt_script.specs.Scripts.{begun_in, spawned_by}
use Rattle.pt_script.proofs.HeadFacts.{begun_last, begun_below, begun_alone, spawned_more}
use Rattle.pt_script.proofs.heads.+begun.Goals as goal

pub begun-returns-then-levels-eq0 : goal.begun-returns-then-levels-eq0
begun-returns-then-levels-eq0 t c =
    let d = view c.args.value.now in
    omega (arith, begun_last d, ap (λ l. begun_in l d) c.if-levels-eq0.true)

pub begun-returns-in-Ok : goal.begun-returns-in-Ok
begun-returns-in-Ok t c =
    let d = view c.args.value.now in
    let less = c.args.levels - 1 in
    let said : required list (get (codes "ops") d) ≡ Ok (map view c.in-Ok.list.now.items) = rw c.get.ensures at c.in-Ok.ensures in
    let some : 0 < c.args.levels = omega (arith, c.if-levels-eq0.false) in
    let within : c.begun_within.result ≡ min (spawned_by (begun_in less) (map view c.in-Ok.list.now.items)) 4294967295 = c.begun_within.ensures ∙ ap (λ xs. min (spawned_by (begun_in less) (map view xs)) 4294967295) c.deref.ensures.value in
    omega (arith, c.saturating_add.ensures, within, begun_below c.args.levels d (map view c.in-Ok.list.now.items) some said)

pub begun-returns-in-Err : goal.begun-returns-in-Err
begun-returns-in-Err t c =
    let d = view c.args.value.now in
    omega (arith, begun_alone c.args.levels d c.in-Err.field-0 (rw c.get.ensures at c.in-Err.ensures))

pub begun_within-loop-op-preserved : goal.begun_within-loop-op-preserved
begun_within-loop-op-preserved t c =
    let v = c.op-item.result in
    let xs = c.args.list.now in
    let lt : c.loop-op.op-index < length xs = omega (arith, c.loop-op-test.true) in
    let more = spawned_more (begun_in c.args.levels) (map view xs) c.loop-op.op-index (view v) (rw (length-map xs view) lt) (get_or-map view xs c.loop-op.op-index v (view v) lt ∙ ap view (sym c.op-item.is)) in
    omega (arith, more, c.loop-op.invariant, c.begun_by.ensures, c.saturating_add-count.ensures)
