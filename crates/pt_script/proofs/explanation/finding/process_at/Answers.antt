-- `process_at`: its contract, and its loop.
use Rattle.std.proofs.Common.{◌≡◌, ◌+◌, ◌<◌, ◌≤◌, List, ◌++◌, length, map, take, ap, sym, subst, ◌∙◌, arith}
use Rattle.std.proofs.lemmas.List.{get_or-map, length-map, take_all}
use Rattle.serde_json.specs.Data.{Data}
use Rattle.serde_json.specs.View.{view}
use Rattle.pt_script.specs.Standing.{processes_in, processes_of}
use Rattle.pt_script.proofs.CalledFacts.{one_more_process}
use Rattle.pt_script.specs.declared.explanation.finding.Reached.TheVariants.{At, Before}
use Rattle.pt_script.specs.Explaining.{LeadsTo}
use Rattle.pt_script.proofs.FindingFacts.{among_processes, found_behind}
use Rattle.pt_script.proofs.explanation.finding.process_at.Goals as goal

pub loop-top-preserved : goal.loop-top-preserved
loop-top-preserved c =
    let v = c.top-item.result in
    let xs = c.args.tops.now in
    let i = c.loop-top.top-index in
    let lt : i < length xs = omega (arith, c.loop-top-test.true) in
    let ds = processes_of (take i (map view xs)) in
    let more : ds ++ processes_in 63 (view v) ≡ processes_of (take (i + 1) (map view xs)) =
    one_more_process (map view xs) i (view v) (rw (length-map xs view) lt) (get_or-map view xs i v (view v) lt ∙ ap view (sym c.top-item.is)) in
    subst (λ (es : List Data). LeadsTo es c.args.number (Before c.in-Before.more)) more
    (found_behind ds (processes_in 63 (view v)) c.args.number c.loop-top.left (Before c.in-Before.more) c.loop-top.invariant.0 c.loop-top.invariant.1 c.in-Before.ensures)

pub returns-in-At : goal.returns-in-At
returns-in-At c =
    let v = c.top-item.result in
    let xs = c.args.tops.now in
    let i = c.loop-top.top-index in
    let lt : i < length xs = omega (arith, c.loop-top-test.true) in
    let ds = processes_of (take i (map view xs)) in
    let more : ds ++ processes_in 63 (view v) ≡ processes_of (take (i + 1) (map view xs)) =
    one_more_process (map view xs) i (view v) (rw (length-map xs view) lt) (get_or-map view xs i v (view v) lt ∙ ap view (sym c.top-item.is)) in
    among_processes (i + 1) (map view xs) c.args.number c.in-At.found
    (subst (λ (es : List Data). LeadsTo es c.args.number (At c.in-At.found)) more
    (found_behind ds (processes_in 63 (view v)) c.args.number c.loop-top.left (At c.in-At.found) c.loop-top.invariant.0 c.loop-top.invariant.1 c.in-At.ensures))

pub returns : goal.returns
returns c =
    let xs = c.args.tops.now in
    let i = c.loop-top.top-index in
    subst (λ (ys : List Data). length (processes_of ys) ≤ c.args.number) (take_all i (map view xs) (omega (arith, c.loop-top-test.false, length-map xs view))) c.loop-top.invariant.0
