-- `bear`: its clauses `bears` and `desks`, and its loop over `top`.
use Rattle.std.proofs.Common.{◌≡◌, ◌+◌, ◌<◌, List, [], length, get_or, set, ap, sym, subst, refl, ◌∙◌, arith}
use Rattle.std.proofs.lemmas.List.{get_or_default}
use Rattle.std.proofs.lemmas.Result.{err_from_is_err_and}
use Rattle.pt_signal.specs.declared.pid.Pid.{Pid}
use Rattle.pt_script.specs.declared.values.Top.{Top}
use Rattle.pt_runner.specs.Starting.{BirthsStop}
use Rattle.pt_runner.proofs.Starting.{Begun, begun_none, begun_same, begun_more, births_stop, none_born, not_born, node_set, left_as_is, desk_within}
use Rattle.pt_runner.proofs.start.bear.Goals as goal

pub returns-in_err-born-clause-bears : goal.returns-in_err-born-clause-bears
returns-in_err-born-clause-bears c =
    let p = err_from_is_err_and c.from_residual.result c.from_residual.ensures.1 in
    let w = c.args.script.now in
    let stop = subst (BirthsStop w.tops 0 c.args.desks.now) (sym p.2) (none_born w c.args.config c.args.desks.now c.tops-tops.ensures.sound c.requires.count c.requires.start c.requires.fresh) in
    left_as_is c.args.config w.tops 0 [] c.args.desks.now c.from_residual.result p.0 p.1 (begun_none c.args.config w.tops c.args.desks.now c.requires.fresh) stop

pub returns-in_err-pid-clause-desks : goal.returns-in_err-pid-clause-desks
returns-in_err-pid-clause-desks c =
    let w = c.args.script.now in
    let i = c.loop-top.top-index in
    let desks = c.loop-top.desks in
    let none : Top = record { process = 0; desk = 0 } in
    let config = c.args.config in
    let begun = c.loop-top.invariant.begun in
    let few : i < length w.tops = omega (arith, c.loop-top-test.true, ap length c.tops-tops.ensures.tops) in
    let within : (get_or c.tops-tops.result.now i none).desk < length desks = subst (λ (ts : List Top). (get_or ts i none).desk < length desks) (sym c.tops-tops.ensures.tops) (desk_within w config desks i none c.tops-tops.ensures.sound c.requires.count begun.node few) in
    let d = (get_or c.tops-tops.result.now i none).desk in
    let x = c.index-desks-top.result in
    let old = get_or desks d x in
    node_set config desks d old c.bear_on.new.desk begun.node within (get_or_default desks d x old within) c.bear_on.ensures.goes_on

pub returns-in_err-pid-clause-bears : goal.returns-in_err-pid-clause-bears
returns-in_err-pid-clause-bears c =
    let p = err_from_is_err_and c.from_residual-in_err-pid.result c.from_residual-in_err-pid.ensures.1 in
    let w = c.args.script.now in
    let i = c.loop-top.top-index in
    let desks = c.loop-top.desks in
    let none : Top = record { process = 0; desk = 0 } in
    let d = (get_or c.tops-tops.result.now i none).desk in
    let config = c.args.config in
    let begun = c.loop-top.invariant.begun in
    let x = c.index-desks-top.result in
    let old = get_or desks d x in
    let y = c.bear_on.new.desk in
    let few : i < length w.tops = omega (arith, c.loop-top-test.true, ap length c.tops-tops.ensures.tops) in
    let within : d < length desks = subst (λ (ts : List Top). (get_or ts i none).desk < length desks) (sym c.tops-tops.ensures.tops) (desk_within w config desks i none c.tops-tops.ensures.sound c.requires.count begun.node few) in
    let same : y.shard ≡ old.shard = not_born old.shard y.shard c.in_err-pid.field-0.0 c.in_err-pid.ensures.does in
    let refused : BirthsStop w.tops i (set desks (get_or w.tops i none).desk y) c.in_err-pid.field-0.0 = births_stop w.tops i desks none old.shard y c.in_err-pid.field-0.0 few
    (subst (λ (ts : List Top). (get_or ts i none).desk < length desks) c.tops-tops.ensures.tops within) c.bear_on.ensures.whole c.in_err-pid.ensures.does in
    let here : BirthsStop w.tops i (set desks d y) c.in_err-pid.field-0.0 = subst (λ (ts : List Top). BirthsStop w.tops i (set desks (get_or ts i none).desk y) c.in_err-pid.field-0.0) (sym c.tops-tops.ensures.tops) refused in
    left_as_is config w.tops i c.loop-top.born.items (set desks d y) c.from_residual-in_err-pid.result p.0 p.1 (begun_same config w.tops i c.loop-top.born.items desks d old y begun within (get_or_default desks d x old within) c.bear_on.ensures.goes_on same)
    (subst (BirthsStop w.tops i (set desks d y)) (sym p.2) here)

pub loop-top-preserved : goal.loop-top-preserved
loop-top-preserved c =
    let w = c.args.script.now in
    let i = c.loop-top.top-index in
    let desks = c.loop-top.desks in
    let none : Top = record { process = 0; desk = 0 } in
    let t = get_or c.tops-tops.result.now i none in
    let config = c.args.config in
    let begun = c.loop-top.invariant.begun in
    let x = c.index-desks-top.result in
    let old = get_or desks t.desk x in
    let y = c.bear_on.new.desk in
    let few : i < length w.tops = omega (arith, c.loop-top-test.true, ap length c.tops-tops.ensures.tops) in
    let within : t.desk < length desks = subst (λ (ts : List Top). (get_or ts i none).desk < length desks) (sym c.tops-tops.ensures.tops) (desk_within w config desks i none c.tops-tops.ensures.sound c.requires.count begun.node few) in
    let here : get_or w.tops i t ≡ t = get_or_default w.tops i t none few ∙ ap (λ (ts : List Top). get_or ts i none) (sym c.tops-tops.ensures.tops) in
    let more = begun_more config w.tops i c.loop-top.born.items desks t.desk old y begun within (get_or_default desks t.desk x old within) c.bear_on.ensures.goes_on t c.in_ok-pid.pid few here refl c.in_ok-pid.ensures.here c.in_ok-pid.ensures.does in
    record {
      begun = subst (λ (born : List Pid). Begun config w.tops (i + 1) born (set desks t.desk y)) (sym c.push_reserved.ensures.items) more;
      capacity = c.push_reserved.ensures.capacity ∙ c.loop-top.invariant.capacity;
      counted = c.push_reserved.ensures.len ∙ ap (λ n. n + 1) c.loop-top.invariant.counted;
    }
