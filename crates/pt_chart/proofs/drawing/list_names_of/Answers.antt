-- `list_names_of`: its contract, and its loop over `at`.
use Rattle.std.proofs.Common.{◌++◌, ◌<◌, refl, ap, sym, ◌∙◌, get_or, length, take, below_more, arith}
use Rattle.pt_chart.specs.Drawing.{each_numbered, name_in}
use Rattle.pt_chart.proofs.Naming.{names_next, names_end}
use Rattle.pt_chart.proofs.drawing.list_names_of.Goals.{then-behind-column+in_ok-push, else-behind-column}
use Rattle.pt_chart.proofs.drawing.list_names_of.Goals as goal

pub loop-at-preserved : goal.loop-at-preserved
loop-at-preserved c =
    let columns = c.args.columns.now in
    let named = c.args.named.now in
    let at = c.loop-at.at in
    let column = get_or named at 0 in
    let within : column < length columns = c.requires.within at 0 (omega arith) in
    elim c.if-behind-column.branch [
      | then-behind-column+in_ok-push w ↦ record {
        listed = λ block are.
            ap (λ v. v.items) w.parts-is
            ∙ names_next block c.args.row columns named are w.index-columns-column.result at c.loop-at.behind column c.args.parts.now.items c.loop-at.parts.items w.push.new.self.items
            c.requires.sorted (omega arith) refl w.if-behind-column.true c.loop-at.invariant.left (c.loop-at.invariant.listed block are) w.in_ok-push.ensures.items
            ∙ ap (λ k. c.args.parts.now.items ++ each_numbered (name_in block c.args.row) (take k columns)) (sym w.behind-is);
        within = omega (arith, within, w.behind-is);
        left = below_more (λ j. get_or named j 0 < c.if-behind-column.behind) at (λ j h. let l = c.loop-at.invariant.left j h in omega (arith, l, w.if-behind-column.true, w.behind-is)) (omega (arith, w.behind-is));
      }
      | else-behind-column w ↦ record {
        listed = λ block are.
            ap (λ v. v.items) w.parts-is ∙ c.loop-at.invariant.listed block are
            ∙ ap (λ k. c.args.parts.now.items ++ each_numbered (name_in block c.args.row) (take k columns)) (sym w.behind-is);
        within = let most = c.loop-at.invariant.within in omega (arith, most, w.behind-is);
        left = below_more (λ j. get_or named j 0 < c.if-behind-column.behind) at (λ j h. let l = c.loop-at.invariant.left j h in omega (arith, l, w.behind-is)) (omega (arith, w.if-behind-column.false, w.behind-is));
      }
    ]

pub returns : goal.returns
returns c = λ block are. names_end block c.args.row c.args.columns.now c.args.named.now are c.loop-at.at c.loop-at.behind c.args.parts.now.items c.loop-at.parts.items (omega arith) c.loop-at.invariant.within c.loop-at.invariant.left (c.loop-at.invariant.listed block are)
