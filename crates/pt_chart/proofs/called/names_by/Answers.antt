-- `names_by`: its loop over `column`.
use Rattle.std.proofs.Common.{[], ◌∷◌, ◌++◌, map, ap, ◌∙◌, List, ℕ, arith}
use Rattle.std.proofs.lemmas.List.{map-append}
use Rattle.pt_chart.specs.declared.layout.Column.{Column}
use Rattle.pt_chart.specs.Drawing.{called_given, column_name}
use Rattle.pt_chart.proofs.Rows.{one_more_given}
use Rattle.pt_chart.proofs.called.names_by.Goals as goal

pub loop-column-preserved : goal.loop-column-preserved
loop-column-preserved c =
    let called : Column → List ℕ = λ x. column_name (map called_given c.args.called.now) x.pid in
    let before = map (λ n. n.now) c.loop-column.names.items in
    one_more_given called [] before (map (λ n. n.now) c.push.new.self.items) c.args.columns.now c.loop-column.column-index c.column-item.result (omega arith) c.loop-column.invariant
    (ap (map (λ n. n.now)) (c.in_ok-push.ensures.items) ∙ map-append (λ n. n.now) c.loop-column.names.items (c.name_of.result ∷ [])
    ∙ ap (λ n. before ++ n ∷ []) (c.name_of.ensures ∙ ap called c.column-item.is))
