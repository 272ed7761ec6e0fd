-- `noted`: its clauses `noted` and `each`.
use Rattle.std.proofs.Common.{◌∙◌, ap, length, get_or, false}
use Rattle.pt_chart.specs.Rows.{follows_sending}
use Rattle.pt_chart.proofs.Rowing.{notes_told, written}
use Rattle.pt_chart.proofs.standing.noted.Goals as goal

pub returns-clause-noted : goal.returns-clause-noted
returns-clause-noted c = λ i h.
    let made = c.in_ok-follows.ensures.items_if_clones_equal (λ y e. e) in
    ap (λ xs. get_or xs i false) (written (length c.args.events.now) c.in_ok-follows.follows.len c.deref_mut.result.now c.note_receipts.new.follows c.in_ok-follows.follows.items made c.deref_mut.ensures.value c.in_ok-follows.ensures.len c.note_receipts.ensures.each)
    ∙ notes_told (length c.args.events.now) (follows_sending c.args.events.now c.args.columns.now) c.deref_mut.result.now c.note_receipts.new.follows c.in_ok-follows.follows.items made c.deref_mut.ensures.value c.note_receipts.ensures i h

pub returns-clause-each : goal.returns-clause-each
returns-clause-each c =
    let made = c.in_ok-follows.ensures.items_if_clones_equal (λ y e. e) in
    ap length (written (length c.args.events.now) c.in_ok-follows.follows.len c.deref_mut.result.now c.note_receipts.new.follows c.in_ok-follows.follows.items made c.deref_mut.ensures.value c.in_ok-follows.ensures.len c.note_receipts.ensures.each)
    ∙ c.note_receipts.ensures.each ∙ c.deref_mut.ensures.len ∙ c.in_ok-follows.ensures.len
