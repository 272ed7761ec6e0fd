-- `lay_out`: its clauses `layout` and `legal`.
use Rattle.std.proofs.Common.{subst}
use Rattle.pt_chart.proofs.Legal.{lives_shown}
use Rattle.pt_chart.proofs.Rowing.{history_shown}
use Rattle.pt_chart.specs.Rows.{AreRows, follows_sending}
use Rattle.pt_chart.proofs.layout.lay_out.Goals as goal

pub returns-clause-layout : goal.returns-clause-layout
returns-clause-layout c = record {
  pids = c.in_ok-columns.ensures.pids;
  columns = c.in_ok-columns.ensures.columns;
  rows = subst (λ cs. AreRows c.args.events.now (follows_sending c.args.events.now cs) c.in_ok-rows.rows.items) c.as_slice.ensures.value c.in_ok-rows.ensures;
}

pub returns-clause-legal : goal.returns-clause-legal
returns-clause-legal c = λ legal.
    history_shown c.args.events.now (record { columns = c.in_ok-columns.columns; rows = c.in_ok-rows.rows })
    c.in_ok-columns.ensures.pids
    (subst (λ cs. AreRows c.args.events.now (follows_sending c.args.events.now cs) c.in_ok-rows.rows.items) c.as_slice.ensures.value c.in_ok-rows.ensures)
    (lives_shown c.args.events.now c.in_ok-columns.columns.items legal c.in_ok-columns.ensures.columns)
