-- `columns_with`: its clauses `pids` and `columns`, and its loop over `place`.
use Rattle.std.proofs.Common.{◌∙◌, sym, subst, rules, arith}
use Rattle.std.specs.Prelude.{All}
use Rattle.std.proofs.lemmas.List.{take_all}
use Rattle.std.proofs.lemmas.List.Elements.{All-push}
use Rattle.pt_signal.specs.declared.pid.Pid.{Pid}
use Rattle.pt_chart.specs.declared.layout.Column.{Column}
use Rattle.pt_chart.specs.Chart.{IsColumn}
use Rattle.pt_chart.proofs.Rows.{stands_next}
use Rattle.pt_chart.proofs.layout.columns_with.Goals as goal

abbrev nobody : Pid
nobody = record { shard = 0; slot = 0; version = 0 }

pub loop-place-preserved : goal.loop-place-preserved
loop-place-preserved c = record {
  pids =
      stands_next c.as_slice-list.result.now c.loop-place.place nobody c.loop-place.columns.items c.push_reserved.new.self.items c.in_ok-column.column
      (omega arith) c.in_ok-column.ensures.pid c.loop-place.invariant.pids c.push_reserved.ensures.items;
  columns = λ same.
      subst (All (λ (x : Column). IsColumn c.args.events.now x)) (sym c.push_reserved.ensures.items)
      (All-push (λ (x : Column). IsColumn c.args.events.now x) c.loop-place.columns.items c.in_ok-column.column (c.loop-place.invariant.columns same)
      (c.in_ok-column.ensures.column same));
  count = search rules;
  room = search rules;
}

pub returns-clause-pids : goal.returns-clause-pids
returns-clause-pids c = c.loop-place.invariant.pids ∙ take_all c.loop-place.place c.as_slice-list.result.now (omega arith) ∙ c.as_slice-list.ensures
