-- `column_of`: its clause `column`.
use Rattle.std.proofs.Common.{[], ap, ◌∙◌}
use Rattle.std.specs.Prelude.{◌++◌}
use Rattle.pt_chart.specs.Chart.{past_of, everyone, arrows, sent_of}
use Rattle.pt_chart.proofs.layout.column_of.Goals as goal

pub returns-clause-column : goal.returns-clause-column
returns-clause-column c = λ same. record {
  born = c.birth_of-born.ensures;
  shows = λ anew. record {
    ended = c.in_ok-ended.ensures.ending anew;
    arrows =
        c.in_ok-arrows.ensures ∙ ap (λ ps. arrows c.args.events.now ps c.args.pid [] c.as_slice.result.now) same
        ∙ ap (arrows c.args.events.now (everyone c.args.events.now) c.args.pid [])
        (c.as_slice.ensures.value ∙ c.in_ok-ended.ensures.sent anew ∙ ap (λ z. z ++ sent_of (past_of c.args.events.now) c.args.pid) c.new-sent.ensures.items);
  };
}
