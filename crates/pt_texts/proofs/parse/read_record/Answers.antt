-- `read_record`: its contract.
use Rattle.std.proofs.Common.{Result, Err, ℕ, List, ◌+◌, sym, ap, ◌∙◌}
use Rattle.pt_texts.specs.declared.records.Record.{Record}
use Rattle.pt_texts.specs.declared.parse.Refused.{Refused}
use Rattle.pt_texts.specs.Parsing.{told_column}
use Rattle.pt_texts.proofs.Recorded.{line_read}
use Rattle.pt_texts.proofs.parse.read_record.Goals as goal

pub returns-in-Ok : goal.returns-in-Ok
returns-in-Ok c = line_read c.args.text.now _ (ap (told_column c.args.text.now) (sym c.in-Ok.ensures))

refused_at : ℕ → Result (Record × List ℕ) Refused
refused_at n = Err (record { column = n + 1 })

pub returns-in-Err : goal.returns-in-Err
unfolding refused_at
returns-in-Err c = line_read c.args.text.now _ (ap refused_at c.saturating_sub.ensures ∙ ap (told_column c.args.text.now) (sym (c.in-Err.ensures {u = tt})))
