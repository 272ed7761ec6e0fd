-- `options_of`: its clause `words`.
use Rattle.std.proofs.Common.{◌∙◌, ap, inl, inr}
use Rattle.std.proofs.lemmas.Result.{err_from_is_err_and}
use Rattle.clap.specs.Simple.{app_of}
use Rattle.pt_options.specs.Choosing.{chosen_of, file_of}
use Rattle.pt_options.proofs.Asking.{simple_and_free, simple}
use Rattle.pt_options.proofs.options_of.Goals as goal

pub returns-in_err-matches-clause-words : goal.returns-in_err-matches-clause-words
returns-in_err-matches-clause-words c =
    let p = err_from_is_err_and c.from_residual-in_err-matches.result c.from_residual-in_err-matches.ensures.1 in
    let a = app_of c.in_ok-command.field-0 in
    let is = c.in_ok-command.ensures in
    rw (p.1, p.2) (elim (c.in_err-matches.ensures.kinds (simple_and_free a is)) [ inl memory ↦ inl memory | inr among ↦ inr (a, is, among) ])

pub returns-clause-words : goal.returns-clause-words
returns-clause-words c =
    let a = app_of c.in_ok-command.field-0 in
    let is = c.in_ok-command.ensures in
    let rows = (c.in_ok-matches.ensures.matches (simple a is)).0 in
    (a, is, c.in_ok-matches.ensures.kinds (simple_and_free a is), c.in_ok-file.ensures ∙ ap file_of rows, c.chosen.ensures.chosen ∙ ap chosen_of rows)
