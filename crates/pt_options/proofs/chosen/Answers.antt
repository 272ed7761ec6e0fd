-- `chosen`: its clause `chosen`.
use Rattle.std.proofs.Common.{◌≡◌, ◌∙◌, ap}
use Rattle.std.specs.Prelude.{codes, option_and_then}
use Rattle.std.specs.Str.Parse.{ExplainsUnsignedError, HasUnsignedDigitsIfOk}
use Rattle.clap.specs.Words.{first_of, found_of, one_of, one_text, rows_of}
use Rattle.clap.proofs.WalkLemmas.{first_value-rows, one_text-rows}
use Rattle.pt_options.specs.Choosing as spec
use Rattle.pt_options.proofs.Reading.{number_is}
use Rattle.pt_options.proofs.chosen.Goals as goal

pub returns-clause-chosen : goal.returns-clause-chosen
returns-clause-chosen c =
    let found = found_of c.args.matches.now in
    let rows = rows_of found in
    let threads : c.mode_of.result ≡ spec.mode_of (first_of (codes "threads") rows) = c.mode_of.ensures ∙ ap spec.mode_of (c.get_str.ensures ∙ first_value-rows found (codes "threads")) in
    let turns : c.turns_of.result ≡ spec.turns_of (option_and_then spec.number_written (one_of (codes "turns") rows)) = c.turns_of.ensures ∙ ap spec.turns_of (number_is _ (λ t r. ExplainsUnsignedError 10 t r) (λ t r. HasUnsignedDigitsIfOk t r) (one_text found (codes "turns")) c.get_one.result c.get_one.ensures.none c.get_one.ensures.value ∙ ap (option_and_then spec.number_written) (one_text-rows found (codes "turns"))) in
    let epochs : c.epochs_of.result ≡ spec.epochs_of (option_and_then spec.number_written (one_of (codes "epochs") rows)) = c.epochs_of.ensures ∙ ap spec.epochs_of (number_is _ (λ t r. ExplainsUnsignedError 10 t r) (λ t r. HasUnsignedDigitsIfOk t r) (one_text found (codes "epochs")) c.get_one-2.result c.get_one-2.ensures.none c.get_one-2.ensures.value ∙ ap (option_and_then spec.number_written) (one_text-rows found (codes "epochs"))) in
    let until : c.until_of.result ≡ spec.until_of (first_of (codes "until") rows) = c.until_of.ensures ∙ ap spec.until_of (c.get_str-2.ensures ∙ first_value-rows found (codes "until")) in
    let print : c.show_of.result ≡ spec.show_of (first_of (codes "print") rows) = c.show_of.ensures ∙ ap spec.show_of (c.get_str-3.ensures ∙ first_value-rows found (codes "print")) in
    let explain : c.is_told.result ≡ spec.is_told (first_of (codes "explain") rows) = c.is_told.ensures ∙ ap spec.is_told (c.get_str-4.ensures ∙ first_value-rows found (codes "explain")) in
    λ i. record { threads = threads i; turns = turns i; until = until i; epochs = epochs i; print = print i; explain = explain i }
