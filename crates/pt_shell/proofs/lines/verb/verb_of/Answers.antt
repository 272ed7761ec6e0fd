-- The table of the source is that of the specification.
use Rattle.std.proofs.Common.{◌≡◌, ◌∙◌, ap, map, List, ℕ}
use Rattle.pt_shell.specs.Calls.{verb_of, verbs, first_named, named_row}
use Rattle.pt_shell.specs.declared.lines.verb.Verb.{Verb}
use Rattle.pt_shell.proofs.lines.verb.verb_of.Goals as goal

pub returns : goal.returns
unfolding verb_of verbs
returns c =
    let table_is : map named_row c.as_slice.result.now ≡ verbs = ap (map named_row) c.as_slice.ensures in
    c.verb_in.ensures ∙ ap (λ (t : List (List ℕ × Verb)). first_named t c.args.word.now) table_is
