-- `spells`: its contract.
use Rattle.std.proofs.Common.{sym, ◌∙◌}
use Rattle.std.proofs.lemmas.Bool.{false≢true}
use Rattle.serde_json.specs.View.{view}
use Rattle.pt_script.proofs.WalkFacts.{spelt, spells_nothing}
use Rattle.pt_script.proofs.explanation.walking.spells.Goals as goal

pub returns-in-Ok : goal.returns-in-Ok
returns-in-Ok c = c.is_text.ensures ∙ sym (spelt c.args.name.now c.args.text.now (view c.in-Ok.value) c.in-Ok.ensures.ok.0 c.in-Ok.ensures.ok.1)

pub returns-else-is_memory : goal.returns-else-is_memory
returns-else-is_memory c =
    let none = c.in-Err.ensures.err (λ m. absurd (false≢true (sym c.if-is_memory.false ∙ c.is_memory.ensures.1 m))) in
    sym (spells_nothing c.args.name.now c.args.text.now none)
