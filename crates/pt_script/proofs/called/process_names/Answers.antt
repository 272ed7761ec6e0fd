-- `process_names`: its contract.
use Rattle.std.proofs.Common.{refl, sym, ◌∙◌}
use Rattle.std.proofs.lemmas.Bool.{false≢true}
use Rattle.serde_json.specs.View.{view}
use Rattle.pt_script.proofs.CalledFacts.{names_of_value, names_of_no_value}
use Rattle.pt_script.proofs.called.process_names.Goals as goal

pub returns-in-Ok : goal.returns-in-Ok
returns-in-Ok c = rw (names_of_value c.args.bytes.now (view c.in-Ok.value) c.in-Ok.ensures.ok.0 c.in-Ok.ensures.ok.1) c.names_of.ensures

pub returns-else-is_memory : goal.returns-else-is_memory
returns-else-is_memory c =
    let none = c.in-Err.ensures.err (λ m. absurd (false≢true (sym c.if-is_memory.false ∙ c.is_memory.ensures.1 m))) in
    rw (c.new.ensures.items, names_of_no_value c.args.bytes.now none) refl
