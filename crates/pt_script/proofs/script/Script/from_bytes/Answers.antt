-- `Script::from_bytes`: its contract.
use Rattle.std.proofs.Common.{◌≤◌, length, sym, ◌∙◌, arith}
use Rattle.std.proofs.lemmas.Bool.{false≢true}
use Rattle.serde_json.specs.View.{view}
use Rattle.pt_script.proofs.ReadFacts.{reading_value, reading_no_value}
use Rattle.pt_script.proofs.script.Script.from_bytes.Goals as goal

pub returns-in-Ok : goal.returns-in-Ok
returns-in-Ok c =
    let short : length c.args.bytes.now ≤ 1048576 = omega (arith, c.if-bytes-gt-MAX_BYTES.false) in
    rw (reading_value c.args.bytes.now (view c.in-Ok.value) short c.in-Ok.ensures.ok.0 c.in-Ok.ensures.ok.1) c.unrolled_of.ensures

pub returns-else-is_memory : goal.returns-else-is_memory
returns-else-is_memory c =
    let short : length c.args.bytes.now ≤ 1048576 = omega (arith, c.if-bytes-gt-MAX_BYTES.false) in
    let none = c.in-Err.ensures.err (λ m. absurd (false≢true (sym c.if-is_memory.false ∙ c.is_memory.ensures.1 m))) in
    rw c.of_script-else-is_memory.ensures (reading_no_value c.args.bytes.now short none)
