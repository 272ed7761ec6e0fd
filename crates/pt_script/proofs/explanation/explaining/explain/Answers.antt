-- `explain`: its contract, where the bytes are no value.
use Rattle.std.proofs.Common.{inr, sym, ◌∙◌}
use Rattle.std.proofs.lemmas.Bool.{false≢true}
use Rattle.std.proofs.lemmas.Result.{IfOk-weaker}
use Rattle.pt_script.proofs.explanation.explaining.explain.Goals as goal

pub returns-else-is_memory : goal.returns-else-is_memory
returns-else-is_memory c =
    let none = c.in-Err.ensures.err (λ m. absurd (false≢true (sym c.if-is_memory.false ∙ c.is_memory.ensures.1 m))) in
    record { text = IfOk-weaker c.text_of-else-is_memory.result _ _ (λ s h. (c.no_value.result.why, c.no_value.result.spot, h, inr (inr (none, c.no_value.ensures)), inr (inr none))) c.text_of-else-is_memory.ensures }
