-- `first_line`: its contract.
use Rattle.std.proofs.Common.{◌≡◌, ℕ, List, Some, None, take, length, ap, sym, ◌∙◌, arith}
use Rattle.std.proofs.lemmas.List.{take_all}
use Rattle.std.proofs.lemmas.Str.Pattern.{IsSplitOnceResult, split_once_first}
use denote.Ref.{Bor}
use Rattle.pt_report.specs.Summaries.{first_line}
use Rattle.pt_report.proofs.explained.first_line.Goals as goal

split_at : (text : List ℕ) (x : Bor (List ℕ) × Bor (List ℕ)) → IsSplitOnceResult 10 text (Some x) → x.0.now ≡ first_line text
split_at text x h = (split_once_first 10 text (Some x) h (omega arith)).1

whole : (text : List ℕ) → IsSplitOnceResult 10 text None → text ≡ first_line text
whole text h = sym (ap (λ n. take n text) (split_once_first 10 text None h (omega arith)) ∙ take_all (length text) text (omega arith))

pub returns-in-Some : goal.returns-in-Some
returns-in-Some c = split_at c.args.text.now (c.in-Some.line, c.in-Some._rest) c.in-Some.ensures.cases

pub returns-in-None : goal.returns-in-None
returns-in-None c = whole c.args.text.now c.in-None.ensures.cases
