-- `fresh_tables`: its loop over `number`.
use Rattle.std.proofs.Common.{◌≡◌, [], ◌∷◌, length, get_or, ap, ◌∙◌, below_more, arith}
use Rattle.std.proofs.Math.ListN.{get_or-append}
use Rattle.std.proofs.lemmas.List.{get_or_push}
use Rattle.pt_accounts.specs.DeskLives.{DeskTable}
use Rattle.pt_node.specs.Opening.{fresh_table}
use Rattle.pt_node.proofs.opening.fresh_tables.Goals as goal

pub loop-number-preserved : goal.loop-number-preserved
loop-number-preserved c =
    let old = c.loop-number.tables.items in
    let new = c.push.new.self.items in
    let k = c.loop-number.number in
    let more = c.in_ok-push.ensures.items in
    let long : length old ≡ k = omega (arith, c.loop-number.invariant.count, c.loop-number.tables.ok.0) in
    record {
      count = omega (arith, c.in_ok-push.ensures.len, c.loop-number.invariant.count);
      each = λ d x h.
          below_more (λ i. (y : DeskTable) → get_or new i y ≡ fresh_table i) k
          (λ i l y. ap (λ ts. get_or ts i y) more ∙ get_or-append old (c.new.result ∷ []) y i (omega (arith, l, long)) ∙ c.loop-number.invariant.each i y l)
          (λ y. ap (λ ts. get_or ts k y) more ∙ get_or_push old c.new.result y k long ∙ c.new.ensures) d h x;
    }
