-- `Limit::allows`: its contract.
use Rattle.std.proofs.Common.{rules, ◌≡◌, ℕ, List, ◌∷◌, [], ◌++◌, length, refl, ap, ◌∙◌, arith}
use Rattle.std.proofs.lemmas.Fn.{filter_same}
use Rattle.pt_children.specs.Limits.{recent}
use Rattle.pt_children.proofs.Limiting.{not_below, below}
use Rattle.pt_children.proofs.limit.Limit.allows.Goals as goal

pub returns-then-len-self : goal.returns-then-len-self
returns-then-len-self c =
    let kept : c.retain.new.self.items ≡ recent c.args.now c.args.self.now.span c.args.self.now.times.items = filter_same _ _ _ (λ x b f k. search rules) _ _ c.retain.ensures.filtered in
    let n = ap length kept in
    let l = c.len.ensures in
    (not_below (length (recent c.args.now c.args.self.now.span c.args.self.now.times.items)) c.args.self.now.most (omega (arith, n, l, c.if-len-self.true)), kept, refl, refl, refl)

pub returns : goal.returns
returns c =
    let kept : c.retain.new.self.items ≡ recent c.args.now c.args.self.now.span c.args.self.now.times.items = filter_same _ _ _ (λ x b f k. search rules) _ _ c.retain.ensures.filtered in
    let n = ap length kept in
    let l = c.len.ensures in (
      below (length (recent c.args.now c.args.self.now.span c.args.self.now.times.items)) c.args.self.now.most (omega (arith, n, l, c.if-len-self.false)),
      c.push_reserved.ensures.items ∙ ap (λ (ts : List ℕ). ts ++ c.args.now ∷ []) kept,
      refl,
      refl,
      refl,
    )
