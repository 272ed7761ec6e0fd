-- `fresh_shards`: its loop over `number`.
use Rattle.std.proofs.Common.{◌≡◌, ℕ, ◌+◌, ◌-◌, ◌<◌, ◌≤◌, ◌⊎◌, inl, inr, List, [], ◌∷◌, ◌++◌, length, rules, get_or, ap, ◌∙◌, arith}
use Rattle.std.proofs.lemmas.Bool.{cases_lt}
use Rattle.std.proofs.lemmas.List.{get_or_append_left, get_or-append_right}
use Rattle.pt_node.proofs.opening.fresh_shards.Goals as goal

-- one more of a row
one_more : {X : Type 0} (f : ℕ → X) (xs ys : List X) (x : X) (n : ℕ) → ys ≡ xs ++ x ∷ [] → length xs ≡ n → x ≡ f n → ((d : ℕ) (e : X) → d < n → get_or xs d e ≡ f d)
    → (d : ℕ) (e : X) → d < n + 1 → get_or ys d e ≡ f d
one_more f xs ys x n more count is each d e within = go (cases_lt d n)
  where
    go : (d < n) ⊎ (n ≤ d) → get_or ys d e ≡ f d
    go (inl before) = ap (λ l. get_or l d e) more ∙ get_or_append_left xs (x ∷ []) e d (omega (arith, before, count)) ∙ each d e before
    go (inr here) =
        let same : n ≡ d = omega (arith, here, within) in
        let none : d - n ≡ 0 = omega (arith, same) in
        ap (λ l. get_or l d e) more ∙ get_or-append_right xs (x ∷ []) n d e count here ∙ ap (λ k. get_or (x ∷ []) k e) none ∙ is ∙ ap f same

pub loop-number-preserved : goal.loop-number-preserved
loop-number-preserved c = record {
  count = search rules;
  each = one_more _ c.loop-number.shards.items c.push.new.self.items c.in_ok-new.field-0 c.loop-number.number c.in_ok-push.ensures.items (search rules) c.in_ok-new.ensures.fresh c.loop-number.invariant.each;
}
