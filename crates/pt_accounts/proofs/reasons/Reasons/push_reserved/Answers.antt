-- `Reasons::push_reserved`: one more reason.
use Rattle.std.proofs.Common.{◌≡◌, ℕ, ◌+◌, ◌++◌, ◌∷◌, [], length, List, MatchOption, Option, refl, None, true, false, ap, sym, subst, ◌∙◌, arith}
use Rattle.pt_accounts.specs.declared.reasons.Run.{Run}
use Rattle.pt_accounts.specs.Runs.{expanded, last_is, ReasonsState}
use Rattle.pt_accounts.proofs.Ends.{Pushes, pushed_longer, begun}
use Rattle.pt_accounts.proofs.reasons.Reasons.push_reserved.Goals as goal
use Rattle.pt_accounts.proofs.reasons.Reasons.push_reserved.Goals.{then-last_is, else-last_is}

popped_none : (old : List Run) (n m : ℕ) (o : Option Run) → length old ≡ n → MatchOption o ((n ≡ 0) × (m ≡ 0)) (λ _. m + 1 ≡ n) → o ≡ None → old ≡ []
popped_none [] n m o count cases none = refl
popped_none (run ∷ old) n m o count cases none =
    absurd (let h : (n ≡ 0) × (m ≡ 0) = subst (λ (x : Option Run). MatchOption x ((n ≡ 0) × (m ≡ 0)) (λ _. m + 1 ≡ n)) none cases in omega (arith, h.0, count))

pushed : (c : goal.After-push_reserved) → Pushes c.self.inside.runs.items c.args.reason c.push_reserved.new.self.items
pushed c =
    let old = c.self.inside.runs.items in
    let up : c.len.result + 1 ≡ length (expanded 0 old) + 1 =
    ap (λ n. n + 1) (c.len.ensures.len ∙ sym (ap (λ (s : ReasonsState). length s.listed) c.self.view_is)) in
    let looked : c.as_slice.result.now ≡ old = c.as_slice.ensures.value in
    elim c.if-last_is.branch [
      | then-last_is w ↦
          let same : last_is c.args.reason old ≡ true = ap (last_is c.args.reason) (sym looked) ∙ sym c.last_is.ensures ∙ w.if-last_is.true in
          subst (Pushes old c.args.reason)
          (ap (λ s. s.runs.items ++ record { up_to = c.len.result + 1; reason = c.args.reason } ∷ []) (sym w.self-inside-is) ∙ sym c.push_reserved.ensures.items)
          (pushed_longer old w.pop.new.self.items w.pop.result c.args.reason (c.len.result + 1) w.pop.ensures.items (popped_none old _ _ w.pop.result (ap length (sym looked) ∙ c.as_slice.ensures.len) w.pop.ensures.cases) c.self.invariant same up)
      | else-last_is w ↦
          let other : last_is c.args.reason old ≡ false = ap (last_is c.args.reason) (sym looked) ∙ sym c.last_is.ensures ∙ w.if-last_is.false in
          subst (Pushes old c.args.reason)
          (ap (λ s. s.runs.items ++ record { up_to = c.len.result + 1; reason = c.args.reason } ∷ []) (sym w.self-inside-is) ∙ sym c.push_reserved.ensures.items)
          (begun old c.args.reason (c.len.result + 1) c.self.invariant other up)
    ]

pub invariant_of-self : goal.invariant_of-self
invariant_of-self c = (pushed c).0

pub returns-clause-listed : goal.returns-clause-listed
returns-clause-listed c = (pushed c).1 ∙ ap (λ (s : ReasonsState). s.listed ++ c.args.reason ∷ []) c.self.view_is
