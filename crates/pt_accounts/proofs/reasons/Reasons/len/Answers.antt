-- `Reasons::len`: the number of reasons.
use Rattle.std.proofs.Common.{◌≡◌, ◌-◌, length, slice_get, Some, None, ap, sym, subst, ◌∙◌, arith}
use Rattle.pt_accounts.specs.Runs.{AreRuns, expanded, ReasonsState}
use Rattle.pt_accounts.proofs.Ends.{counted, end_is}
use Rattle.pt_accounts.proofs.reasons.Reasons.len.Goals as goal

pub returns-in-Some-clause-len : goal.returns-in-Some-clause-len
returns-in-Some-clause-len c =
    let runs = c.deref.result.now in
    let same : c.self.inside.runs.items ≡ runs = sym c.deref.ensures.value in
    let last : slice_get runs (length runs - 1) ≡ Some c.in-Some.run'.now = sym c.in-Some.ensures.value in
    let all = counted 0 None runs (subst (AreRuns 0 None) same c.self.invariant) in
    let listed : length (expanded 0 runs) ≡ length c.args.self.now.listed =
    ap (λ x. length (expanded 0 x)) (sym same) ∙ ap (λ (s : ReasonsState). length s.listed) c.self.view_is in
    omega (arith, all, end_is 0 runs c.in-Some.run'.now last, listed)
