-- `forget_all`: its loop over `which`.
use Rattle.std.proofs.Common.{◌≡◌, suc, ◌+◌, ◌++◌, map, take, drop, set, get_or, sym, ap, ◌∙◌, arith}
use Rattle.pt_accounts.specs.DeskLives.{all_forgotten}
use Rattle.pt_node.proofs.Walked.{walked}
use Rattle.pt_node.proofs.resuming.forget_all.Goals as goal

pub loop-which-preserved : goal.loop-which-preserved
loop-which-preserved c =
    let all = c.args.tables.now in
    let k = c.loop-which.which in
    let x = c.index-tables-which.result in
    let y = c.forget.new.self in
    let next : suc k ≡ k + 1 = omega arith in
    let is : x ≡ get_or (map all_forgotten (take k all) ++ drop k all) k x = c.index-tables-which.is ∙ ap (λ ts. get_or ts k x) c.loop-which.invariant in
    ap (λ ts. set ts k y) c.loop-which.invariant ∙ walked all_forgotten all k x y (omega arith) is (c.forget.ensures.forgets ∙ ap all_forgotten (sym c.index-tables-which.is))
    ∙ ap (λ m. map all_forgotten (take m all) ++ drop m all) next
