-- `forget_reasons`: its loop over `which`, and what its call of `Desk::forget_reasons` asks.
use Rattle.std.proofs.Common.{◌≡◌, suc, ◌+◌, ◌<◌, ◌++◌, length, map, take, drop, set, get_or, sym, ap, ◌∙◌, arith}
use Rattle.pt_desk.specs.DeskState.{DeskState}
use Rattle.pt_desk.specs.Forgetting.{forgetful_desk}
use Rattle.pt_node.proofs.Walked.{walked, unwalked}
use Rattle.pt_node.proofs.resuming.forget_reasons.Goals as goal

pub loop-which-preserved : goal.loop-which-preserved
loop-which-preserved c =
    let all = c.args.desks.now in
    let k = c.loop-which.which in
    let x = c.index-desks-which.result in
    let y = c.forget_reasons.new.self in
    let next : suc k ≡ k + 1 = omega arith in
    let is : x ≡ get_or (map forgetful_desk (take k all) ++ drop k all) k x = c.index-desks-which.is ∙ ap (λ ds. get_or ds k x) c.loop-which.invariant in
    ap (λ ds. set ds k y) c.loop-which.invariant ∙ walked forgetful_desk all k x y (omega arith) is (c.forget_reasons.ensures ∙ ap forgetful_desk (sym c.index-desks-which.is))
    ∙ ap (λ m. map forgetful_desk (take m all) ++ drop m all) next

pub forget_reasons-requires : goal.forget_reasons-requires
forget_reasons-requires c =
    let all = c.args.desks.now in
    let k = c.loop-which.which in
    let x = c.index-desks-which.result in
    let lt : k < length all = omega arith in
    record { fresh = ap (λ (d : DeskState). d.shard.journal) (ap (λ ds. get_or ds k x) c.loop-which.invariant ∙ unwalked forgetful_desk all k x lt) ∙ c.requires k x lt }
