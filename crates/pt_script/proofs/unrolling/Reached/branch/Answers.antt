-- `Reached::branch`: its contract.
use Rattle.std.proofs.Common.{◌≡◌, true, ap, ◌∙◌, arith}
use Rattle.std.specs.Prelude.{reverse}
use Rattle.std.proofs.lemmas.Grind.{common_steps}
use Rattle.std.proofs.lemmas.Option.{gets}
use Rattle.pt_script.specs.Unrolling.{operation_before, may_branch, reached_view}
use Rattle.pt_script.proofs.UnrollingFacts.{before_is, branched, reverse_push}
use Rattle.pt_script.proofs.unrolling.Reached.branch.Goals as goal

pub returns : goal.returns
returns c =
    let r = reached_view c.args.self.now in
    let w = c.write.new.self in
    let behind = before_is c.args.list.now r.place c.if-place-eq0.false in
    let yes : may_branch (operation_before c.args.list.now r.place) ≡ true = grind (arith, common_steps, gets, behind) in
    branched (may_branch (operation_before c.args.list.now r.place)) r (reached_view w) c.args.pattern _ yes c.in_ok-write.ensures.next
    (ap (λ xs. reverse xs) c.in_ok-push.ensures.items ∙ reverse_push w.blocks.items _)
