-- `clear`: its loop over `group`.
use Rattle.std.proofs.Common.{◌≡◌, ◌+◌, suc, take, get_or, sym, ap, ◌∙◌, subst, arith}
use Rattle.std.proofs.Math.Seq.{take-suc}
use Rattle.pt_names.specs.declared.group.Group.{Group}
use Rattle.pt_names.specs.Groups.{Clears}
use Rattle.pt_names.proofs.Grouped.{cleared_one}
use Rattle.pt_names.proofs.groups.clear.Goals as goal

pub loop-group-preserved : goal.loop-group-preserved
loop-group-preserved c =
    let groups = c.args.groups.now in
    let i = c.loop-group.group-index in
    let none : Group = record { 0 = 0 } in
    let one : i + 1 ≡ suc i = omega arith in
    subst (λ gs. Clears gs c.args.pid c.args.table.now c.remove.new.self)
    (sym (ap (λ n. take n groups) one ∙ take-suc groups i none c.loop-group-test.true))
    (cleared_one (take i groups) (get_or groups i none) c.args.pid c.args.table.now c.loop-group.table c.remove.new.self
    c.loop-group.invariant c.remove.ensures)
