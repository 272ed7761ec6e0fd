-- `ChildList::revive`: that what its loop keeps holds at first.
use Rattle.std.proofs.Common.{refl, sym, arith}
use Rattle.pt_children.proofs.Spanning.{revived_before}
use Rattle.pt_children.proofs.child_list.ChildList.revive.Goals as goal

pub loop-place-init : goal.loop-place-init
loop-place-init c =
    let start = c.min-place.ensures in
    record {
      is = sym (revived_before c.args.self.now c.args.first c.min-place.result (grind (arith, start)));
      count = refl;
      from = grind (arith, start);
    }
