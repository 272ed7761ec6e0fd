-- `list_names_in`: its contract.
use Rattle.std.proofs.Common.{sym, subst}
use Rattle.pt_chart.specs.Mentioning.{AreNamed}
use Rattle.pt_chart.proofs.drawing.list_names_in.Goals as goal

pub returns : goal.returns
returns c =
    let block = c.args.block.now in
    let listed = c.as_slice.result.now in
    c.list_names_of.ensures block
    (subst (λ ps. AreNamed block ps listed) c.requires (subst (AreNamed block c.args.pids.now) (sym c.as_slice.ensures.value) c.in_ok-named.ensures.named))
