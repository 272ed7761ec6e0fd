-- `open`: its contract, where there was memory.
use Rattle.std.proofs.Common.{inl, refl, sym, ◌∙◌}
use Rattle.pt_c_values.proofs.Empty.{if_empty}
use Rattle.pt_c_tools.proofs.groups.open.Goals as goal

pub returns : goal.returns
returns c =
    if_empty c.args.g.now.state _ _ (sym c.is_full.ensures.full ∙ c.if-is_full.false)
    (inl (refl, c.new.result, c.new.ensures, c.filled.ensures))
