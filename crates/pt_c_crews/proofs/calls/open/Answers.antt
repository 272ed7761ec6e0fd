-- `open`: its contract, where there was memory.
use Rattle.std.proofs.Common.{inl, refl, sym, ◌∙◌}
use Rattle.pt_c_values.proofs.Empty.{if_empty}
use Rattle.pt_c_crews.proofs.calls.open.Goals as goal

pub returns : goal.returns
returns c =
    let e = c.new.ensures in
    if_empty c.args.c.now.state _ _ (sym c.is_full.ensures.full ∙ c.if-is_full.false)
    (inl (refl, c.new.result, record { attends = e.attends; nobody = e.nobody; queue = e.queue; born = e.born; time = e.time; desk = e.desk; upholds = e.upholds }, c.filled.ensures))
