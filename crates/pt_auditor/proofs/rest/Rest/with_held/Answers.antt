-- `with_held`: its contract.
use Rattle.std.proofs.Common.{◌++◌, ◌∷◌, [], ap, sym, subst, ◌∙◌}
use Rattle.pt_auditor.specs.Saving.{IsToldSo, told_of}
use Rattle.pt_auditor.proofs.Reread.{held_line, held_flaw, ended_flaw}
use Rattle.pt_auditor.proofs.rest.Rest.with_held.Goals as goal

pub returns-in-Ok : goal.returns-in-Ok
returns-in-Ok c =
    subst (λ o. IsToldSo o c.with_resident.result)
    (sym (held_line (told_of c.args.self) c.args.line c.args.self.residents.items c.pop_back.new.self.items c.in-Some-Lives.pid c.in-Some-Lives.holding c.in-Ok.holding (c.in-Some-Lives.ensures.items ∙ ap (λ z. c.pop_back.new.self.items ++ z ∷ []) c.in-Some-Lives.field-0-is) c.in-Ok.ensures))
    c.with_resident.ensures

pub returns-in-Err : goal.returns-in-Err
returns-in-Err c =
    held_flaw (told_of c.args.self) c.args.line c.args.self.residents.items c.pop_back.new.self.items c.in-Some-Lives.pid c.in-Some-Lives.holding c.in-Err.flaw (c.in-Some-Lives.ensures.items ∙ ap (λ z. c.pop_back.new.self.items ++ z ∷ []) c.in-Some-Lives.field-0-is) c.in-Err.ensures

pub returns-in-Some-Ended : goal.returns-in-Some-Ended
returns-in-Some-Ended c =
    ended_flaw (told_of c.args.self) c.args.line c.args.self.residents.items c.pop_back.new.self.items c.in-Some-Ended.field-0-0 c.in-Some-Ended.field-0-1 c.in-Some-Ended.field-0-2
    (c.in-Some-Ended.ensures.items ∙ ap (λ z. c.pop_back.new.self.items ++ z ∷ []) c.in-Some-Ended.field-0-is)
