-- `Audit::over`: its contract.
use Rattle.pt_auditor.proofs.Read.{read_over}
use Rattle.pt_auditor.proofs.audit.Audit.over.Goals as goal

pub returns-in-Ok : goal.returns-in-Ok
returns-in-Ok c text past t k =
    let r = c.args.rest in
    read_over text past r.last c.in-Ok.hearing _ r.events t (c.in-Ok.ensures past k) c.new.ensures.items k.count
