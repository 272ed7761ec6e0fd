-- `with_resident`: its contract.
use Rattle.std.proofs.Common.{Some, ap, sym}
use Rattle.pt_auditor.specs.Saving.{told_of}
use Rattle.pt_auditor.proofs.Reread.{last_entry}
use Rattle.pt_auditor.proofs.rest.Rest.with_resident.Goals as goal

pub returns-in-Ok : goal.returns-in-Ok
returns-in-Ok c =
    ap (λ es. Some (record (told_of c.args.self) { entries = es }))
    (sym (last_entry c.put.new.residents.items c.args.self.residents.items c.args.resident c.in-Ok.ensures))
