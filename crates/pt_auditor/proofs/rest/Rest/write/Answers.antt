-- `write`: its contract.
use Rattle.pt_auditor.proofs.Reread.{rest_written}
use Rattle.pt_auditor.proofs.rest.Rest.write.Goals as goal

pub returns : goal.returns
returns c = rest_written c.args.self.now _ _ _ _ _ _ c.in_ok-write_line.ensures c.in_ok-write_last.ensures c.in_ok-write.ensures c.in_ok-write-2.ensures c.in_ok-write_residents.ensures
