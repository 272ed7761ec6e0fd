-- `parse`: its contract.
use Rattle.pt_auditor.proofs.Reread.{reread}
use Rattle.pt_auditor.proofs.rest.Rest.parse.Goals as goal

pub returns : goal.returns
returns c = reread c.args.text.now _ c.read_lines.ensures
