-- `custody_of`: its contract.
use Rattle.pt_history.proofs.custody.custody_of.Goals as goal

pub returns : goal.returns
returns c = c.custody_holds.ensures.gathered c.args.gathered.now c.desks-desks.ensures.gathered
