-- `merge_known`: its contract.
use Rattle.pt_laws.proofs.linking.Agreed.{all_local, merge_known, merge_home}
use Rattle.pt_laws.proofs.links.merge_known.Goals as goal

pub returns : goal.returns
returns c start low top journal merged local m =
    let each = all_local start low top journal merged local m in (merge_known start low top merged each, merge_home start low top merged each)
