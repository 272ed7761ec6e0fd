-- `Settled::list`: its contract.
use Rattle.std.proofs.Common.{subst}
use Rattle.std.specs.Prelude.{IfOk}
use Rattle.std.proofs.lemmas.Result.{IfOk-weaker}
use Rattle.pt_accounts.specs.LivesState.{AreAllPids, InEveryMerge, Tell}
use Rattle.pt_gathered.specs.Gathered.{begins, journals}
use Rattle.pt_gathered.specs.Quiet.{QuietState}
use Rattle.pt_gathered.proofs.settled.Settled.list.Goals as goal

pub returns : goal.returns
returns c =
    let g = c.self.inside.node in
    subst (λ (q : QuietState). IfOk c.list.result (λ pids. InEveryMerge (journals q.gathered) (λ past. AreAllPids (begins q.gathered) past pids.items))) c.self.view_is
    (IfOk-weaker c.list.result (λ pids. Tell c.self.inside.lives (λ start past. AreAllPids start past pids.items)) (λ pids. InEveryMerge (journals g) (λ past. AreAllPids (begins g) past pids.items))
    (λ pids tell. tell (begins g) (journals g) c.self.invariant.0.lives_are) c.list.ensures.told)
