-- `ends_of`: its loop over `which`.
use Rattle.std.proofs.Common.{◌++◌, map, sym, ap, ◌∙◌, arith}
use Rattle.pt_accounts.specs.DeskLives.{latest_ends}
use Rattle.pt_gathered.proofs.Ends.{ends_more}
use Rattle.pt_gathered.proofs.settled.ends_of.Goals as goal

pub loop-which-preserved : goal.loop-which-preserved
loop-which-preserved c =
    let n = c.args.stamp in
    let t = c.index-desks-which.result in
    c.in_ok-latest_ends.ensures ∙ ap (λ z. z ++ map (λ p. (p, n)) (latest_ends t)) c.loop-which.invariant
    ∙ sym (ends_more n c.args.desks.now c.loop-which.which t (omega arith) c.index-desks-which.is)
