-- `Lanes::pop`: its contract.
use Rattle.std.proofs.Common.{◌≡◌, Some, [], drop, unwrap_or, ap, ◌∙◌, subst}
use Rattle.pt_auditor.specs.Lanes.{Laid, IsLaid, letters_laid}
use Rattle.pt_auditor.proofs.Laid.{updated, is_there}
use Rattle.pt_auditor.proofs.lanes.Lanes.pop.Goals as goal

pub returns : goal.returns
returns c =
    let d = c.args.from in
    let e = c.args.to in
    let old = c.self.inside.pairs.entries in
    let left = c.pop.new.self in
    let new = (c.get_mut.follows.lender left).entries in
    let writes = (c.get_mut.follows.holds left).3 (is_there _ c.in-Some.queue.now c.in-Some.ensures.value) in
    let wrote : IsLaid d e left old new = updated d e old new (Some left) writes.0 in
    let had : c.in-Some.queue.now ≡ letters_laid old d e = ap (λ o. unwrap_or o []) c.in-Some.ensures.value in
    subst (λ (z : Laid). IsLaid d e (drop 1 (letters_laid z d e)) z new) c.self.view_is
    (subst (λ z. IsLaid d e z old new) (c.pop.ensures ∙ ap (drop 1) had) wrote)
