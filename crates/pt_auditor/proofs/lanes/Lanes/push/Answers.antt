-- `Lanes::push`: its contract.
use Rattle.std.proofs.Common.{◌≡◌, Some, ◌∷◌, [], ◌++◌, unwrap_or, ap, ◌∙◌, subst}
use Rattle.pt_auditor.specs.Lanes.{Laid, IsLaid, letters_laid}
use Rattle.pt_auditor.proofs.Laid.{updated, on_ok, is_there}
use Rattle.pt_auditor.proofs.lanes.Lanes.push.Goals as goal

pub returns-in-Some : goal.returns-in-Some
returns-in-Some c =
    let l = c.args.letter in
    let d = l.from.shard in
    let e = l.to.shard in
    let old = c.self.inside.pairs.entries in
    let pushed = c.push.new.self in
    let new = (c.get_mut.follows.lender pushed).entries in
    let writes = (c.get_mut.follows.holds pushed).3 (is_there _ c.in-Some.queue.now c.in-Some.ensures.value) in
    let wrote : IsLaid d e pushed old new = updated d e old new (Some pushed) writes.0 in
    let had : c.in-Some.queue.now ≡ letters_laid old d e = ap (λ o. unwrap_or o []) c.in-Some.ensures.value in
    on_ok c.push.result
    (λ w.
    subst (λ (z : Laid). IsLaid d e (letters_laid z d e ++ l ∷ []) z new) c.self.view_is
    (subst (λ z. IsLaid d e z old new) (w ∙ ap (λ z. z ++ l ∷ []) had) wrote))
    c.push.ensures
