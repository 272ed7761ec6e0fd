-- `merge_is_legal`: its contract.
use Rattle.std.proofs.Common.{sym, subst, subst₂}
use Rattle.pt_events.specs.Journal.{IsLocal, Agrees, posts, gots}
use Rattle.pt_laws.proofs.Merged.{merged_legal, merged_refusals}
use Rattle.pt_laws.proofs.laws.merge_is_legal.Goals as goal

pub returns : goal.returns
returns c start low top journal over merged l a true_all m =
    let h = merged_legal start low top merged over m.0 (λ d. subst (IsLocal start low top d) (sym (m.1 d)) (l d))
    (λ d e. subst₂ (λ x y. Agrees (posts start x e) (gots y d) (over d e)) (sym (m.1 d)) (sym (m.1 e)) (a d e)) (merged_refusals start low top journal merged m true_all) in
    (h.legal, h.flies)
