-- `merge_links`: its contract.
use Rattle.std.proofs.Common.{ℕ, [], sym, subst₂}
use Rattle.pt_events.specs.Journal.{Agrees, posts, gots, of_desk, events}
use Rattle.pt_laws.proofs.Merged.{merged_legal, merged_refusals}
use Rattle.pt_laws.proofs.linking.Agreed.{all_local, born_free, merge_known, merge_home, links_agree}
use Rattle.pt_laws.proofs.links.merge_links.Goals as goal

pub returns : goal.returns
returns c low top journal over merged p q local agree true_all m quiet apart lives =
    let each = all_local [] low top journal merged local m in
    let lanes : (d e : ℕ) → Agrees (posts [] (of_desk d merged) e) (gots (of_desk e merged) d) (over d e) =
    λ d e. subst₂ (λ x y. Agrees (posts [] x e) (gots y d) (over d e)) (sym (m.1 d)) (sym (m.1 e)) (agree d e) in
    let legal = (merged_legal [] low top merged over m.0 each lanes (merged_refusals [] low top journal merged m true_all)).legal in
    let free = born_free [] (events merged) legal (merge_known [] low top merged each) (merge_home [] low top merged each) in
    links_agree (events merged) legal quiet free p q apart lives
