-- `resumed_links`: its clauses `over`, `merge` and `again`.
use Rattle.std.proofs.Common.{ℕ, sym, subst₂}
use Rattle.pt_events.specs.Journal.{Agrees, posts, gots, of_desk, events}
use Rattle.pt_laws.proofs.Merged.{merged_legal, merged_refusals}
use Rattle.pt_laws.proofs.living.NewIds.{stamps_are_new}
use Rattle.pt_laws.proofs.linking.Agreed.{all_local, merge_known, merge_home, home_joined, known_joined, links_over}
use Rattle.pt_laws.proofs.links.resumed_links.Goals as goal

pub returns-clause-over : goal.returns-clause-over
returns-clause-over c start old past p q left known born fresh legal quiet known2 born2 apart lives =
    links_over start old left past known born fresh legal quiet known2 born2 p q apart lives

pub returns-clause-merge : goal.returns-clause-merge
returns-clause-merge c start old low top journal over merged p q left known born up local agree true_all m quiet apart lives =
    let each = all_local start low top journal merged local m in
    let lanes : (d e : ℕ) → Agrees (posts start (of_desk d merged) e) (gots (of_desk e merged) d) (over d e) =
    λ d e. subst₂ (λ x y. Agrees (posts start x e) (gots y d) (over d e)) (sym (m.1 d)) (sym (m.1 e)) (agree d e) in
    let legal = (merged_legal start low top merged over m.0 each lanes (merged_refusals start low top journal merged m true_all)).legal in
    let fresh = stamps_are_new start low top journal merged old up local m in
    links_over start old left (events merged) known born fresh legal quiet (merge_known start low top merged each) (merge_home start low top merged each) p q apart lives

pub returns-clause-again : goal.returns-clause-again
returns-clause-again c start old past left known born known2 born2 = (known_joined start old left past known2 known, home_joined past old born2 born)
