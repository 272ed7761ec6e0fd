-- `links_are_held_since`: its clauses `list` and `each`.
use Rattle.std.proofs.Common.{List, sym, subst}
use Rattle.std.specs.Prelude.{Contains, ◌↔◌}
use Rattle.pt_signal.specs.declared.ids.LinkId.{LinkId}
use Rattle.pt_events.specs.History.{life, at_start}
use Rattle.pt_laws.specs.Since.{StandsSince}
use Rattle.pt_laws.specs.Words.{ids_with, link_enters, link_leaves}
use Rattle.pt_laws.proofs.linking.LinksSince.{held_since}
use Rattle.pt_laws.proofs.living.Since.{stands_since}
use Rattle.pt_laws.proofs.laws.links_are_held_since.Goals as goal

pub returns-clause-list : goal.returns-clause-list
returns-clause-list c start past p q h ok = held_since start ok p q past h

pub returns-clause-each : goal.returns-clause-each
returns-clause-each c start past p q i h ok =
    subst
    (λ (xs : List LinkId). Contains xs i ↔ StandsSince (ids_with (at_start start p) q) (λ before. link_enters p q (life start before p)) (λ before. link_leaves p q (life start before p)) past i)
    (sym (held_since start ok p q past h))
    (stands_since (ids_with (at_start start p) q) (λ before. link_enters p q (life start before p)) (λ before. link_leaves p q (life start before p)) past i)
