-- `each_is_held_since`: its contract.
use Rattle.std.proofs.Common.{◌≡◌, Bool, List, [], sym, subst}
use Rattle.std.specs.Prelude.{Contains, ◌↔◌}
use Rattle.pt_events.specs.declared.event.Event.{Event}
use Rattle.pt_events.specs.History.{Past, life, at_start, state}
use Rattle.pt_laws.specs.Since.{standing, StandsSince}
use Rattle.pt_laws.specs.Words.{ids_with, link_enters, link_leaves, watch_enters, watch_leaves}
use Rattle.pt_laws.proofs.linking.LinksSince.{held_since}
use Rattle.pt_laws.proofs.living.Acts.{legal_acts}
use Rattle.pt_laws.proofs.living.Since.{stands_since}
use Rattle.pt_laws.proofs.monitoring.WatchesSince.{kept_since}
use Rattle.pt_laws.proofs.laws.each_is_held_since.Goals as goal

-- what is in such a list stands since it was made
each : {X : Type 0} (first : List X) (makes : Past → Event → List X) (undoes : Past → Event → X → Bool) (past : Past) (x : X) (list : List X) → list ≡ standing first makes undoes past
    → Contains list x ↔ StandsSince first makes undoes past x
each first makes undoes past x list is = subst (λ xs. Contains xs x ↔ StandsSince first makes undoes past x) (sym is) (stands_since first makes undoes past x)

pub returns : goal.returns
returns c start past p legal entries kept =
    let watches = kept_since start kept p past in
    record {
      ids = λ q. held_since start entries p q past (legal_acts start past legal);
      each_id = λ q i. each (ids_with (at_start start p) q) (λ before. link_enters p q (life start before p)) (λ before. link_leaves p q (life start before p)) past i (ids_with (life start past p) q) (held_since start entries p q past (legal_acts start past legal));
      watches = watches;
      each_watch = λ w m. each (state start [] p).kept (λ before. watch_enters p (life start before p)) (λ before. watch_leaves p (life start before p)) past (m, w) (state start past p).kept watches;
    }
