-- Desks that go on, and what stays so there of the processes that a behaviour does not act for.
use Rattle.std.proofs.Common.{◌≡◌, true, false, cond, List, [], ◌∷◌, ◌++◌, refl, sym, ap, subst, ◌∙◌, append_assoc}
use Rattle.pt_signal.specs.declared.pid.Pid.{Pid}
use Rattle.pt_signal.specs.declared.letter.Letter.{Letter}
use Rattle.pt_signal.specs.Values.{same_pid}
use Rattle.pt_signal.proofs.Same.{same_pid_refl, same_pid_is}
use Rattle.pt_events.specs.declared.event.Event.{Event}
use Rattle.pt_events.specs.declared.event.Stamped.{Stamped}
use Rattle.pt_events.specs.History.{Phase, unborn, living, ended, is_unborn, is_living, change, life, touches}
use Rattle.pt_events.specs.Journal.{events}
use Rattle.pt_events.proofs.Phases.{after_born}
use Rattle.pt_shard.specs.ShardState.{ShardState, phase_of, shard_after, handled}
use Rattle.pt_shard.specs.Extends.{Extends}
use Rattle.pt_behaviour.specs.declared.births.Role.{Role}
use Rattle.pt_behaviour.specs.Upholding.{Relation, IsLater, IsLeftAlone, ActsFor, AllFirst, child_by, children_by}
use Rattle.pt_behaviour.proofs.Cases.{by_cases}

-- desks that go on --------------------------------------------------------------------------

pub later_same : (d e : ShardState) → e.start ≡ d.start → e.journal ≡ d.journal → IsLater d e
later_same d e start journal = record { start = start; more = []; journal = journal }

pub later_is : (d e : ShardState) → e ≡ d → IsLater d e
later_is d e is = later_same d e (ap (λ (x : ShardState). x.start) is) (ap (λ (x : ShardState). x.journal) is)

pub later_then : (d f e : ShardState) → IsLater d f → IsLater f e → IsLater d e
later_then d f e a b = record {
  start = b.start ∙ a.start;
  more = b.more ++ a.more;
  journal = b.journal ∙ ap (λ j. b.more ++ j) a.journal ∙ sym (append_assoc b.more a.more d.journal);
}

pub extends_later : (d e : ShardState) → Extends d e → IsLater d e
extends_later d e x = record { start = x.start; more = x.more; journal = x.journal }

born_on : (start : _) (p : Pid) (more seen : List Stamped) → is_unborn (life start (events seen) p) ≡ false → is_unborn (life start (events (more ++ seen)) p) ≡ false
born_on start p [] seen h = h
born_on start p (s ∷ more) seen h = after_born p s.event (life start (events (more ++ seen)) p) (born_on start p more seen h)

-- who was born stays so
pub born_then : (d e : ShardState) → IsLater d e → (p : Pid) → is_unborn (phase_of d p) ≡ false → is_unborn (phase_of e p) ≡ false
born_then d e x p h =
    subst (λ (t : _). is_unborn (life t (events e.journal) p) ≡ false) (sym x.start)
    (subst (λ (j : List Stamped). is_unborn (life d.start (events j) p) ≡ false) (sym x.journal) (born_on d.start p x.more d.journal h))

pub phase_same : (d e : ShardState) → e.start ≡ d.start → e.journal ≡ d.journal → (p : Pid) → phase_of e p ≡ phase_of d p
phase_same d e start journal p i = life (start i) (events (journal i)) p

pub phase_is : (d e : ShardState) → e ≡ d → (p : Pid) → phase_of e p ≡ phase_of d p
phase_is d e is p i = phase_of (is i) p

pub alone_same : (d e : ShardState) → e.start ≡ d.start → e.journal ≡ d.journal → (p : Pid) → IsLeftAlone p d e
alone_same d e start journal p = (phase_same d e start journal p, ap (children_by p) journal)

pub alone_is : (d e : ShardState) → e ≡ d → (p : Pid) → IsLeftAlone p d e
alone_is d e is p = (phase_is d e is p, ap (λ (x : ShardState). children_by p x.journal) is)

pub alone_then : (p : Pid) (d f e : ShardState) → IsLeftAlone p d f → IsLeftAlone p f e → IsLeftAlone p d e
alone_then p d f e a b = (b.0 ∙ a.0, b.1 ∙ a.1)

pub acts_is : (p : Pid) (d e : ShardState) → e ≡ d → ActsFor p d e
acts_is p d e is q other born = alone_is d e is q

pub acts_then : (p : Pid) (d f e : ShardState) → IsLater d f → ActsFor p d f → ActsFor p f e → ActsFor p d e
acts_then p d f e x a b q other born = alone_then q d f e (a q other born) (b q other (born_then d f x q born))

-- an event that does not touch a process leaves it as it is
pub untouched : (e : Event) (d : ShardState) (q : Pid) → touches q e ≡ false → phase_of (shard_after e d) q ≡ phase_of d q
untouched e d q none i = cond (none i) (change q e (phase_of d q)) (phase_of d q)

pub alone_event : (e : Event) (d : ShardState) (q : Pid) → touches q e ≡ false → child_by q e ≡ [] → IsLeftAlone q d (shard_after e d)
alone_event e d q none bare = (untouched e d q none, ap (λ (qs : List Pid). qs ++ children_by q d.journal) bare)

pub same_pid_sym : (p q : Pid) → same_pid p q ≡ false → same_pid q p ≡ false
same_pid_sym p q other = by_cases (same_pid q p) (λ same. let is = same_pid_is q p same in let back : same_pid p q ≡ true = ap (λ (x : Pid). same_pid x q) (sym is) ∙ same_pid_refl q in absurd (cc)) (λ no. no)

pub later_after : (e : Event) (d : ShardState) → IsLater d (shard_after e d)
later_after e d = record { start = refl; more = _ ∷ []; journal = refl }

pub later_handled : (l : Letter) (d : ShardState) → IsLater d (handled l d)
later_handled l d = record { start = refl; more = _ ∷ []; journal = refl }

pub living_born : (f : Phase) → is_living f ≡ true → is_unborn f ≡ false
living_born unborn h = absurd (cc)
living_born (living s) h = refl
living_born (ended r s) h = refl

-- lists of those who are born -----------------------------------------------------------------

module _ {B : Type 0} (stands : Relation B) where
  pub first_both : (xs ys : List (Role B)) → AllFirst stands xs → AllFirst stands ys → AllFirst stands (xs ++ ys)
  first_both [] ys a b = b
  first_both (r ∷ xs) ys a b = (a.0, first_both xs ys a.1 b)

  pub first_front : (xs ys : List (Role B)) → AllFirst stands (xs ++ ys) → AllFirst stands xs
  first_front [] ys a = tt
  first_front (r ∷ xs) ys a = (a.0, first_front xs ys a.1)

  pub first_back : (xs ys : List (Role B)) → AllFirst stands (xs ++ ys) → AllFirst stands ys
  first_back [] ys a = a
  first_back (r ∷ xs) ys a = first_back xs ys a.1
