-- In a quiet history the links of a live process stand at both ends, or, where the other is not alive, at neither.
use Rattle.std.proofs.Common.{◌≡◌, ℕ, ◌+◌, Bool, true, false, ◌&&◌, List, [], ◌∷◌, ◌++◌, Option, Some, None, refl, sym, ap, ◌∙◌, subst, arith}
use Rattle.std.proofs.lemmas.Bool.{true≢false, false≢true, both_ways, and_parts}
use Rattle.pt_signal.specs.declared.pid.Pid.{Pid}
use Rattle.pt_signal.specs.declared.ids.Ids.{Ids}
use Rattle.pt_signal.specs.declared.ids.LinkId.{LinkId}
use Rattle.pt_events.specs.declared.event.Event.{Event}
use Rattle.pt_events.specs.declared.event.Event.TheVariants.{Born, Said}
use Rattle.pt_events.specs.declared.event.Stamped.{Stamped}
use Rattle.pt_signal.specs.Values.{same_pid}
use Rattle.pt_signal.specs.Process.{held}
use Rattle.pt_events.specs.History.{Past, Start, Phase, unborn, living, ended, life, state_of, alive, is_living, is_unborn, made_link, IsLegal}
use Rattle.pt_events.specs.Counting.{one_if}
use Rattle.pt_laws.specs.Load.{IsQuiet}
use Rattle.pt_laws.specs.Watch.{said_to}
use Rattle.pt_laws.specs.Links.{is_link, holds_id, IsKnownSaid, IsBornHome, IsNewTie, IsBornFree, LinksAgree}
use Rattle.pt_events.specs.Journal.{Journals, events, of_desk, IsOf, IsHome, IsKnown, IsLocal, IsMerge}
use Rattle.pt_laws.specs.Resumed.{AllNewTo, IsLeftBy}
use Rattle.pt_signal.proofs.Same.{same_pid_is}
use Rattle.pt_events.proofs.Local.{AllHome}
use Rattle.pt_events.proofs.Homes.{life_home}
use Rattle.pt_events.proofs.Telling.{AllLocal, head_local, tail_local, all_home}
use Rattle.pt_laws.proofs.living.Resumed.{known, over_alive, over_unborn, over_living, over_flying, over_legal}
use Rattle.pt_events.proofs.Phases.{was_unborn}
use Rattle.pt_laws.proofs.linking.Takings.{has, empty_entry}
use Rattle.pt_laws.proofs.linking.Sides.{before, here, over}
use Rattle.pt_laws.proofs.linking.Bonds.{Bond}
use Rattle.pt_laws.proofs.linking.Between.{parts, seen}
use Rattle.pt_laws.proofs.linking.Linked.{bonds, made_by}

holds_has : (o : Option Ids) (i : LinkId) → holds_id o i ≡ has i o
holds_has None i = refl
holds_has (Some ids) i = refl

-- a bond with nothing on the way
module _ (made mine theirs : LinkId → Bool) (o : Option Ids) where
  with_live : (w : Option Ids) → Bond made mine theirs (here o) (here w) [] [] → (i : LinkId) → holds_id o i ≡ holds_id w i
  with_live w b i = holds_has o i ∙ sym ((b.whole refl refl).same i) ∙ sym (holds_has w i)

  with_unborn : Bond made mine theirs (here o) before [] [] → o ≡ None
  with_unborn b = empty_entry o (λ i. sym ((b.whole refl refl).same i))

  with_ended : Bond made mine theirs (here o) over [] [] → o ≡ None
  with_ended b = empty_entry o (λ i. go i (has i o) refl)
    where
      go : (i : LinkId) (c : Bool) → has i o ≡ c → has i o ≡ false
      go i true e = let z = b.gone_there refl refl i e in absurd (omega arith)
      go i false e = e

-- the two phases of a quiet pair
agreed : (made mine theirs : LinkId → Bool) (p q : Pid) (f g : Phase) → Bond made mine theirs (seen q f) (seen p g) [] [] → is_living f ≡ true
    → (is_living g ≡ true → (i : LinkId) → holds_id (held (state_of f).links q) i ≡ holds_id (held (state_of g).links p) i)
    × (is_living g ≡ false → held (state_of f).links q ≡ None)
agreed made mine theirs p q unborn g b h = absurd (false≢true h)
agreed made mine theirs p q (ended r s) g b h = absurd (false≢true h)
agreed made mine theirs p q (living s) unborn b h = (λ k. absurd (false≢true k), λ k. with_unborn made mine theirs (held s.links q) b)
agreed made mine theirs p q (living s) (living t) b h =
    (λ k. with_live made mine theirs (held s.links q) (held t.links p) b, λ k. absurd (true≢false k))
agreed made mine theirs p q (living s) (ended r t) b h = (λ k. absurd (false≢true k), λ k. with_ended made mine theirs (held s.links q) b)

pub links_agree : (past : Past) → IsLegal [] past → IsQuiet [] past → IsBornFree past → (p q : Pid) → same_pid p q ≡ false
    → alive [] past p ≡ true → LinksAgree [] past p q
links_agree past legal quiet free p q n lives =
    agreed (made_link past) (made_by p q past) (made_by q p past) p q (life [] past p) (life [] past q)
    (subst (λ z. Bond (made_link past) (made_by p q past) (made_by q p past) (seen q (life [] past p)) (seen p (life [] past q))
    (parts p q z) (parts q p z)) quiet (bonds past legal free p q n)) lives

-- the premise --------------------------------------------------------------------------------------

-- to a pid of its own desk that is not born nothing was said
unsaid : (start : Start) (a c : Pid) → c.shard ≡ a.shard → (past : Past) → IsKnownSaid start past → is_unborn (life start past c) ≡ true
    → said_to a c is_link past ≡ 0
unsaid start a c e [] k u = refl
unsaid start a c e (Said b d x ∷ past) k u = go (same_pid a b && same_pid c d) refl (unsaid start a c e past k.1 before_it)
  where
    before_it : is_unborn (life start past c) ≡ true
    before_it = was_unborn c (Said b d x) (life start past c) u

    go : (t : Bool) → (same_pid a b && same_pid c d) ≡ t → said_to a c is_link past ≡ 0
        → said_to a c is_link past + one_if ((same_pid a b && same_pid c d) && is_link x) ≡ 0
    go true f ih =
        let q = and_parts (same_pid a b) (same_pid c d) f in
        let e1 = same_pid_is a b q.0 in let e2 = same_pid_is c d q.1 in
        let v : d.shard ≡ b.shard = sym (ap (λ z. z.shard) e2) ∙ e ∙ ap (λ z. z.shard) e1 in
        absurd (both_ways _ (k.0 v) (subst (λ z. is_unborn (life start past z) ≡ true) e2 before_it))
    go false f ih = rw f (omega arith)
unsaid start a c e (ev ∷ past) k u = let ih = unsaid start a c e past k (was_unborn c ev (life start past c) u) in omega arith

module _ (start : Start) where
  pub born_free : (past : Past) → IsLegal start past → IsKnownSaid start past → IsBornHome past → IsBornFree past
  born_free [] h k b = tt
  born_free (Born c parent link ∷ past) h k b = (first_tie parent link b.0, born_free past h.1 k b.1)
    where
      first_tie : (parent : Option Pid) (link : Option LinkId) → IsOf c.shard parent → IsNewTie past c parent link
      first_tie None None o = tt
      first_tie None (Some i) o = tt
      first_tie (Some a) None o = tt
      first_tie (Some a) (Some i) o = unsaid start a c (sym o) past k (ap is_unborn h.0.0)
  born_free (Said a d x ∷ past) h k b = born_free past h.1 k.1 b
  born_free (_ ∷ past) h k b = born_free past h.1 k b

  module _ (low top : ℕ) where
    -- each desk's events of a merge are its journal
    pub all_local : (journal : Journals) (merged : List Stamped)
        → ((d : ℕ) → IsLocal start low top d (journal d)) → IsMerge journal merged → AllLocal start low top merged
    all_local journal merged local m d = subst (IsLocal start low top d) (sym (m.1 d)) (local d)

    -- a merge of local journals meets it
    pub merge_known : (merged : List Stamped) → AllLocal start low top merged → IsKnownSaid start (events merged)
    merge_known [] h = tt
    merge_known (s ∷ merged) h =
        step s.event (head_local start low top s merged h).home (head_local start low top s merged h).known
        (merge_known merged (tail_local start low top s merged h))
      where
        homes : AllHome merged
        homes = all_home start low top merged (tail_local start low top s merged h)

        step : (ev : Event) → IsHome s.desk ev → IsKnown start s.desk top (events (of_desk s.desk merged)) ev
            → IsKnownSaid start (events merged) → IsKnownSaid start (ev ∷ events merged)
        step (Said a b x) i k ih = (λ e. let f : b.shard ≡ s.desk = e ∙ i in ap is_unborn (sym (life_home start b s.desk merged f homes)) ∙ k f, ih)
        step _ i k ih = ih

    pub merge_home : (merged : List Stamped) → AllLocal start low top merged → IsBornHome (events merged)
    merge_home [] h = tt
    merge_home (s ∷ merged) h = step s.event (head_local start low top s merged h).home (merge_home merged (tail_local start low top s merged h))
      where
        of_home : (p : Pid) (q : Option Pid) → p.shard ≡ s.desk → IsOf s.desk q → IsOf p.shard q
        of_home p None e f = tt
        of_home p (Some q) e f = f ∙ sym e

        step : (ev : Event) → IsHome s.desk ev → IsBornHome (events merged) → IsBornHome (ev ∷ events merged)
        step (Born p q l) i ih = (of_home p q i.0 i.1, ih)
        step _ i ih = ih

-- a history over the state of another --------------------------------------------------------------

pub home_joined : (new old : Past) → IsBornHome new → IsBornHome old → IsBornHome (new ++ old)
home_joined [] old h k = k
home_joined (Born p q l ∷ new) old h k = (h.0, home_joined new old h.1 k)
home_joined (_ ∷ new) old h k = home_joined new old h k

module _ (start : Start) (old : Past) (left : IsLeftBy start old) where
  pub known_joined : (new : Past) → IsKnownSaid start new → IsKnownSaid [] old → IsKnownSaid [] (new ++ old)
  known_joined [] h k = k
  known_joined (Said a b x ∷ new) h k = (λ e. sym (over_unborn [] start old (known start old left) new b) ∙ h.0 e, known_joined new h.1 k)
  known_joined (_ ∷ new) h k = known_joined new h k

  pub links_over : (new : Past) → IsKnownSaid [] old → IsBornHome old → AllNewTo old new → IsLegal start new
      → IsQuiet start new
      → IsKnownSaid start new → IsBornHome new → (p q : Pid) → same_pid p q ≡ false
      → alive start new p ≡ true → LinksAgree start new p q
  links_over new k b fresh_ids l s k2 b2 p q n lives =
      let joined = over_legal [] start old left.legal left.quiet (known start old left) new fresh_ids l in
      let free = born_free [] (new ++ old) joined (known_joined new k2 k) (home_joined new old b2 b) in
      let law = links_agree (new ++ old) joined (sym (over_flying [] start old left.legal left.quiet (known start old left) new) ∙ s) free p q n
      (sym (over_alive [] start old (known start old left) new p) ∙ lives) in
      let same = over_living [] start old (known start old left) new p lives in (
        λ h i. ap (λ f. holds_id (held (state_of f).links q) i) same ∙ law.0 (sym (over_alive [] start old (known start old left) new q) ∙ h) i
            ∙ ap (λ f. holds_id (held (state_of f).links p) i) (sym (over_living [] start old (known start old left) new q h)),
        λ h. ap (λ f. held (state_of f).links q) same ∙ law.1 (sym (over_alive [] start old (known start old left) new q) ∙ h),
      )
