-- A journal tells of its pids what every merge does.
use Rattle.std.proofs.Common.{◌≡◌, ℕ, Bool, true, false, cond, ◌==◌, List, [], ◌∷◌, ◌++◌, refl, sym, ap, ◌∙◌, subst, append-nil}
use Rattle.std.proofs.lemmas.Bool.{eq-eqb}
use Rattle.pt_signal.specs.declared.pid.Pid.{Pid}
use Rattle.pt_events.specs.declared.event.Event.{Event}
use Rattle.pt_events.specs.declared.event.Event.TheVariants.{Took}
use Rattle.pt_events.specs.declared.event.Stamped.{Stamped}
use Rattle.pt_events.specs.History.{Start, life, arrived, state_of, at_start, sent_by, touches}
use Rattle.pt_events.specs.Journal.{IsLocal, IsNext, IsHome, events, of_desk}
use Rattle.pt_events.specs.Locality.{AllHome, ReadLocally, JournalsSay}
use Rattle.pt_events.specs.Takes.{taken, taken_by}
use Rattle.pt_events.proofs.Local.{home_untouched, life_local, arrived_local}
use Rattle.pt_events.proofs.Homes.{sent_home}

-- the journals of a merge -----------------------------------------------------------------------

module _ (start : Start) (low top : ℕ) where
  -- each desk's events are a local journal
  abbrev pub AllLocal : List Stamped → Type 0
  AllLocal merged = (d : ℕ) → IsLocal start low top d (of_desk d merged)

  pub head_local : (s : Stamped) (merged : List Stamped) → AllLocal (s ∷ merged) → IsNext start low top s.desk (of_desk s.desk merged) s
  head_local s merged h = (subst (λ c. IsLocal start low top s.desk (cond c (s ∷ of_desk s.desk merged) (of_desk s.desk merged))) (eq-eqb s.desk s.desk refl) (h s.desk)).0

  pub tail_local : (s : Stamped) (merged : List Stamped) → AllLocal (s ∷ merged) → AllLocal merged
  tail_local s merged h d = go (s.desk == d) refl (h d)
    where
      go : (b : Bool) → (s.desk == d) ≡ b → IsLocal start low top d (of_desk d (s ∷ merged)) → IsLocal start low top d (of_desk d merged)
      go true e k = (subst (λ c. IsLocal start low top d (cond c (s ∷ of_desk d merged) (of_desk d merged))) e k).1
      go false e k = subst (λ c. IsLocal start low top d (cond c (s ∷ of_desk d merged) (of_desk d merged))) e k

  pub all_home : (merged : List Stamped) → AllLocal merged → AllHome merged
  all_home [] h = tt
  all_home (s ∷ merged) h = ((head_local s merged h).home, all_home merged (tail_local s merged h))

-- what they say --------------------------------------------------------------------------------

untaken : (p : Pid) (e : Event) → touches p e ≡ false → taken_by p e ≡ []
untaken p (Took q k i) h = rw h refl
untaken p _ h = refl

taken_local : (p : Pid) (merged : List Stamped) → AllHome merged → taken (events (of_desk p.shard merged)) p ≡ taken (events merged) p
taken_local p [] h = refl
taken_local p (s ∷ merged) h = go (s.desk == p.shard) refl (taken_local p merged h.1)
  where
    go : (b : Bool) → (s.desk == p.shard) ≡ b → taken (events (of_desk p.shard merged)) p ≡ taken (events merged) p
        → taken (events (of_desk p.shard (s ∷ merged))) p ≡ taken (events (s ∷ merged)) p
    go true e ih = rw e (ap (λ z. z ++ taken_by p s.event) ih)
    go false e ih = rw (e, untaken p s.event (home_untouched s.desk p s.event h.0 e)) (ih ∙ sym (append-nil _))

pub reads : ReadLocally
reads start merged p h = (life_local start p merged h, ap (λ z. (state_of (at_start start p)).waiting ++ z) (arrived_local start p merged h), taken_local p merged h)

pub says : JournalsSay
says start low top journal merged p l m =
    let homes = all_home start low top merged (λ d. subst (IsLocal start low top d) (sym (m.1 d)) (l d)) in
    let h = reads start merged p homes in
    subst
    (λ (j : List Stamped). (life start (events j) p ≡ life start (events merged) p) × (arrived start (events j) p ≡ arrived start (events merged) p)
    × (taken (events j) p ≡ taken (events merged) p)
    × ((e : Event) → IsHome p.shard e → sent_by start (events j) e ≡ sent_by start (events merged) e)) (m.1 p.shard)
    (h.0, h.1, h.2, λ e k. sent_home start p.shard merged e k homes)
