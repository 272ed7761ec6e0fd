-- What a supervisor upholds it upholds on its desk that was resumed, where what happened is before the journal.
use Rattle.std.proofs.Common.{◌≡◌, ◌⊎◌, inl, inr, ℕ, Bool, true, false, cond, ◌==◌, List, [], ◌∷◌, ◌++◌, take, Option, Some, None, refl, sym, ap, subst, ◌∙◌}
use Rattle.std.specs.List.{flat_map, list_any}
use Rattle.std.proofs.lemmas.Bool.{eq-eqb}
use Rattle.std.proofs.lemmas.Grind.{flat_map-append}
use Rattle.std.proofs.lemmas.List.Folds.{list_any-append}
use Rattle.pt_signal.specs.declared.pid.Pid.{Pid}
use Rattle.pt_signal.specs.Values.{same_pid}
use Rattle.pt_signal.proofs.Same.{same_pid_is}
use Rattle.pt_events.specs.declared.event.Event.{Event}
use Rattle.pt_events.specs.declared.event.Event.TheVariants.{Born}
use Rattle.pt_events.specs.declared.event.Stamped.{Stamped}
use Rattle.pt_events.specs.History.{Past, Phase, unborn, living, ended, is_unborn, is_living, state_of}
use Rattle.pt_events.specs.Journal.{IsHome, events, of_desk}
use Rattle.pt_events.specs.Leaving.{outcome}
use Rattle.pt_events.specs.Locality.{AllHome}
use Rattle.pt_shard.specs.ShardState.{ShardState, phase_of, lives}
use Rattle.pt_behaviour.specs.declared.behaviour.Next.{Next}
use Rattle.pt_behaviour.specs.declared.behaviour.Next.TheVariants.{Proceed}
use Rattle.pt_behaviour.specs.Upholding.{child_by, children_by}
use Rattle.pt_behaviour.proofs.Cases.{by_cases}
use Rattle.pt_children.specs.Children.{NoneLives}
use Rattle.pt_children.specs.Hearing.{Standing}
use Rattle.pt_supervisor.specs.Keeping.{IsReady, all_children, Remembers, Holds, HoldsAs}
use Rattle.pt_children.specs.Families.{is_cut, all_events, IsTied, IsHeld, Family, tells_end, has_told, WereTold, IsPlaced, AreAsked, IsWatched, bids_to}
use Rattle.pt_children.proofs.Tying.{or_left, or_right}
use Rattle.pt_pauses.proofs.Stopping.{any_both, any_events, any_filter}

-- phases that were left behind ------------------------------------------------------------------

pub still_born : (f : Phase) → is_unborn (outcome f) ≡ is_unborn f
still_born unborn = refl
still_born (living s) = refl
still_born (ended r s) = refl

still_living : (f : Phase) → is_living (outcome f) ≡ true → outcome f ≡ f
still_living unborn h = absurd (cc)
still_living (living s) h = refl
still_living (ended r s) h = absurd (cc)

-- the events of other desks bear it no child ----------------------------------------------------

none_of_other : (p : Pid) (d : ℕ) (e : Event) → IsHome d e → (d == p.shard) ≡ false → child_by p e ≡ []
none_of_other p d (Born q (Some a) link) home other = by_cases (same_pid p a)
    (λ same.
    let here : d ≡ p.shard = sym home.1 ∙ sym (ap (λ (x : Pid). x.shard) (same_pid_is p a same)) in
    absurd (let bad : false ≡ true = sym other ∙ eq-eqb d p.shard here in cc))
    (λ no. ap (λ (b : Bool). cond b (q ∷ []) []) no)
none_of_other p d (Born q None link) home other = refl
none_of_other p d _ home other = refl

pub borne_merged : (p : Pid) (merged : List Stamped) → AllHome merged → flat_map (child_by p) (events merged) ≡ children_by p (of_desk p.shard merged)
borne_merged p [] home = refl
borne_merged p (s ∷ merged) home = by_cases (s.desk == p.shard)
    (λ here. ap (λ (qs : List Pid). child_by p s.event ++ qs) (borne_merged p merged home.1) ∙ sym (ap (λ (b : Bool). children_by p (cond b (s ∷ of_desk p.shard merged) (of_desk p.shard merged))) here))
    (λ other. ap (λ (qs : List Pid). qs ++ flat_map (child_by p) (events merged)) (none_of_other p s.desk s.event home.0 other) ∙ borne_merged p merged home.1
    ∙ sym (ap (λ (b : Bool). children_by p (cond b (s ∷ of_desk p.shard merged) (of_desk p.shard merged))) other))

-- d is the desk as it was settled, and e the desk that goes on from it ----------------------------

module _ (past : Past) (merged : List Stamped) (me : Pid) (d e : ShardState) (bare : e.journal ≡ []) (home : AllHome merged) (journal : of_desk me.shard merged ≡ d.journal)
    (phases : (q : Pid) → q.shard ≡ me.shard → phase_of e q ≡ outcome (phase_of d q)) (own : (q : Pid) → is_unborn (phase_of d q) ≡ false → q.shard ≡ me.shard) (were : WereTold past me d.start) where
  abbrev then : Past
  then = events merged ++ past

  all_then : all_events then e ≡ then
  all_then = ap (λ (j : List Stamped). events j ++ then) bare

  any_then : (test : Event → Bool) → list_any test (all_events past d) ≡ true → list_any test (all_events then e) ≡ true
  any_then test any = ap (list_any test) all_then ∙ (list_any-append test (events merged) past ∙ elim (any_both test (events d.journal) past any) [
    | inl since ↦ or_left (list_any test (events merged)) (list_any test past)
        (any_events test merged ∙ any_filter (λ (s : Stamped). test s.event) _ merged
        (ap (list_any (λ (s : Stamped). test s.event)) journal ∙ (sym (any_events test d.journal) ∙ since)))
    | inr before ↦ or_right (list_any test (events merged)) (list_any test past) before
  ])

  bore_then : all_children then me e ≡ all_children past me d
  bore_then =
      ap (λ (j : List Stamped). children_by me j ++ flat_map (child_by me) then) bare
      ∙ flat_map-append (child_by me) (events merged) past
      ∙ ap (λ (qs : List Pid). qs ++ flat_map (child_by me) past) (borne_merged me merged home ∙ ap (children_by me) journal)

  remembers_then : (s : Standing) → Remembers past s.children s.started me d → Remembers then s.children s.started me e
  remembers_then s r told q was = go (r were q (ap (λ (qs : List Pid). list_any (same_pid q) (take s.started qs)) (sym bore_then) ∙ was))
    where
      go : IsPlaced s.children q ⊎ (has_told me q (all_events past d) ≡ true) → IsPlaced s.children q ⊎ (has_told me q (all_events then e) ≡ true)
      go (inl placed) = inl placed
      go (inr what) = inr (any_then (tells_end me q) what)

  born_then : (q : Pid) → is_unborn (phase_of d q) ≡ false → is_unborn (phase_of e q) ≡ false
  born_then q born = ap is_unborn (phases q (own q born)) ∙ (still_born (phase_of d q) ∙ born)

  family_then : (s : Standing) → phase_of e me ≡ phase_of d me → Family past s.children s.stopping me d → Family then s.children s.stopping me e
  family_then s same f = record {
    born = λ place q is near. born_then q (f.born place q is near);
    apart = f.apart;
    held = λ none place q is. go q (f.held none place q is);
  }
    where
      go : (q : Pid) → IsHeld past me q d → IsHeld then me q e
      go q (inl tied) = inl (subst (λ (x : Phase). IsTied (state_of x) q) (sym same) tied)
      go q (inr cut) = inr (any_then (is_cut me q) cut)

  asks_then : (s : Standing) → phase_of e me ≡ phase_of d me → AreAsked past s.children s.asked me d → AreAsked then s.children s.asked me e
  asks_then s same h a is placed =
      let k = h a is placed in
      record {
        watched = λ m by. subst (λ (x : Phase). IsWatched (state_of x) m a.pid) (sym same) (k.watched m by);
        told = λ r told. any_then (bids_to me a.pid r) (k.told r told);
        gone = λ gone. any_then (tells_end me a.pid) (k.gone gone);
      }

  pub holds_then : (o : Option Standing) (next : Next) → is_unborn (phase_of d me) ≡ false → HoldsAs past o next me d → HoldsAs then o next me e
  holds_then None next born h = tt
  holds_then (Some s) next born h = (
    λ alive. held alive,
    h.1,
    remembers_then s h.2,
    λ unborn_is. absurd (let bad : false ≡ true = sym (born_then me born) ∙ unborn_is in cc),
  )
    where
      held : lives e me ≡ true → Holds then s next me e
      held alive =
          let same : phase_of e me ≡ phase_of d me = phases me refl ∙ still_living (phase_of d me) (ap is_living (sym (phases me refl)) ∙ alive) in
          let k = h.0 (ap is_living (sym same) ∙ alive) in
          record {
            waits = k.waits;
            ready = subst (IsReady next) (sym same) k.ready;
            remembers = remembers_then s k.remembers;
            traps = subst (λ (x : Phase). ((state_of x).traps ≡ true) ⊎ ((next ≡ Proceed) × NoneLives s.children)) (sym same) k.traps;
            family = family_then s same k.family;
            asks = asks_then s same k.asks;
          }
