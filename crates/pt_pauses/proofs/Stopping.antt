-- The children of a supervisor that stopped have ended.
use Rattle.std.proofs.Common.{◌≡◌, ◌⊎◌, inl, inr, ℕ, zero, suc, Bool, true, false, cond, ◌||◌, List, [], ◌∷◌, ◌++◌, length, take, get_or, Option, Some, None, ◌<◌, refl, sym, ap, subst, ◌∙◌}
use Rattle.std.specs.Prelude.{filter}
use Rattle.std.specs.List.{flat_map, list_any}
use Rattle.std.proofs.lemmas.List.Folds.{list_any-append}
use Rattle.pt_signal.specs.declared.pid.Pid.{Pid}
use Rattle.pt_signal.specs.declared.reason.Reason.{Reason}
use Rattle.pt_signal.specs.declared.signal.Signal.{Signal}
use Rattle.pt_signal.specs.declared.signal.Signal.TheVariants.{LinkExit}
use Rattle.pt_signal.specs.Values.{same_pid}
use Rattle.pt_signal.proofs.Same.{same_pid_is}
use Rattle.pt_events.specs.declared.event.Event.{Event}
use Rattle.pt_events.specs.declared.event.Event.TheVariants.{Born, Came, Refused}
use Rattle.pt_events.specs.declared.event.Stamped.{Stamped}
use Rattle.pt_events.specs.History.{Past, Start, Phase, unborn, living, ended, at_start, is_ended, is_living, life, alive}
use Rattle.pt_events.specs.Journal.{IsHome, IsLocal, events}
use Rattle.pt_events.specs.Leaving.{outcome}
use Rattle.pt_events.specs.Forgetting.{reasonless}
use Rattle.pt_laws.specs.Laws.{MergeLegal}
use Rattle.pt_laws.specs.Links.{IsBornHome}
use Rattle.pt_laws.specs.LinkLaws.{MergeKnown}
use Rattle.pt_laws.specs.Resumed.{IsKnownAs}
use Rattle.pt_shard.specs.ShardState.{ShardState}
use Rattle.pt_gathered.specs.Gathered.{GatheredState, begins, journals}
use Rattle.pt_gathered.specs.Pasts.{GoesOnFrom}
use Rattle.pt_gathered.proofs.Lawful.{locals, legal_node}
use Rattle.pt_gathered.proofs.Told.{journal_of}
use Rattle.pt_behaviour.specs.declared.behaviour.Next.{Next}
use Rattle.pt_behaviour.specs.declared.behaviour.Next.TheVariants.{Stop}
use Rattle.pt_behaviour.specs.declared.births.Role.{Role}
use Rattle.pt_behaviour.specs.Upholding.{child_by, children_by}
use Rattle.pt_crew.specs.Upholding.{StandsStill}
use Rattle.pt_behaviour.proofs.Cases.{by_cases}
use Rattle.pt_children.specs.Hearing.{Standing}
use Rattle.pt_children.specs.Families.{tells_end, has_told, WereTold, all_events, IsPlaced}
use Rattle.pt_supervisor.specs.Keeping.{all_children, PartOf, HoldsAs, Keeps}
use Rattle.pt_pauses.specs.Stopping.{bids_end, has_bidden, IsAllBefore, StoppedChildrenEnded}
use Rattle.pt_children.proofs.Tying.{or_left, or_right}
use Rattle.pt_children.proofs.Hearing.{none_at}
use Rattle.pt_children.proofs.Telling.{new_told}
use Rattle.pt_pauses.proofs.Before.{desk_told}
use Rattle.pt_pauses.proofs.Ended.{shows_end, ended_later, ended_told}

-- lists --------------------------------------------------------------------------------------------

any_taken : (test : Pid → Bool) (n : ℕ) (xs : List Pid) → list_any test (take n xs) ≡ true → list_any test xs ≡ true
any_taken test zero [] h = absurd (cc)
any_taken test zero (x ∷ xs) h = absurd (cc)
any_taken test (suc n) [] h = h
any_taken test (suc n) (x ∷ xs) h = by_cases (test x)
    (λ t. or_left (test x) (list_any test xs) t)
    (λ f. or_right (test x) (list_any test xs) (any_taken test n xs (sym (ap (λ (b : Bool). b || list_any test (take n xs)) f) ∙ h)))

pub any_filter : (test keep : Stamped → Bool) (xs : List Stamped) → list_any test (filter keep xs) ≡ true → list_any test xs ≡ true
any_filter test keep [] h = h
any_filter test keep (x ∷ xs) h = by_cases (keep x)
    (λ is.
    let k : list_any test (x ∷ filter keep xs) ≡ true = subst (λ (b : Bool). list_any test (cond b (x ∷ filter keep xs) (filter keep xs)) ≡ true) is h in
    by_cases (test x) (λ t. or_left (test x) (list_any test xs) t)
    (λ f. or_right (test x) (list_any test xs) (any_filter test keep xs (sym (ap (λ (b : Bool). b || list_any test (filter keep xs)) f) ∙ k))))
    (λ no. or_right (test x) (list_any test xs) (any_filter test keep xs (subst (λ (b : Bool). list_any test (cond b (x ∷ filter keep xs) (filter keep xs)) ≡ true) no h)))

pub any_events : (test : Event → Bool) (xs : List Stamped) → list_any test (events xs) ≡ list_any (λ (s : Stamped). test s.event) xs
any_events test [] = refl
any_events test (x ∷ xs) = ap (λ (b : Bool). test x.event || b) (any_events test xs)

pub any_both : {X : Type 0} (test : X → Bool) (xs ys : List X) → list_any test (xs ++ ys) ≡ true → (list_any test xs ≡ true) ⊎ (list_any test ys ≡ true)
any_both test xs ys h = by_cases (list_any test xs)
    (λ t. inl t)
    (λ f. inr (sym (ap (λ (b : Bool). b || list_any test ys) f) ∙ (sym (list_any-append test xs ys) ∙ h)))

-- children are of the desk of their parent ---------------------------------------------------------

module _ (p q : Pid) where
  event_home : (d : ℕ) (e : Event) → IsHome d e → list_any (same_pid q) (child_by p e) ≡ true → q.shard ≡ d
  event_home d (Born c (Some a) link) home any = by_cases (same_pid p a)
      (λ is. by_cases (same_pid q c)
      (λ same. ap (λ (x : Pid). x.shard) (same_pid_is q c same) ∙ home.0)
      (λ other. absurd (let none : false ≡ true = sym (λ n. other n || false) ∙ subst (λ (b : Bool). list_any (same_pid q) (cond b (c ∷ []) []) ≡ true) is any in cc)))
      (λ no. absurd (let none : false ≡ true = subst (λ (b : Bool). list_any (same_pid q) (cond b (c ∷ []) []) ≡ true) no any in cc))
  event_home d (Born c None link) home any = absurd (cc)
  event_home d _ home any = absurd (cc)

  child_home : (start : Start) (low top d : ℕ) (journal : List Stamped) → IsLocal start low top d journal → list_any (same_pid q) (children_by p journal) ≡ true → q.shard ≡ d
  child_home start low top d [] local any = absurd (cc)
  child_home start low top d (s ∷ journal) local any = by_cases (list_any (same_pid q) (child_by p s.event))
      (λ here. event_home d s.event local.0.home here)
      (λ later. child_home start low top d journal local.1
      (sym (ap (λ (b : Bool). b || list_any (same_pid q) (children_by p journal)) later) ∙ (sym (list_any-append (same_pid q) (child_by p s.event) (children_by p journal)) ∙ any)))

  -- of those that it bore before its desk's journal
  born_home : (e : Event) (past : Past) → IsBornHome (e ∷ past) → list_any (same_pid q) (child_by p e) ≡ true → q.shard ≡ p.shard
  born_home (Born c (Some a) link) past home any = by_cases (same_pid p a)
      (λ is. by_cases (same_pid q c)
      (λ same. ap (λ (x : Pid). x.shard) (same_pid_is q c same) ∙ (sym home.0 ∙ sym (ap (λ (x : Pid). x.shard) (same_pid_is p a is))))
      (λ other. absurd (let none : false ≡ true = sym (λ n. other n || false) ∙ subst (λ (b : Bool). list_any (same_pid q) (cond b (c ∷ []) []) ≡ true) is any in cc)))
      (λ no. absurd (let none : false ≡ true = subst (λ (b : Bool). list_any (same_pid q) (cond b (c ∷ []) []) ≡ true) no any in cc))
  born_home (Born c None link) past home any = absurd (cc)
  born_home _ past home any = absurd (cc)

  home_before : (e : Event) (past : Past) → IsBornHome (e ∷ past) → IsBornHome past
  home_before (Born c parent link) past home = home.1
  home_before _ past home = home

  old_home : (past : Past) → IsBornHome past → list_any (same_pid q) (flat_map (child_by p) past) ≡ true → q.shard ≡ p.shard
  old_home [] home any = absurd (cc)
  old_home (e ∷ past) home any = elim (any_both (same_pid q) (child_by p e) (flat_map (child_by p) past) any) [
    | inl here ↦ born_home e past home here
    | inr before ↦ old_home past (home_before e past home) before
  ]

  -- by a link, a monitor or a call, or by itself --------------------------------------------------------------------------

  stage_told : (e : Event) → tells_end p q e ≡ true → (shows_end p q e ≡ true) ⊎ (bids_end p q e ≡ true)
  stage_told (Came a b (LinkExit ids r)) h = inl h
  stage_told (Came a b (Signal.Down m r)) h = inl h
  stage_told (Came a b (Signal.Exit r)) h = inr h
  stage_told (Refused a b) h = inl h
  stage_told _ h = absurd (cc)

  any_told : (past : Past) → has_told p q past ≡ true → (list_any (shows_end p q) past ≡ true) ⊎ (has_bidden p q past ≡ true)
  any_told [] h = absurd (cc)
  any_told (e ∷ past) h = by_cases (tells_end p q e)
      (λ here. elim (stage_told e here) [
        | inl l ↦ inl (or_left (shows_end p q e) (list_any (shows_end p q) past) l)
        | inr b ↦ inr (or_left (bids_end p q e) (has_bidden p q past) b)
      ])
      (λ later. elim (any_told past (sym (ap (λ (b : Bool). b || has_told p q past) later) ∙ h)) [
        | inl l ↦ inl (or_right (shows_end p q e) (list_any (shows_end p q) past) l)
        | inr b ↦ inr (or_right (bids_end p q e) (has_bidden p q past) b)
      ])

pub not_alive : (f : Phase) → is_ended f ≡ true → is_living f ≡ false
not_alive unborn h = refl
not_alive (living s) h = absurd (cc)
not_alive (ended r s) h = refl

outcome_ended : (f : Phase) → is_ended f ≡ true → is_ended (outcome f) ≡ true
outcome_ended unborn h = h
outcome_ended (living s) h = h
outcome_ended (ended r s) h = refl

reasonless_ended : (f : Phase) → is_ended f ≡ true → is_ended (reasonless f) ≡ true
reasonless_ended unborn h = h
reasonless_ended (living s) h = h
reasonless_ended (ended r s) h = refl

pub known_ended : (f left : Phase) → IsKnownAs f left → is_ended left ≡ true → is_ended f ≡ true
known_ended f left (inl is) over = ap is_ended is ∙ outcome_ended left over
known_ended f left (inr is) over = ap is_ended is ∙ reasonless_ended left over

pub ended_stays : (start : Start) (past : Past) (q : Pid) → is_ended (at_start start q) ≡ true → is_ended (life start past q) ≡ true
ended_stays start [] q h = h
ended_stays start (e ∷ past) q h = ended_later q e (life start past q) (ended_stays start past q h)

-- a child whose end was shown before the journals does not live
gone_before : (past : Past) (g : GatheredState) → GoesOnFrom past g → (p q : Pid) → q.shard ≡ p.shard → list_any (shows_end p q) past ≡ true → (since : Past) → alive (begins g) since q ≡ false
gone_before past g from p q same_desk any since =
    let b = from.begun in
    let over : is_ended (life [] b.past q) ≡ true =
    ended_told [] p q same_desk b.past b.left.legal b.known (subst (λ (x : Past). list_any (shows_end p q) x ≡ true) (sym from.past_is) any) in
    not_alive (life (begins g) since q) (ended_stays (begins g) since q (known_ended (at_start (begins g) q) (life [] b.past q) (b.left.alike q) over))

module _ {B : Type 0} (part : PartOf B) (law : MergeLegal) (known : MergeKnown) where
  holds_still : (past : Past) (r : Role B) (reason : Reason) (s : Standing) (d : ShardState) → StandsStill (Keeps past part) r d → r.next ≡ Stop reason → part r.behaviour ≡ Some s → HoldsAs past (Some s) (Stop reason) r.pid d
  holds_still past r reason s d still stops is =
      subst (λ (o : Option Standing). HoldsAs past o (Stop reason) r.pid d) is (subst (λ (n : Next). HoldsAs past (part r.behaviour) n r.pid d) stops (stands still))
    where
      stands : StandsStill (Keeps past part) r d → HoldsAs past (part r.behaviour) r.next r.pid d
      stands (inl h) = h.1
      stands (inr h) = h d

  pub stopped_children : StoppedChildrenEnded part
  stopped_children past r reason s d g node number at still stops part_is home all merged q m started = go (holds.2 (were all) q started)
    where
      holds : HoldsAs past (Some s) (Stop reason) r.pid d
      holds = holds_still past r reason s d still stops part_is

      within : r.pid.shard < length g.shards
      within = subst (λ (n : ℕ). n < length g.shards) (sym home) number

      were : IsAllBefore past r.pid d g → WereTold past r.pid d.start
      were (inl from) = subst (λ (x : ShardState). WereTold past r.pid x.start) (sym (subst (λ (n : ℕ). d ≡ get_or g.shards n d) (sym home) at)) (desk_told past g node from r.pid d within)
      were (inr new) = new_told past r.pid d.start new.1

      journal_is : journals g d.number ≡ d.journal
      journal_is = journal_of g d.number d number ∙ ap (λ (x : ShardState). x.journal) (sym at)

      own_child : list_any (same_pid q) (children_by r.pid d.journal) ≡ true → q.shard ≡ r.pid.shard
      own_child any =
          child_home r.pid q (begins g) g.config.start g.config.top_version d.number (journals g d.number) (locals g node d.number)
          (ap (λ (j : List Stamped). list_any (same_pid q) (children_by r.pid j)) journal_is ∙ any)
          ∙ sym home

      old_child : IsAllBefore past r.pid d g → list_any (same_pid q) (flat_map (child_by r.pid) past) ≡ true → q.shard ≡ r.pid.shard
      old_child (inl from) any = old_home r.pid q past (subst IsBornHome from.past_is from.begun.home) any
      old_child (inr new) any = absurd (let none : false ≡ true = sym (ap (λ (x : Past). list_any (same_pid q) (flat_map (child_by r.pid) x)) new.0) ∙ any in cc)

      same_desk : q.shard ≡ r.pid.shard
      same_desk = elim (any_both (same_pid q) (children_by r.pid d.journal) (flat_map (child_by r.pid) past) (any_taken (same_pid q) s.started (all_children past r.pid d) started)) [
        | inl since ↦ own_child since
        | inr before ↦ old_child all before
      ]

      told_since : list_any (shows_end r.pid q) (events d.journal) ≡ true → alive (begins g) (events merged) q ≡ false
      told_since any = not_alive (life (begins g) (events merged) q)
          (ended_told (begins g) r.pid q same_desk (events merged) (legal_node g node law merged m).0 (known (begins g) g.config.start g.config.top_version (journals g) merged (locals g node) m).0
          (any_events (shows_end r.pid q) merged ∙ any_filter (λ (t : Stamped). shows_end r.pid q t.event) _ merged
          (ap (list_any (λ (t : Stamped). shows_end r.pid q t.event)) (m.1 d.number ∙ journal_is) ∙ (sym (any_events (shows_end r.pid q) d.journal) ∙ any))))

      told_before : IsAllBefore past r.pid d g → list_any (shows_end r.pid q) past ≡ true → alive (begins g) (events merged) q ≡ false
      told_before (inl from) any = gone_before past g from r.pid q same_desk any (events merged)
      told_before (inr new) any = absurd (let none : false ≡ true = sym (ap (list_any (shows_end r.pid q)) new.0) ∙ any in cc)

      by_its_link : list_any (shows_end r.pid q) (all_events past d) ≡ true → alive (begins g) (events merged) q ≡ false
      by_its_link any = elim (any_both (shows_end r.pid q) (events d.journal) past any) [
        | inl since ↦ told_since since
        | inr before ↦ told_before all before
      ]

      go : IsPlaced s.children q ⊎ (has_told r.pid q (all_events past d) ≡ true) → (alive (begins g) (events merged) q ≡ false) ⊎ (has_bidden r.pid q (all_events past d) ≡ true)
      go (inl placed) = absurd (none_at s.children placed.0 q holds.1.1 placed.1)
      go (inr told) = elim (any_told r.pid q (all_events past d) told) [
        | inl l ↦ inl (by_its_link l)
        | inr b ↦ inr b
      ]
