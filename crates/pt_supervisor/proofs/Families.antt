-- What a supervisor does keeps its children held.
use Rattle.std.proofs.Common.{◌≡◌, ◌⊎◌, inl, inr, ℕ, ◌+◌, min, Bool, true, false, cond, ◌||◌, List, [], ◌∷◌, ◌++◌, take, slice_get, slice_set, Option, Some, None, Result, Ok, Err, is_some, append_assoc, refl, sym, ap, subst, ◌∙◌}
use Rattle.std.specs.Prelude.{max, MatchOption}
use Rattle.std.specs.Result.{IsErrAnd}
use Rattle.std.proofs.lemmas.Bool.{cases_eq}
use Rattle.std.proofs.lemmas.List.{map-append}
use Rattle.std.proofs.lemmas.List.Folds.{list_any-append}
use Rattle.std.specs.List.{flat_map, list_any}
use Rattle.pt_signal.specs.declared.pid.Pid.{Pid}
use Rattle.pt_signal.specs.declared.ids.LinkId.{LinkId}
use Rattle.pt_signal.specs.declared.ids.Ref.{Ref}
use Rattle.pt_signal.specs.declared.item.Item.{Item}
use Rattle.pt_signal.specs.declared.reason.Reason.{Reason}
use Rattle.pt_signal.specs.declared.signal.Signal.{Signal}
use Rattle.pt_signal.specs.declared.signal.Signal.TheVariants.{Monitor}
use Rattle.pt_signal.specs.Values.{same_pid}
use Rattle.pt_signal.specs.Process.{ProcessState, enter, say}
use Rattle.pt_signal.proofs.Same.{same_pid_refl, same_pid_is}
use Rattle.pt_events.specs.declared.event.Event.{Event}
use Rattle.pt_events.specs.declared.event.Event.TheVariants.{Born, Said, Refused}
use Rattle.pt_events.specs.declared.event.Stamped.{Stamped}
use Rattle.pt_events.specs.History.{Past, Phase, unborn, living, ended, is_unborn, is_living, state_of, change, newborn, linked, while_living, touches}
use Rattle.pt_events.specs.Journal.{events}
use Rattle.pt_laws.proofs.linking.Entries.{held-enter}
use Rattle.pt_shard.specs.declared.fault.Fault.{Fault}
use Rattle.pt_shard.specs.declared.fault.Fault.TheVariants.{Full, Memory, Worn, Gone, Myself, NoProc}
use Rattle.pt_shard.specs.ShardState.{ShardState, phase_of, state_in, shard_after, stamped, written}
use Rattle.pt_shard.specs.Calls.{Calls, Monitors, Refuses}
use Rattle.pt_desk.specs.DeskState.{DeskState}
use Rattle.pt_desk.specs.Reaching.{Reaches, has_monitor_to_make}
use Rattle.pt_behaviour.specs.declared.call_fault.CallFault.{CallFault}
use Rattle.pt_behaviour.specs.declared.call_fault.CallFault.TheVariants.{Unknown}
use Rattle.pt_behaviour.specs.Telling.{IfKnown, call_answered}
use Rattle.pt_behaviour.specs.Upholding.{IsLater, ActsFor, child_by, children_by}
use Rattle.pt_behaviour.proofs.Cases.{by_cases}
use Rattle.pt_behaviour.proofs.Upholding.{later_is, later_same, later_then, later_after, born_then, phase_same, phase_is, alone_is, alone_then, alone_event, acts_is, acts_then, same_pid_sym, living_born}
use Rattle.pt_children.specs.declared.children.Child.{Child}
use Rattle.pt_children.specs.Trying.{started_child}
use Rattle.pt_children.specs.Hearing.{Standing, heard}
use Rattle.pt_children.specs.Families.{pid_of_child, child_at, is_end_of, is_cut, has_cut, all_events, IsTied, IsHeld, Family, tells_end, has_told, WereTold, IsPlaced}
use Rattle.pt_supervisor.specs.Keeping.{all_children, was_started, Remembers}
use Rattle.pt_children.proofs.Hearing.{Less, set_at, set_beside, set_same_at}
use Rattle.pt_children.proofs.Telling.{one_taken}
use Rattle.pt_children.proofs.Tying.{or_right, entered_tied}

-- desks that go on -----------------------------------------------------------------------------------

pub record Goes (me : Pid) (d e : ShardState) : Type 0 where
  pub later : IsLater d e
  pub acts : ActsFor me d e

pub goes_is : (me : Pid) (d e : ShardState) → e ≡ d → Goes me d e
goes_is me d e is = record { later = later_is d e is; acts = acts_is me d e is }

pub goes_then : (me : Pid) (d f e : ShardState) → Goes me d f → Goes me f e → Goes me d e
goes_then me d f e a b = record { later = later_then d f e a.later b.later; acts = acts_then me d f e a.later a.acts b.acts }

pub goes_event : (me : Pid) (d e : ShardState) (ev : Event) → ((q : Pid) → same_pid me q ≡ false → touches q ev ≡ false) → ((q : Pid) → child_by q ev ≡ []) → e ≡ shard_after ev d → Goes me d e
goes_event me d e ev own bare is = record {
  later = subst (λ (f : ShardState). IsLater d f) (sym is) (later_after ev d);
  acts = λ q other born. alone_then q d (shard_after ev d) e (alone_event ev d q (own q other) (bare q)) (alone_is (shard_after ev d) e is q);
}

-- what happened is that, and then more
whole_later : (past : Past) (d e : ShardState) (x : IsLater d e) → all_events past e ≡ events x.more ++ all_events past d
whole_later past d e x =
    ap (λ (j : List Stamped). events j ++ past) x.journal ∙ ap (λ (p : Past). p ++ past) (map-append (λ (s : Stamped). s.event) x.more d.journal)
    ∙ append_assoc (events x.more) (events d.journal) past

pub any_later : (test : Event → Bool) (past : Past) (d e : ShardState) → IsLater d e → list_any test (all_events past d) ≡ true → list_any test (all_events past e) ≡ true
any_later test past d e x h =
    ap (list_any test) (whole_later past d e x) ∙ list_any-append test (events x.more) (all_events past d) ∙ or_right (list_any test (events x.more)) (list_any test (all_events past d)) h

pub cut_later : (past : Past) (me q : Pid) (d e : ShardState) → IsLater d e → has_cut me q (all_events past d) ≡ true → has_cut me q (all_events past e) ≡ true
cut_later past me q d e x h = any_later (is_cut me q) past d e x h

pub told_later : (past : Past) (me q : Pid) (d e : ShardState) → IsLater d e → has_told me q (all_events past d) ≡ true → has_told me q (all_events past e) ≡ true
told_later past me q d e x h = any_later (tells_end me q) past d e x h

-- where it bears nobody, nobody is forgotten
pub remembers_step : (past : Past) (children : List Child) (started : ℕ) (me : Pid) (d e : ShardState) → IsLater d e → children_by me e.journal ≡ children_by me d.journal
    → Remembers past children started me d → Remembers past children started me e
remembers_step past children started me d e later bare r were q was =
    go (r (subst (WereTold past me) later.start were) q
    (ap (λ (qs : List Pid). list_any (same_pid q) (take started (qs ++ flat_map (child_by me) past))) (sym bare) ∙ was))
  where
    go : IsPlaced children q ⊎ (has_told me q (all_events past d) ≡ true) → IsPlaced children q ⊎ (has_told me q (all_events past e) ≡ true)
    go (inl placed) = inl placed
    go (inr told) = inr (told_later past me q d e later told)

-- an item is heard
pub remembers_less : (past : Past) (item : Item) (s m : Standing) (me : Pid) (d e : ShardState) → IsLater d e → children_by me e.journal ≡ children_by me d.journal
    → ((q : Pid) → IsPlaced s.children q → is_end_of q item ≡ true → WereTold past me d.start → has_told me q (all_events past d) ≡ true)
    → Less item s m → Remembers past s.children s.started me d → Remembers past m.children m.started me e
remembers_less past item s m me d e later bare tells less r were q was =
    go (remembers_step past s.children s.started me d e later bare r were q (ap (λ (n : ℕ). was_started past n me q e) (sym less.count) ∙ was))
  where
    there : WereTold past me d.start
    there = subst (WereTold past me) later.start were

    go : IsPlaced s.children q ⊎ (has_told me q (all_events past e) ≡ true) → IsPlaced m.children q ⊎ (has_told me q (all_events past e) ≡ true)
    go (inl placed) = elim (less.kept placed.0 q placed.1) [
      | inl still ↦ inl (placed.0, still)
      | inr out ↦ inr (told_later past me q d e later (tells q placed out there))
    ]
    go (inr told) = inr told

-- a supervisor that has begun ---------------------------------------------------------------------------

pub record Kept (past : Past) (children : List Child) (started : ℕ) (stopping : Option Reason) (me : Pid) (e : ShardState) : Type 0 where
  pub state : ProcessState
  pub living_is : phase_of e me ≡ living state
  pub traps : state.traps ≡ true
  pub family : Family past children stopping me e
  pub remembers : Remembers past children started me e

pub family_step : (past : Past) (children : List Child) (stopping : Option Reason) (me : Pid) (d e : ShardState) → IsLater d e → ((q : Pid) → IsTied (state_in d me) q → IsHeld past me q e) → Family past children stopping me d
    → Family past children stopping me e
family_step past children stopping me d e later ties f = record {
  born = λ place q is own. born_then d e later q (f.born place q is own);
  apart = f.apart;
  held = λ none place q is. go q (f.held none place q is);
}
  where
    go : (q : Pid) → IsHeld past me q d → IsHeld past me q e
    go q (inl h) = ties q h
    go q (inr h) = inr (cut_later past me q d e later h)

family_kept : (past : Past) (children : List Child) (started : ℕ) (stopping : Option Reason) (me : Pid) (d e : ShardState) → IsLater d e → (k : Kept past children started stopping me d) → (t : ProcessState) → phase_of e me ≡ living t
    → ((q : Pid) → IsTied k.state q → IsTied t q) → Family past children stopping me e
family_kept past children started stopping me d e later k t now ties =
    family_step past children stopping me d e later (λ q h.
    inl (subst (λ (f : Phase). IsTied (state_of f) q) (sym now) (ties q (subst (λ (f : Phase). IsTied (state_of f) q) k.living_is h)))) k.family

pub kept_step : (past : Past) (children : List Child) (started : ℕ) (stopping : Option Reason) (me : Pid) (d e : ShardState) → IsLater d e → children_by me e.journal ≡ children_by me d.journal
    → (k : Kept past children started stopping me d) → (t : ProcessState) → phase_of e me ≡ living t
    → t.traps ≡ true → ((q : Pid) → IsTied k.state q → IsTied t q) → Kept past children started stopping me e
kept_step past children started stopping me d e later bare k t now traps ties = record {
  state = t;
  living_is = now;
  traps = traps;
  family = family_kept past children started stopping me d e later k t now ties;
  remembers = remembers_step past children started me d e later bare k.remembers;
}

pub kept_is : (past : Past) (children : List Child) (started : ℕ) (stopping : Option Reason) (me : Pid) (d e : ShardState) → e ≡ d → Kept past children started stopping me d → Kept past children started stopping me e
kept_is past children started stopping me d e is k = subst (Kept past children started stopping me) (sym is) k

-- one more child, where there was none ---------------------------------------------------------------------

module _ (p : Pid) (children : List Child) (place : ℕ) (c v : Child) (at : slice_get children place ≡ Some c) (missing : c.pid ≡ None) (now : v.pid ≡ Some p) where
  pub still_placed : (q : Pid) → IsPlaced children q → IsPlaced (slice_set children place v) q
  still_placed q placed = elim (cases_eq placed.0 place) [
    | inl same ↦ absurd (let bad : None ≡ Some q = sym missing ∙ sym (ap pid_of_child at) ∙ sym (ap (child_at children) same) ∙ placed.1 in cc)
    | inr other ↦ (placed.0, set_same_at children place placed.0 v q other placed.1)
  ]

  pub newly_placed : IsPlaced (slice_set children place v) p
  newly_placed = (place, set_at children place c v at ∙ now)

  is_new : (j : ℕ) (q : Pid) → child_at (slice_set children place v) j ≡ Some q → j ≡ place → p ≡ q
  is_new j q is same =
      let both : Some p ≡ Some q = sym (set_at children place c v at ∙ now) ∙ ap (child_at (slice_set children place v)) (sym same) ∙ is in cc

  pub joins_family : (past : Past) (stopping : Option Reason) (me : Pid) (e : ShardState) → ((j : ℕ) → child_at children j ≡ Some p → ⊥) → (p.shard ≡ me.shard → is_unborn (phase_of e p) ≡ false) → IsHeld past me p e
      → Family past children stopping me e → Family past (slice_set children place v) stopping me e
  joins_family past stopping me e fresh born held old = record {
    born = λ j q is. elim (cases_eq j place) [
      | inl same ↦ subst (λ (x : Pid). x.shard ≡ me.shard → is_unborn (phase_of e x) ≡ false) (is_new j q is same) born
      | inr other ↦ old.born j q (set_beside children place j v q other is)
    ];
    apart = λ a b q is_a is_b. elim (cases_eq a place) [
      | inl same ↦ elim (cases_eq b place) [
        | inl also ↦ same ∙ sym also
        | inr other ↦ absurd (not_both b q (set_beside children place b v q other is_b) (is_new a q is_a same))
      ]
      | inr apart ↦ elim (cases_eq b place) [
        | inl also ↦ absurd (not_both a q (set_beside children place a v q apart is_a) (is_new b q is_b also))
        | inr other ↦ old.apart a b q (set_beside children place a v q apart is_a) (set_beside children place b v q other is_b)
      ]
    ];
    held = λ none j q is. elim (cases_eq j place) [
      | inl same ↦ subst (λ (x : Pid). IsHeld past me x e) (is_new j q is same) held
      | inr other ↦ old.held none j q (set_beside children place j v q other is)
    ];
  }
    where
      not_both : (j : ℕ) (q : Pid) → child_at children j ≡ Some q → p ≡ q → ⊥
      not_both j q is same = fresh j (is ∙ ap Some (sym same))

-- an event of its own
pub own_phase : (me : Pid) (ev : Event) (d : ShardState) (s : ProcessState) (own : touches me ev ≡ true) → phase_of d me ≡ living s → phase_of (shard_after ev d) me ≡ change me ev (living s)
own_phase me ev d s own is i = cond (own i) (change me ev (is i)) (is i)

pub said_own : (me p : Pid) (x : Signal) (q : Pid) → same_pid me q ≡ false → touches q (Said me p x) ≡ false
said_own me p x q other = same_pid_sym me q other

-- what a desk has noted as me told p to end was answered so
abbrev pub ToldAs : Pid → Pid → Reason → ShardState → ShardState → Result (Unit {0}) CallFault → Type 0
ToldAs me p reason d e (Ok done) = e ≡ shard_after (Said me p (Signal.Exit reason)) d
ToldAs me p reason d e (Err f) = e ≡ d

module _ (me p : Pid) (reason : Reason) where
  failed_as : (d e : ShardState) (f : Fault) → Calls me (Some (Said me p (Signal.Exit reason))) (tt {0}) d (Err f) e → e ≡ d
  failed_as d e Gone c = c.1
  failed_as d e Worn c = c.3
  failed_as d e Memory c = c.3
  failed_as d e Full c = absurd c
  failed_as d e Myself c = absurd c
  failed_as d e NoProc c = absurd c

  called_as : (d e : ShardState) (r : Result (Unit {0}) Fault) → Calls me (Some (Said me p (Signal.Exit reason))) (tt {0}) d r e → ToldAs me p reason d e (call_answered r)
  called_as d e (Ok x) c = c.3
  called_as d e (Err f) c = failed_as d e f c

  pub told_as : (known : Bool) (d e : DeskState) (result : Result (Unit {0}) CallFault)
      → IfKnown known (λ r. Calls me (Some (Said me p (Signal.Exit reason))) (tt {0}) d.shard r e.shard) d result e → ToldAs me p reason d.shard e.shard result
  told_as true d e result (answer, does, is) = subst (ToldAs me p reason d.shard e.shard) (sym is) (called_as d.shard e.shard answer does)
  told_as false d e result (is, same) = subst (ToldAs me p reason d.shard e.shard) (sym is) (ap (λ (x : DeskState). x.shard) same)

  pub told_goes : (d e : ShardState) (result : Result (Unit {0}) CallFault) → ToldAs me p reason d e result → Goes me d e
  told_goes d e (Ok x) h = goes_event me d e (Said me p (Signal.Exit reason)) (said_own me p (Signal.Exit reason)) (λ q. refl) h
  told_goes d e (Err f) h = goes_is me d e h

  pub told_kept : (past : Past) (children : List Child) (started : ℕ) (stopping : Option Reason) (d e : ShardState) (result : Result (Unit {0}) CallFault) → ToldAs me p reason d e result → Kept past children started stopping me d → Kept past children started stopping me e
  told_kept past children started stopping d e (Ok x) h k =
      kept_step past children started stopping me d e (told_goes d e (Ok x) h).later (ap (λ (f : ShardState). children_by me f.journal) h) k k.state
      (phase_is (shard_after (Said me p (Signal.Exit reason)) d) e h me ∙ own_phase me (Said me p (Signal.Exit reason)) d k.state (same_pid_refl me) k.living_is) k.traps (λ q t. t)
  told_kept past children started stopping d e (Err f) h k = kept_is past children started stopping me d e h k

-- a monitor ----------------------------------------------------------------------------------------------

-- what a desk has noted as the call of me for a monitor of p was answered so
abbrev pub WatchedAs : Pid → Pid → ShardState → ShardState → Result Ref CallFault → Type 0
WatchedAs me p d e (Ok m) = e ≡ shard_after (Said me p (Monitor m)) d
WatchedAs me p d e (Err (CallFault.Refused NoProc)) = (n : ℕ) × (e ≡ written n (Refused me p) d)
WatchedAs me p d e (Err f) = e ≡ d

module _ (me p : Pid) where
  monitored_as : (d e : ShardState) (r : Result Ref Fault) → Monitors me p d r e → WatchedAs me p d e (call_answered r)
  monitored_as d e (Ok m) h = h.1.3 ∙ ap (λ (n : Ref). shard_after (Said me p (Monitor n)) d) (sym h.1.2)
  monitored_as d e (Err Gone) h = h.1
  monitored_as d e (Err Myself) h = h.2
  monitored_as d e (Err Worn) h = h.3
  monitored_as d e (Err Memory) h = h.3
  monitored_as d e (Err Full) h = absurd h
  monitored_as d e (Err NoProc) h = absurd h

  pub refused_as : (n : ℕ) (d e : ShardState) (f : Fault) → Refuses me p n d f e → WatchedAs me p d e (Err (CallFault.Refused f))
  refused_as n d e NoProc h = (max d.clock n + 1, h.1)
  refused_as n d e Worn h = h.1
  refused_as n d e Memory h = h.1
  refused_as n d e Gone h = absurd h
  refused_as n d e Full h = absurd h
  refused_as n d e Myself h = absurd h

  answered_as : (n : ℕ) (d e : ShardState) (r : Result Ref Fault) → IsErrAnd r (λ f. Refuses me p n d f e) → WatchedAs me p d e (call_answered r)
  answered_as n d e (Ok m) h = absurd h
  answered_as n d e (Err f) h = refused_as n d e f h

  looked_as : (seen : Option ℕ) (d e : ShardState) (r : Result Ref Fault) → MatchOption seen (Monitors me p d r e) (λ n. IsErrAnd r (λ f. Refuses me p n d f e)) → WatchedAs me p d e (call_answered r)
  looked_as None d e r h = monitored_as d e r h
  looked_as (Some n) d e r h = answered_as n d e r h

  reached_as : (looks : Bool) (d e : DeskState) (r : Result Ref Fault) → Reaches looks me p (Monitors me p d.shard r e.shard) d r e → WatchedAs me p d.shard e.shard (call_answered r)
  reached_as true d e r h = looked_as h.seen d.shard e.shard r h.does
  reached_as false d e r h = monitored_as d.shard e.shard r h.0

  pub watched_as : (known : Bool) (d e : DeskState) (result : Result Ref CallFault)
      → IfKnown known (λ r. Reaches (has_monitor_to_make d.shard me p) me p (Monitors me p d.shard r e.shard) d r e) d result e → WatchedAs me p d.shard e.shard result
  watched_as true d e result (answer, does, is) = subst (WatchedAs me p d.shard e.shard) (sym is) (reached_as (has_monitor_to_make d.shard me p) d e answer does)
  watched_as false d e result (is, same) = subst (WatchedAs me p d.shard e.shard) (sym is) (ap (λ (x : DeskState). x.shard) same)

  -- it goes on, also where the call was refused
  noted_goes : (n : ℕ) (d e : ShardState) → e ≡ written n (Refused me p) d → Goes me d e
  noted_goes n d e is = subst (Goes me d) (sym is) (record {
    later = record { start = refl; more = stamped n (Refused me p) d ∷ []; journal = refl };
    acts = λ q other born. (refl, refl);
  })

  pub watched_goes : (d e : ShardState) (result : Result Ref CallFault) → WatchedAs me p d e result → Goes me d e
  watched_goes d e (Ok m) h = goes_event me d e (Said me p (Monitor m)) (said_own me p (Monitor m)) (λ q. refl) h
  watched_goes d e (Err (CallFault.Refused NoProc)) h = noted_goes h.0 d e h.1
  watched_goes d e (Err (CallFault.Refused Gone)) h = goes_is me d e h
  watched_goes d e (Err (CallFault.Refused Worn)) h = goes_is me d e h
  watched_goes d e (Err (CallFault.Refused Memory)) h = goes_is me d e h
  watched_goes d e (Err (CallFault.Refused Full)) h = goes_is me d e h
  watched_goes d e (Err (CallFault.Refused Myself)) h = goes_is me d e h
  watched_goes d e (Err Unknown) h = goes_is me d e h

  pub watched_bare : (d e : ShardState) (result : Result Ref CallFault) → WatchedAs me p d e result → children_by me e.journal ≡ children_by me d.journal
  watched_bare d e (Ok m) h = ap (λ (f : ShardState). children_by me f.journal) h
  watched_bare d e (Err (CallFault.Refused NoProc)) h = ap (λ (f : ShardState). children_by me f.journal) h.1
  watched_bare d e (Err (CallFault.Refused Gone)) h = ap (λ (f : ShardState). children_by me f.journal) h
  watched_bare d e (Err (CallFault.Refused Worn)) h = ap (λ (f : ShardState). children_by me f.journal) h
  watched_bare d e (Err (CallFault.Refused Memory)) h = ap (λ (f : ShardState). children_by me f.journal) h
  watched_bare d e (Err (CallFault.Refused Full)) h = ap (λ (f : ShardState). children_by me f.journal) h
  watched_bare d e (Err (CallFault.Refused Myself)) h = ap (λ (f : ShardState). children_by me f.journal) h
  watched_bare d e (Err Unknown) h = ap (λ (f : ShardState). children_by me f.journal) h

  pub watched_kept : (past : Past) (children : List Child) (started : ℕ) (stopping : Option Reason) (d e : ShardState) (result : Result Ref CallFault) → WatchedAs me p d e result → Kept past children started stopping me d → Kept past children started stopping me e
  watched_kept past children started stopping d e (Ok m) h k =
      kept_step past children started stopping me d e (watched_goes d e (Ok m) h).later (ap (λ (f : ShardState). children_by me f.journal) h) k (say k.state p (Monitor m))
      (phase_is (shard_after (Said me p (Monitor m)) d) e h me ∙ own_phase me (Said me p (Monitor m)) d k.state (same_pid_refl me) k.living_is) k.traps (λ q t. t)
  watched_kept past children started stopping d e (Err (CallFault.Refused NoProc)) h k =
      kept_step past children started stopping me d e (noted_goes h.0 d e h.1).later (ap (λ (f : ShardState). children_by me f.journal) h.1) k k.state
      (phase_is (written h.0 (Refused me p) d) e h.1 me ∙ k.living_is) k.traps (λ q t. t)
  watched_kept past children started stopping d e (Err (CallFault.Refused Gone)) h k = kept_is past children started stopping me d e h k
  watched_kept past children started stopping d e (Err (CallFault.Refused Worn)) h k = kept_is past children started stopping me d e h k
  watched_kept past children started stopping d e (Err (CallFault.Refused Memory)) h k = kept_is past children started stopping me d e h k
  watched_kept past children started stopping d e (Err (CallFault.Refused Full)) h k = kept_is past children started stopping me d e h k
  watched_kept past children started stopping d e (Err (CallFault.Refused Myself)) h k = kept_is past children started stopping me d e h k
  watched_kept past children started stopping d e (Err Unknown) h k = kept_is past children started stopping me d e h k

-- a birth --------------------------------------------------------------------------------------------------

pub newborn_born : (parent : Option Pid) (link : Option LinkId) (f : Phase) → is_unborn (newborn parent link f) ≡ false
newborn_born parent link unborn = refl
newborn_born parent link (living s) = refl
newborn_born parent link (ended r s) = refl

module _ (me p : Pid) (d e : ShardState) (i : LinkId) (unborn_is : is_unborn (phase_of d p) ≡ true) (start : e.start ≡ d.start) (journal : e.journal ≡ (shard_after (Born p (Some me) (Some i)) d).journal) where
  ev : Event
  ev = Born p (Some me) (Some i)

  apart_from : (q : Pid) → is_unborn (phase_of d q) ≡ false → same_pid q p ≡ false
  apart_from q born = by_cases (same_pid q p)
      (λ same. let bad : false ≡ true = sym born ∙ ap (λ (x : Pid). is_unborn (phase_of d x)) (same_pid_is q p same) ∙ unborn_is in absurd (cc))
      (λ other. other)

  same_phase : (q : Pid) → phase_of e q ≡ phase_of (shard_after (Born p (Some me) (Some i)) d) q
  same_phase q = phase_same (shard_after (Born p (Some me) (Some i)) d) e start journal q

  pub born_goes : Goes me d e
  born_goes = record {
    later = later_then d (shard_after (Born p (Some me) (Some i)) d) e (later_after (Born p (Some me) (Some i)) d) (later_same (shard_after (Born p (Some me) (Some i)) d) e start journal);
    acts = λ q other born. (
      same_phase q ∙ (λ n. cond (apart_from q born n || same_pid_sym me q other n) (cond (same_pid q p) (newborn (Some me) (Some i) (phase_of d q)) (while_living (linked (Some p) (Some i)) (phase_of d q))) (phase_of d q)),
      ap (children_by q) journal ∙ ap (λ (b : Bool). cond b (p ∷ []) [] ++ children_by q d.journal) (same_pid_sym me q other),
    );
  }

  born_here : is_unborn (phase_of e p) ≡ false
  born_here = ap is_unborn (same_phase p) ∙ (λ n. is_unborn (cond (same_pid_refl p n || same_pid p me) (cond (same_pid_refl p n) (newborn (Some me) (Some i) (phase_of d p)) (while_living (linked (Some p) (Some i)) (phase_of d p))) (phase_of d p)))
      ∙ newborn_born (Some me) (Some i) (phase_of d p)

  linked_now : (s : ProcessState) → phase_of d me ≡ living s → phase_of e me ≡ living (record s { links = enter p i s.links })
  linked_now s is =
      let other : same_pid me p ≡ false = apart_from me (living_born (phase_of d me) (ap is_living is)) in
      same_phase me ∙ (λ n. cond (other n || same_pid_refl me n) (cond (other n) (newborn (Some me) (Some i) (is n)) (while_living (linked (Some p) (Some i)) (is n))) (is n))

  one_more : (past : Past) → all_children past me e ≡ p ∷ all_children past me d
  one_more past =
      ap (λ (j : List Stamped). children_by me j ++ flat_map (child_by me) past) journal
      ∙ ap (λ (b : Bool). (cond b (p ∷ []) [] ++ children_by me d.journal) ++ flat_map (child_by me) past) (same_pid_refl me)

  pub born_kept : (past : Past) (children : List Child) (started top place : ℕ) (c : Child) → slice_get children place ≡ Some c → c.pid ≡ None → p.shard ≡ me.shard → Kept past children started None me d
      → Kept past (slice_set children place (started_child p c)) (min (started + 1) top) None me e
  born_kept past children started top place c at missing near k = record {
    remembers = λ were q was. remembered were q (one_taken started top q p (all_children past me d)
        (ap (λ (qs : List Pid). list_any (same_pid q) (take (min (started + 1) top) qs)) (sym (one_more past)) ∙ was));
    state = t;
    living_is = linked_now k.state k.living_is;
    traps = k.traps;
    family = joins_family p children place c v at missing refl past None me e fresh (λ own. born_here)
        (inl (subst (λ (f : Phase). IsTied (state_of f) p) (sym (linked_now k.state k.living_is)) (inl (ap is_some (held-enter p i k.state.links)))))
        (family_kept past children started None me d e born_goes.later k t (linked_now k.state k.living_is) (λ q h. entered_tied k.state p q i h));
  }
    where
      v : Child
      v = started_child p c

      t : ProcessState
      t = record (k.state) { links = enter p i k.state.links }

      fresh : (j : ℕ) → child_at children j ≡ Some p → ⊥
      fresh j is = let bad : false ≡ true = sym (k.family.born j p is near) ∙ unborn_is in absurd (cc)

      onward : (q : Pid) → IsPlaced children q ⊎ (has_told me q (all_events past d) ≡ true) → IsPlaced (slice_set children place v) q ⊎ (has_told me q (all_events past e) ≡ true)
      onward q (inl placed) = inl (still_placed p children place c v at missing refl q placed)
      onward q (inr told) = inr (told_later past me q d e born_goes.later told)

      remembered : WereTold past me e.start → (q : Pid) → (same_pid q p ≡ true) ⊎ (list_any (same_pid q) (take started (all_children past me d)) ≡ true)
          → IsPlaced (slice_set children place v) q ⊎ (has_told me q (all_events past e) ≡ true)
      remembered were q (inl same) = inl (place, set_at children place c v at ∙ ap Some (sym (same_pid_is q p same)))
      remembered were q (inr was) = onward q (k.remembers (subst (WereTold past me) start were) q was)
