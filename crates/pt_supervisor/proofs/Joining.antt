-- A supervisor links with a child that was started on another desk.
use Rattle.std.proofs.Common.{◌≡◌, ◌⊎◌, inl, inr, ℕ, ◌==◌, Bool, true, false, cond, ◌||◌, ◌&&◌, not, List, slice_get, slice_set, get_or, Option, Some, None, Result, Ok, Err, is_some, refl, sym, ap, subst, ◌∙◌}
use Rattle.std.specs.Prelude.{MatchBool, MatchOption, position}
use Rattle.std.specs.Result.{IsErrAnd}
use Rattle.std.proofs.lemmas.Bool.{eq-eqb}
use Rattle.std.proofs.lemmas.List.Quantifiers.{position-Some}
use Rattle.std.proofs.lemmas.Option.{slice_get-get_or}
use Rattle.pt_signal.specs.declared.pid.Pid.{Pid}
use Rattle.pt_signal.specs.declared.item.Pick.{Pick}
use Rattle.pt_signal.specs.declared.reason.Reason.{Reason}
use Rattle.pt_signal.specs.declared.signal.Signal.TheVariants.{Link}
use Rattle.pt_signal.specs.Values.{same_pid, is_pid}
use Rattle.pt_signal.specs.Process.{ProcessState, say}
use Rattle.pt_signal.proofs.Same.{same_pid_is, same_pid_refl}
use Rattle.pt_events.specs.declared.event.Event.{Event}
use Rattle.pt_events.specs.declared.event.Event.TheVariants.{Said}
use Rattle.pt_events.specs.History.{Past, Phase, living, state_of}
use Rattle.pt_laws.proofs.linking.Entries.{held-enter}
use Rattle.pt_shard.specs.declared.fault.Fault.{Fault}
use Rattle.pt_shard.specs.declared.fault.Fault.TheVariants.{Full, Memory, Worn, Gone, Myself, NoProc}
use Rattle.pt_shard.specs.ShardState.{ShardState, phase_of, state_in, shard_after}
use Rattle.pt_shard.specs.Known.{knows}
use Rattle.pt_shard.specs.Calls.{Calls, Refuses, after_if, held_by, link_event, new_link}
use Rattle.pt_desk.specs.DeskState.{DeskState}
use Rattle.pt_desk.specs.Reaching.{Reaches, has_link_to_make}
use Rattle.pt_behaviour.specs.declared.behaviour.Next.{Next}
use Rattle.pt_behaviour.specs.declared.behaviour.Next.TheVariants.{Wait, Proceed}
use Rattle.pt_behaviour.specs.declared.call_fault.CallFault.{CallFault}
use Rattle.pt_behaviour.specs.declared.call_fault.CallFault.TheVariants.{Unknown}
use Rattle.pt_behaviour.specs.Telling.{IfKnown, call_answered}
use Rattle.pt_behaviour.specs.Upholding.{children_by}
use Rattle.pt_behaviour.proofs.Upholding.{phase_is}
use Rattle.pt_children.specs.declared.children.Child.{Child}
use Rattle.pt_children.specs.declared.home.Home.{Home}
use Rattle.pt_children.specs.declared.home.Home.TheVariants.{Here, Elsewhere, Awaited, Told, Arrived, Missed}
use Rattle.pt_children.specs.Children.{IsWanted, PermanentAreWanted}
use Rattle.pt_children.specs.Hearing.{Standing}
use Rattle.pt_children.specs.Homes.{is_abroad, is_coming, is_waiting, place_coming}
use Rattle.pt_children.specs.Trying.{is_accident, joined_child, missed_child, refused_child}
use Rattle.pt_supervisor.specs.Joining.{JoinsChild, LinksTo, MeetsAs, MeetsIn, Misses, is_no_newcomer, joined_as}
use Rattle.pt_supervisor.specs.Supervising.{HasNothingToDo, Supervises}
use Rattle.pt_children.specs.Families.{AreAsked, IsHeld, IsTied, child_at}
use Rattle.pt_supervisor.specs.Keeping.{IsReady}
use Rattle.pt_children.proofs.Wanting.{kept_wanted}
use Rattle.pt_supervisor.proofs.Starting.{unstarted_pid, unstarted_restart, unstarted_wants}
use Rattle.pt_children.proofs.Tying.{entered_tied}
use Rattle.pt_supervisor.proofs.Families.{Goes, goes_event, goes_is, Kept, kept_is, kept_step, joins_family, own_phase, refused_as, said_own, still_placed, WatchedAs, watched_bare, watched_goes, watched_kept}
use Rattle.pt_children.proofs.Hearing.{none_of}
use Rattle.pt_supervisor.proofs.Advancing.{kept_set}

-- a link ---------------------------------------------------------------------------------------

or_cases : (a b : Bool) → (a || b) ≡ true → (a ≡ true) ⊎ (b ≡ true)
or_cases true b h = inl refl
or_cases false b h = inr h

module _ (me p : Pid) where
  abbrev linking : ShardState → Event
  linking d = Said me p (Link (new_link d))

  -- what a desk has noted as the call of me for a link with p was answered so
  abbrev pub LinkedAs : ShardState → ShardState → Result (Unit {0}) CallFault → Type 0
  LinkedAs d e (Ok x) = (((same_pid me p ≡ true) ⊎ (is_some (held_by d me p) ≡ true)) × (e ≡ d)) ⊎ (e ≡ shard_after (linking d) d)
  LinkedAs d e (Err f) = WatchedAs me p d e (Err f)

  made_as : (none : Bool) (d e : ShardState) → (same_pid me p || is_some (held_by d me p)) ≡ none → e ≡ after_if (cond none None (Some (linking d))) d → LinkedAs d e (Ok tt)
  made_as true d e is h = inl (or_cases (same_pid me p) (is_some (held_by d me p)) is, h)
  made_as false d e is h = inr h

  called_as : (d e : ShardState) (r : Result (Unit {0}) Fault) → Calls me (link_event d me p) (tt {0}) d r e → LinkedAs d e (call_answered r)
  called_as d e (Ok x) c = made_as (same_pid me p || is_some (held_by d me p)) d e refl c.3
  called_as d e (Err Gone) c = c.1
  called_as d e (Err Worn) c = c.3
  called_as d e (Err Memory) c = c.3
  called_as d e (Err Full) c = absurd c
  called_as d e (Err Myself) c = absurd c
  called_as d e (Err NoProc) c = absurd c

  refused_then : (n : ℕ) (d e : ShardState) (r : Result (Unit {0}) Fault) → IsErrAnd r (λ f. Refuses me p n d f e) → LinkedAs d e (call_answered r)
  refused_then n d e (Ok x) h = absurd h
  refused_then n d e (Err f) h = refused_as me p n d e f h

  looked_as : (seen : Option ℕ) (d e : ShardState) (r : Result (Unit {0}) Fault) → MatchOption seen (Calls me (link_event d me p) (tt {0}) d r e) (λ n. IsErrAnd r (λ f. Refuses me p n d f e)) → LinkedAs d e (call_answered r)
  looked_as None d e r h = called_as d e r h
  looked_as (Some n) d e r h = refused_then n d e r h

  reached_as : (looks : Bool) (d e : DeskState) (r : Result (Unit {0}) Fault) → Reaches looks me p (Calls me (link_event d.shard me p) (tt {0}) d.shard r e.shard) d r e → LinkedAs d.shard e.shard (call_answered r)
  reached_as true d e r h = looked_as h.seen d.shard e.shard r h.does
  reached_as false d e r h = called_as d.shard e.shard r h.0

  linked_as : (known : Bool) (d e : DeskState) (result : Result (Unit {0}) CallFault)
      → IfKnown known (λ r. Reaches (has_link_to_make d.shard me p) me p (Calls me (link_event d.shard me p) (tt {0}) d.shard r e.shard) d r e) d result e → LinkedAs d.shard e.shard result
  linked_as true d e result (answer, does, is) = subst (LinkedAs d.shard e.shard) (sym is) (reached_as (has_link_to_make d.shard me p) d e answer does)
  linked_as false d e result (is, same) = subst (LinkedAs d.shard e.shard) (sym is) (ap (λ (x : DeskState). x.shard) same)

  -- one that is no new child is not linked with
  new_as : (known : Bool) (d e : DeskState) (result : Result (Unit {0}) CallFault) → MatchBool known ((result ≡ Err (CallFault.Refused NoProc)) × (e ≡ d)) (LinksTo me p d result e)
      → ((known ≡ true) × (result ≡ Err (CallFault.Refused NoProc)) × (e ≡ d)) ⊎ ((known ≡ false) × LinkedAs d.shard e.shard result)
  new_as true d e result h = inl (refl, h.0, h.1)
  new_as false d e result h = inr (refl, linked_as (knows d.shard p) d e result h)

  linked_goes : (d e : ShardState) (result : Result (Unit {0}) CallFault) → LinkedAs d e result → Goes me d e
  linked_goes d e (Ok x) (inl h) = goes_is me d e h.1
  linked_goes d e (Ok x) (inr h) = goes_event me d e (linking d) (said_own me p (Link (new_link d))) (λ q. refl) h
  linked_goes d e (Err f) h = watched_goes me p d e (Err f) h

  linked_bare : (d e : ShardState) (result : Result (Unit {0}) CallFault) → LinkedAs d e result → children_by me e.journal ≡ children_by me d.journal
  linked_bare d e (Ok x) (inl h) = ap (λ (f : ShardState). children_by me f.journal) h.1
  linked_bare d e (Ok x) (inr h) = ap (λ (f : ShardState). children_by me f.journal) h
  linked_bare d e (Err f) h = watched_bare me p d e (Err f) h

  module _ (past : Past) (children : List Child) (started : ℕ) (stopping : Option Reason) (d e : ShardState) (k : Kept past children started stopping me d) where
    abbrev t : ProcessState
    t = say k.state p (Link (new_link d))

    linked_now : e ≡ shard_after (linking d) d → phase_of e me ≡ living t
    linked_now h = phase_is (shard_after (linking d) d) e h me ∙ own_phase me (linking d) d k.state (same_pid_refl me) k.living_is

    linked_kept : (result : Result (Unit {0}) CallFault) → LinkedAs d e result → Kept past children started stopping me e
    linked_kept (Ok x) (inl h) = kept_is past children started stopping me d e h.1 k
    linked_kept (Ok x) (inr h) =
        kept_step past children started stopping me d e (linked_goes d e (Ok x) (inr h)).later (linked_bare d e (Ok x) (inr h)) k t (linked_now h) k.traps (λ q tied. entered_tied k.state p q (new_link d) tied)
    linked_kept (Err f) h = watched_kept me p past children started stopping d e (Err f) h k

    linked_held : (x : Unit {0}) → same_pid me p ≡ false → LinkedAs d e (Ok x) → IsHeld past me p e
    linked_held x other (inl (inl same, is)) = absurd (let bad : true ≡ false = sym same ∙ other in cc)
    linked_held x other (inl (inr held, is)) = inl (subst (λ (f : ShardState). IsTied (state_in f me) p) (sym is) (inl held))
    linked_held x other (inr h) = inl (subst (λ (f : Phase). IsTied (state_of f) p) (sym (linked_now h)) (inl (ap is_some (held-enter p (new_link d) k.state.links))))

-- the child --------------------------------------------------------------------------------------

missed_in : (accident : Bool) (clock : ℕ) (f : Fault) (c : Child) → (cond accident c (refused_child clock f c)).pid ≡ c.pid
missed_in true clock f c = refl
missed_in false clock f c = unstarted_pid clock f (record c { home = Elsewhere })

missed_pid : (clock : ℕ) (f : Fault) (c : Child) → (missed_child clock f c).pid ≡ c.pid
missed_pid clock f c = missed_in (is_accident f) clock f c

fault_pid : (clock : ℕ) (p : Pid) (c : Child) (f : CallFault) → (joined_as clock p c (Err f)).pid ≡ c.pid
fault_pid clock p c Unknown = missed_pid clock NoProc c
fault_pid clock p c (CallFault.Refused f) = missed_pid clock f c

missed_wants : (accident : Bool) (clock : ℕ) (f : Fault) (c : Child) → IsWanted c → IsWanted (cond accident c (refused_child clock f c))
missed_wants true clock f c w = w
missed_wants false clock f c w = unstarted_wants clock f (record c { home = Elsewhere }) w

missed_restart : (accident : Bool) (clock : ℕ) (f : Fault) (c : Child) → (cond accident c (refused_child clock f c)).restart ≡ c.restart
missed_restart true clock f c = refl
missed_restart false clock f c = unstarted_restart clock f (record c { home = Elsewhere })

joined_wants : (clock : ℕ) (p : Pid) (c : Child) (result : Result (Unit {0}) CallFault) → IsWanted c → IsWanted (joined_as clock p c result)
joined_wants clock p c (Ok x) w = (w.0, refl)
joined_wants clock p c (Err Unknown) w = missed_wants (is_accident NoProc) clock NoProc c w
joined_wants clock p c (Err (CallFault.Refused f)) w = missed_wants (is_accident f) clock f c w

joined_restart : (clock : ℕ) (p : Pid) (c : Child) (result : Result (Unit {0}) CallFault) → (joined_as clock p c result).restart ≡ c.restart
joined_restart clock p c (Ok x) = refl
joined_restart clock p c (Err Unknown) = missed_restart (is_accident NoProc) clock NoProc c
joined_restart clock p c (Err (CallFault.Refused f)) = missed_restart (is_accident f) clock f c

-- a permanent child stays one that is wanted
pub joined_keeps : (children : List Child) (place clock : ℕ) (p : Pid) (c : Child) (result : Result (Unit {0}) CallFault) → slice_get children place ≡ Some c → PermanentAreWanted children
    → PermanentAreWanted (slice_set children place (joined_as clock p c result))
joined_keeps children place clock p c result at k =
    kept_wanted children place c (joined_as clock p c result) at (joined_restart clock p c result) (λ is w. joined_wants clock p c result w) k

pub refused_keeps : (children : List Child) (place clock : ℕ) (f : Fault) (c : Child) → slice_get children place ≡ Some c → PermanentAreWanted children
    → PermanentAreWanted (slice_set children place (refused_child clock f c))
refused_keeps children place clock f c at k =
    kept_wanted children place c (refused_child clock f c) at (unstarted_restart clock f (record c { home = Elsewhere })) (λ is w. unstarted_wants clock f (record c { home = Elsewhere }) w) k

-- one that is being started has no process
and_left : (a b : Bool) → (a && b) ≡ true → a ≡ true
and_left true b h = refl
and_left false b h = absurd (cc)

bare_pid : (pid : Option Pid) → not (is_some pid) ≡ true → pid ≡ None
bare_pid None h = refl
bare_pid (Some p) h = absurd (cc)

coming_bare : (children : List Child) (place : ℕ) (c : Child) → place_coming children ≡ Some place → slice_get children place ≡ Some c → c.pid ≡ None
coming_bare children place c found at =
    let x = position-Some is_coming children place c found in
    let same : Some (get_or children place c) ≡ Some c = sym (slice_get-get_or children place c x.0) ∙ at in
    let is : get_or children place c ≡ c = cc in
    subst (λ (y : Child). y.pid ≡ None) is (bare_pid (get_or children place c).pid (and_left (not (is_some (get_or children place c).pid)) (is_abroad (get_or children place c).home) x.1))

-- what it does about it ----------------------------------------------------------------------------

or_left_false : (a b : Bool) → (a || b) ≡ false → (a ≡ false) × (b ≡ false)
or_left_false true b h = absurd (cc)
or_left_false false b h = (refl, h)

nowhere : (o : Option ℕ) → is_some o ≡ false → o ≡ None
nowhere None h = refl
nowhere (Some i) h = absurd (cc)

module _ (me p : Pid) (children : List Child) (new : is_no_newcomer me p children ≡ false) where
  both : ((p.shard == me.shard) ≡ false) × (is_some (position (λ (c : Child). is_pid c.pid p) children) ≡ false)
  both = or_left_false (p.shard == me.shard) (is_some (position (λ (c : Child). is_pid c.pid p) children)) new

  far : p.shard ≡ me.shard → ⊥
  far same = let bad : false ≡ true = sym both.0 ∙ eq-eqb p.shard me.shard same in absurd (cc)

  not_me : same_pid me p ≡ false
  not_me = go (same_pid me p) refl
    where
      go : (b : Bool) → same_pid me p ≡ b → b ≡ false
      go true is = absurd (far (sym (ap (λ (x : Pid). x.shard) (same_pid_is me p is))))
      go false is = refl

  fresh : (j : ℕ) → child_at children j ≡ Some p → ⊥
  fresh j is = let bad : true ≡ false = sym (same_pid_refl p) ∙ none_of p children (nowhere (position (λ (c : Child). is_pid c.pid p) children) both.1) j p is in absurd (cc)

  joined_kept : (past : Past) (started place : ℕ) (stopping : Option Reason) (c : Child) (e : ShardState) → slice_get children place ≡ Some c → c.pid ≡ None → IsHeld past me p e → Kept past children started stopping me e
      → Kept past (slice_set children place (joined_child p c)) started stopping me e
  joined_kept past started place stopping c e at missing held k = record {
    state = k.state;
    living_is = k.living_is;
    traps = k.traps;
    family = joins_family p children place c (joined_child p c) at missing refl past stopping me e fresh (λ own. absurd (far own)) held k.family;
    remembers = λ were q was. elim (k.remembers were q was) [
      | inl placed ↦ inl (still_placed p children place c (joined_child p c) at missing refl q placed)
      | inr told ↦ inr told
    ];
  }

  linked_kept_as : (past : Past) (started place clock : ℕ) (stopping : Option Reason) (c : Child) (d e : ShardState) (result : Result (Unit {0}) CallFault) → slice_get children place ≡ Some c → c.pid ≡ None → LinkedAs me p d e result
      → Kept past children started stopping me d → Kept past (slice_set children place (joined_as clock p c result)) started stopping me e
  linked_kept_as past started place clock stopping c d e (Ok x) at missing h k =
      joined_kept past started place stopping c e at missing (linked_held me p past children started stopping d e k x not_me h) (linked_kept me p past children started stopping d e k (Ok x) h)
  linked_kept_as past started place clock stopping c d e (Err f) at missing h k =
      kept_set past me e children started place stopping c (joined_as clock p c (Err f)) at (fault_pid clock p c f) (linked_kept me p past children started stopping d e k (Err f) h)

module _ (me : Pid) (place : ℕ) (p : Pid) (c : Child) (s : Standing) (d : DeskState) (t : Standing) (e : DeskState) (h : JoinsChild me place p c s d t e) where
  abbrev Outcome : Type 0
  Outcome = ((is_no_newcomer me p s.children ≡ true) × (h.result ≡ Err (CallFault.Refused NoProc)) × (e ≡ d)) ⊎ ((is_no_newcomer me p s.children ≡ false) × LinkedAs me p d.shard e.shard h.result)

  outcome : Outcome
  outcome = new_as me p (is_no_newcomer me p s.children) d e h.result h.links

  joins_goes : Goes me d.shard e.shard
  joins_goes = elim outcome [
    | inl old ↦ goes_is me d.shard e.shard (ap (λ (x : DeskState). x.shard) old.2)
    | inr new ↦ linked_goes me p d.shard e.shard h.result new.1
  ]

  joins_bare : children_by me e.shard.journal ≡ children_by me d.shard.journal
  joins_bare = elim outcome [
    | inl old ↦ ap (λ (x : DeskState). children_by me x.shard.journal) old.2
    | inr new ↦ linked_bare me p d.shard e.shard h.result new.1
  ]

  joins_kept : (past : Past) → slice_get s.children place ≡ Some c → c.pid ≡ None → Kept past s.children s.started s.stopping me d.shard
      → Kept past (slice_set s.children place (joined_as e.shard.clock p c h.result)) s.started s.stopping me e.shard
  joins_kept past at missing k = elim outcome [
    | inl old ↦ kept_set past me e.shard s.children s.started place s.stopping c (joined_as e.shard.clock p c h.result) at
        (subst (λ (r : Result (Unit {0}) CallFault). (joined_as e.shard.clock p c r).pid ≡ c.pid) (sym old.1) (fault_pid e.shard.clock p c (CallFault.Refused NoProc)))
        (kept_is past s.children s.started s.stopping me d.shard e.shard (ap (λ (x : DeskState). x.shard) old.2) k)
    | inr new ↦ linked_kept_as me p s.children new.0 past s.started place e.shard.clock s.stopping c d.shard e.shard h.result at missing new.1 k
  ]

module _ (me : Pid) (place : ℕ) (s : Standing) (d : DeskState) (next : Next) (t : Standing) (e : DeskState) where
  abbrev Waits : Type 0
  Waits = (next ≡ Wait Pick.Any) × (t ≡ s) × (e ≡ d)

  abbrev Links : Option Child → Type 0
  Links o = (c : Child) × (o ≡ Some c) × (p : Pid) × (next ≡ Proceed) × JoinsChild me place p c s d t e

  abbrev Fails : Option Child → Type 0
  Fails o = (c : Child) × (o ≡ Some c) × (f : Fault) × (next ≡ Proceed) × Misses place d.shard.clock f c s t × (e ≡ d)

  -- it links with a child, or notes of it that it was not started, or waits
  met_as : (home : Home) (c : Child) → MeetsAs me place c home s d next t e → Links (Some c) ⊎ (Fails (Some c) ⊎ Waits)
  met_as (Arrived p) c h = inl (c, refl, p, h.0, h.1)
  met_as (Missed f) c h = inr (inl (c, refl, f, h.0, h.1, h.2))
  met_as Here c h = inr (inr h)
  met_as Elsewhere c h = inr (inr h)
  met_as Awaited c h = inr (inr h)
  met_as Told c h = inr (inr h)

  met : (o : Option Child) → MeetsIn me place o s d next t e → Links o ⊎ (Fails o ⊎ Waits)
  met None h = absurd h
  met (Some c) h = met_as c.home c h

pub meets_goes : (me : Pid) (place : ℕ) (o : Option Child) (s : Standing) (d : DeskState) (next : Next) (t : Standing) (e : DeskState) → MeetsIn me place o s d next t e → Goes me d.shard e.shard
meets_goes me place o s d next t e h = elim (met me place s d next t e o h) [
  | inl x ↦ joins_goes me place x.2 x.0 s d t e x.4
  | inr (inl x) ↦ goes_is me d.shard e.shard (ap (λ (y : DeskState). y.shard) x.5)
  | inr (inr x) ↦ goes_is me d.shard e.shard (ap (λ (y : DeskState). y.shard) x.2)
]

-- it bears nobody
pub meets_bare : (me : Pid) (place : ℕ) (o : Option Child) (s : Standing) (d : DeskState) (next : Next) (t : Standing) (e : DeskState) → MeetsIn me place o s d next t e
    → (children_by me e.shard.journal ≡ children_by me d.shard.journal) × (t.started ≡ s.started)
meets_bare me place o s d next t e h = elim (met me place s d next t e o h) [
  | inl x ↦ (joins_bare me place x.2 x.0 s d t e x.4, ap (λ (y : Standing). y.started) x.4.new_is)
  | inr (inl x) ↦ (ap (λ (y : DeskState). children_by me y.shard.journal) x.5, ap (λ (y : Standing). y.started) x.4)
  | inr (inr x) ↦ (ap (λ (y : DeskState). children_by me y.shard.journal) x.2, ap (λ (y : Standing). y.started) x.1)
]

pub meets_ready : (me : Pid) (place : ℕ) (o : Option Child) (s : Standing) (d : DeskState) (next : Next) (t : Standing) (e : DeskState) (f : Phase) → MeetsIn me place o s d next t e → IsReady next f
meets_ready me place o s d next t e f h = elim (met me place s d next t e o h) [
  | inl x ↦ subst (λ (n : Next). IsReady n f) (sym x.3) tt
  | inr (inl x) ↦ subst (λ (n : Next). IsReady n f) (sym x.3) tt
  | inr (inr x) ↦ subst (λ (n : Next). IsReady n f) (sym x.0) tt
]

pub meets_kept : (me : Pid) (past : Past) (place : ℕ) (s : Standing) (d : DeskState) (next : Next) (t : Standing) (e : DeskState) → place_coming s.children ≡ Some place → MeetsIn me place (slice_get s.children place) s d next t e
    → Kept past s.children s.started s.stopping me d.shard → AreAsked past s.children s.asked me d.shard
    → Kept past t.children t.started t.stopping me e.shard × AreAsked past t.children t.asked me e.shard
meets_kept me past place s d next t e coming h k asks = elim (met me place s d next t e (slice_get s.children place) h) [
  | inl x ↦ subst (λ (y : Standing). Kept past y.children y.started y.stopping me e.shard × AreAsked past y.children y.asked me e.shard) (sym x.4.new_is) (
    joins_kept me place x.2 x.0 s d t e x.4 past x.1 (coming_bare s.children place x.0 coming x.1) k,
    λ a is placed. absurd (let bad : None ≡ Some a = is in cc),
  )
  | inr (inl x) ↦ subst (λ (y : Standing). Kept past y.children y.started y.stopping me e.shard × AreAsked past y.children y.asked me e.shard) (sym x.4) (
    kept_set past me e.shard s.children s.started place s.stopping x.0 (refused_child d.shard.clock x.2 x.0) x.1 (unstarted_pid d.shard.clock x.2 (record (x.0) { home = Elsewhere }))
        (kept_is past s.children s.started s.stopping me d.shard e.shard (ap (λ (y : DeskState). y.shard) x.5) k),
    λ a is placed. absurd (let bad : None ≡ Some a = is in cc),
  )
  | inr (inr x) ↦ subst (λ (y : Standing). Kept past y.children y.started y.stopping me e.shard × AreAsked past y.children y.asked me e.shard) (sym x.1)
      (subst (λ (y : DeskState). Kept past s.children s.started s.stopping me y.shard × AreAsked past s.children s.asked me y.shard) (sym x.2) (k, asks))
]

-- what it waits for ----------------------------------------------------------------------------------

pub meets_supervise : (me : Pid) (place : ℕ) (o : Option Child) (s : Standing) (d : DeskState) (next : Next) (t : Standing) (e : DeskState) → place_coming s.children ≡ Some place → MeetsIn me place o s d next t e → Supervises next t
meets_supervise me place o s d next t e coming h = elim (met me place s d next t e o h) [
  | inl x ↦ subst (λ (n : Next). Supervises n t) (sym x.3) tt
  | inr (inl x) ↦ subst (λ (n : Next). Supervises n t) (sym x.3) tt
  | inr (inr x) ↦ subst (λ (n : Next). Supervises n t) (sym x.0) (subst (λ (y : Standing). Supervises (Wait Pick.Any) y) (sym x.1)
      (subst (λ (b : Bool). MatchBool b (Unit {0}) (HasNothingToDo s)) (sym (ap is_some coming)) tt))
]

-- one that has nothing to do
settled_in : (waiting : Bool) (s : Standing) → HasNothingToDo s → MatchBool waiting (Unit {0}) (HasNothingToDo s)
settled_in true s h = tt
settled_in false s h = h

pub settled_waits : (s : Standing) → HasNothingToDo s → Supervises (Wait Pick.Any) s
settled_waits s h = settled_in (is_waiting s.children) s h

-- where no child is being started on another desk
pub waits_settled : (s : Standing) → Supervises (Wait Pick.Any) s → is_waiting s.children ≡ false → HasNothingToDo s
waits_settled s h none = subst (λ (b : Bool). MatchBool b (Unit {0}) (HasNothingToDo s)) none h
