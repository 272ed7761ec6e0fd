-- Which calls take an item.
use Rattle.std.proofs.Common.{◌≡◌, Bool, true, false, List, ◌∷◌, Option, Some, None, Result, Ok, Err, refl, sym, ap, ◌∙◌}
use Rattle.std.specs.Prelude.{MatchOption, ℕ, cond}
use Rattle.std.specs.Result.{IsErrAnd}
use Rattle.std.specs.Option.{option_map}
use Rattle.pt_signal.specs.declared.pid.Pid.{Pid}
use Rattle.pt_signal.specs.declared.ids.Ref.{Ref}
use Rattle.pt_signal.specs.declared.ids.LinkId.{LinkId}
use Rattle.pt_signal.specs.declared.ids.Ids.{Ids}
use Rattle.pt_signal.specs.Values.{same_ref}
use Rattle.std.specs.Map.{lookup}
use Rattle.pt_signal.specs.declared.item.Item.{Item}
use Rattle.pt_signal.specs.declared.item.Pick.{Pick}
use Rattle.pt_signal.specs.declared.item.Body.{Body}
use Rattle.pt_signal.specs.declared.reason.Reason.{Reason}
use Rattle.pt_signal.specs.declared.signal.Signal.{Signal}
use Rattle.pt_signal.specs.declared.signal.Signal.TheVariants.{Message, Link, Unlink, Monitor, Demonitor}
use Rattle.pt_events.specs.declared.event.Event.{Event}
use Rattle.pt_events.specs.declared.event.Event.TheVariants.{Took, Left, Said, Flag}
use Rattle.pt_shard.specs.declared.fault.Fault.{Fault}
use Rattle.pt_shard.specs.declared.fault.Fault.TheVariants.{Full, Memory, Worn, Gone, Myself, NoProc}
use Rattle.pt_shard.specs.ShardState.{ShardState, lives, state_in}
use Rattle.pt_shard.specs.Calls.{BearsChild, Calls, Monitors, Refuses, after_if, new_ref, new_link, held_by, link_event, unlink_event, demonitor_at, demonitor_event, take_event, first_match}
use Rattle.pt_desk.specs.DeskState.{DeskState}
use Rattle.pt_desk.specs.Reaching.{Reaches, has_link_to_make, has_monitor_to_make}
use Rattle.pt_workers.proofs.GoingOn.{stays}
use Rattle.pt_behaviour.proofs.Telling.{is_answered}
use Rattle.pt_behaviour.specs.Behaving.{takes, takes_by}

abbrev taken : ShardState → List (Pid × Item)
taken d = takes d.journal

-- a call whose event takes nothing
pub other_takes : {A : Type 0} (p : Pid) (e : Event) (a : A) (old new : ShardState) (r : Result A Fault) → takes_by e (taken old) ≡ taken old → Calls p (Some e) a old r new → takes new.journal ≡ takes old.journal
other_takes p e a old new (Ok x) none c = ap taken c.3 ∙ none
other_takes p e a old new (Err Gone) none c = ap taken c.1
other_takes p e a old new (Err Worn) none c = ap taken c.3
other_takes p e a old new (Err Memory) none c = ap taken c.3
other_takes p e a old new (Err Full) none c = absurd c
other_takes p e a old new (Err Myself) none c = absurd c
other_takes p e a old new (Err NoProc) none c = absurd c

pub said_takes : (p q : Pid) (x : Signal) (old new : ShardState) (r : Result (Unit {0}) Fault) → Calls p (Some (Said p q x)) (tt {0}) old r new → takes new.journal ≡ takes old.journal
said_takes p q x old new r c = other_takes p (Said p q x) tt old new r refl c

pub left_takes : (p : Pid) (why : Reason) (old new : ShardState) (r : Result (Unit {0}) Fault) → Calls p (Some (Left p why)) (tt {0}) old r new → takes new.journal ≡ takes old.journal
left_takes p why old new r c = other_takes p (Left p why) tt old new r refl c

none_fits : (p : Pid) (k : Pick) (d : ShardState) (found : Option Item) → None ≡ found → taken (after_if (option_map (Took p k) found) d) ≡ taken d
none_fits p k d None e = refl
none_fits p k d (Some i) e = absurd (cc)

same_item : (i j : Item) → Some i ≡ Some j → i ≡ j
same_item i j e = cc

one_fits : (p : Pid) (k : Pick) (d : ShardState) (i : Item) (found : Option Item) → Some i ≡ found → taken (after_if (option_map (Took p k) found) d) ≡ (p, i) ∷ taken d
one_fits p k d i None e = absurd (cc)
one_fits p k d i (Some j) e = ap (λ (x : Item). (p, x) ∷ taken d) (sym (same_item i j e))

-- a receive that finds nothing, or takes one item
pub none_taken : (p : Pid) (k : Pick) (old new : ShardState) → Calls p (take_event old p k) (first_match old p k) old (Ok None) new → takes new.journal ≡ takes old.journal
none_taken p k old new c = ap taken c.3 ∙ none_fits p k old (first_match old p k) c.2

pub one_taken : (p : Pid) (k : Pick) (i : Item) (old new : ShardState) → Calls p (take_event old p k) (first_match old p k) old (Ok (Some i)) new → takes new.journal ≡ (p, i) ∷ takes old.journal
one_taken p k i old new c = ap taken c.3 ∙ one_fits p k old i (first_match old p k) c.2

pub refused_taken : (p : Pid) (k : Pick) (f : Fault) (old new : ShardState) → Calls p (take_event old p k) (first_match old p k) old (Err f) new → takes new.journal ≡ takes old.journal
refused_taken p k Gone old new c = ap taken c.1
refused_taken p k Worn old new c = ap taken c.3
refused_taken p k Memory old new c = ap taken c.3
refused_taken p k Full old new c = absurd c
refused_taken p k Myself old new c = absurd c
refused_taken p k NoProc old new c = absurd c

-- the note of a refused call takes nothing
refuses_takes : (p t : Pid) (n : ℕ) (old : ShardState) (f : Fault) (new : ShardState) → Refuses p t n old f new → taken new ≡ taken old
refuses_takes p t n old NoProc new h = ap taken h.1
refuses_takes p t n old Worn new h = ap taken h.1
refuses_takes p t n old Memory new h = ap taken h.1
refuses_takes p t n old Full new h = absurd h
refuses_takes p t n old Gone new h = absurd h
refuses_takes p t n old Myself new h = absurd h

refused_takes : {A : Type 0} (p t : Pid) (n : ℕ) (old new : ShardState) (r : Result A Fault) → IsErrAnd r (λ f. Refuses p t n old f new) → taken new ≡ taken old
refused_takes p t n old new (Ok a) h = absurd h
refused_takes p t n old new (Err f) h = refuses_takes p t n old f new h

looked_takes : {A : Type 0} (p t : Pid) (call : Type 0) (old : ShardState) (r : Result A Fault) (new : ShardState) (seen : Option ℕ)
    → (call → taken new ≡ taken old) → MatchOption seen call (λ n. IsErrAnd r (λ f. Refuses p t n old f new)) → taken new ≡ taken old
looked_takes p t call old r new None by h = by h
looked_takes p t call old r new (Some n) by h = refused_takes p t n old new r h

-- a call that reaches for another process takes nothing where it takes nothing once it is made
reached_takes : {A : Type 0} (looks : Bool) (p t : Pid) (call : Type 0) (old : DeskState) (r : Result A Fault) (new : DeskState)
    → (call → taken new.shard ≡ taken old.shard) → Reaches looks p t call old r new → taken new.shard ≡ taken old.shard
reached_takes true p t call old r new by h = looked_takes p t call old.shard r new.shard h.seen by h.does
reached_takes false p t call old r new by h = by h.0

pub sent_takes : (p t : Pid) (body : Body) (old : DeskState) (r : Result (Unit {0}) Fault) (new : DeskState)
    → Reaches (lives old.shard p) p t (Calls p (Some (Said p t (Message body))) (tt {0}) old.shard r new.shard) old r new → takes new.shard.journal ≡ takes old.shard.journal
sent_takes p t body old r new h =
    reached_takes (lives old.shard p) p t _ old r new (said_takes p t (Message body) old.shard new.shard r) h

monitors_takes : (w t : Pid) (old new : ShardState) (r : Result Ref Fault) → Monitors w t old r new → taken new ≡ taken old
monitors_takes w t old new (Ok m) h = other_takes w (Said w t (Monitor (new_ref old))) (new_ref old) old new (Ok m) refl h.1
monitors_takes w t old new (Err Gone) h = ap taken h.1
monitors_takes w t old new (Err Myself) h = ap taken h.2
monitors_takes w t old new (Err Worn) h = ap taken h.3
monitors_takes w t old new (Err Memory) h = ap taken h.3
monitors_takes w t old new (Err Full) h = absurd h
monitors_takes w t old new (Err NoProc) h = absurd h

pub watched_takes : (w t : Pid) (old : DeskState) (r : Result Ref Fault) (new : DeskState)
    → Reaches (has_monitor_to_make old.shard w t) w t (Monitors w t old.shard r new.shard) old r new → takes new.shard.journal ≡ takes old.shard.journal
watched_takes w t old r new h = reached_takes (has_monitor_to_make old.shard w t) w t _ old r new (monitors_takes w t old.shard new.shard r) h

none_takes : {A : Type 0} (p : Pid) (a : A) (old new : ShardState) (r : Result A Fault) → Calls p None a old r new → taken new ≡ taken old
none_takes p a old new (Ok x) c = ap taken c.3
none_takes p a old new (Err Gone) c = ap taken c.1
none_takes p a old new (Err Worn) c = ap taken c.3
none_takes p a old new (Err Memory) c = ap taken c.3
none_takes p a old new (Err Full) c = absurd c
none_takes p a old new (Err Myself) c = absurd c
none_takes p a old new (Err NoProc) c = absurd c

link_takes : (made : Bool) (p t : Pid) (l : LinkId) (old new : ShardState) (r : Result (Unit {0}) Fault) → Calls p (cond made None (Some (Said p t (Link l)))) (tt {0}) old r new → taken new ≡ taken old
link_takes true p t l old new r c = none_takes p tt old new r c
link_takes false p t l old new r c = said_takes p t (Link l) old new r c

pub linked_takes : (p t : Pid) (old : DeskState) (r : Result (Unit {0}) Fault) (new : DeskState)
    → Reaches (has_link_to_make old.shard p t) p t (Calls p (link_event old.shard p t) (tt {0}) old.shard r new.shard) old r new → takes new.shard.journal ≡ takes old.shard.journal
linked_takes p t old r new h =
    reached_takes (has_link_to_make old.shard p t) p t _ old r new (link_takes _ p t (new_link old.shard) old.shard new.shard r) h

pub bore_takes : (p : Pid) (linked : Bool) (old new : ShardState) (r : Result Pid Fault) → BearsChild p linked old r new → takes new.journal ≡ takes old.journal
bore_takes p linked old new (Ok q) h = ap taken h.1.2
bore_takes p linked old new (Err Gone) h = ap taken h.1
bore_takes p linked old new (Err Worn) h = ap taken h.2
bore_takes p linked old new (Err Full) h = ap taken h.3
bore_takes p linked old new (Err Memory) h = ap taken h.3
bore_takes p linked old new (Err Myself) h = absurd h
bore_takes p linked old new (Err NoProc) h = absurd h

unlink_takes : (ids : Option Ids) (p t : Pid) (old new : ShardState) (r : Result (Unit {0}) Fault) → Calls p (option_map (λ (i : Ids). Said p t (Unlink i)) ids) (tt {0}) old r new → taken new ≡ taken old
unlink_takes None p t old new r c = none_takes p tt old new r c
unlink_takes (Some ids) p t old new r c = said_takes p t (Unlink ids) old new r c

pub unlinked_takes : (p t : Pid) (old new : ShardState) (r : Result (Unit {0}) Fault) → Calls p (unlink_event old p t) (tt {0}) old r new → takes new.journal ≡ takes old.journal
unlinked_takes p t old new r c = unlink_takes (held_by old p t) p t old new r c

unwatch_takes : (t : Option Pid) (w : Pid) (m : Ref) (answer : Bool) (old new : ShardState) (r : Result Bool Fault) → Calls w (demonitor_at t old w m false) answer old r new → taken new ≡ taken old
unwatch_takes None w m answer old new r c = none_takes w answer old new r c
unwatch_takes (Some t) w m answer old new r c = other_takes w (Said w t (Demonitor m)) answer old new r refl c

pub unwatched_takes : (w : Pid) (m : Ref) (answer : Bool) (old new : ShardState) (r : Result Bool Fault) → Calls w (demonitor_event old w m false) answer old r new → takes new.journal ≡ takes old.journal
unwatched_takes w m answer old new r c = unwatch_takes (lookup (same_ref m) (state_in old w).watching) w m answer old new r c

pub flag_takes : (p : Pid) (on answer : Bool) (old new : ShardState) (r : Result Bool Fault) → Calls p (Some (Flag p on)) answer old r new → takes new.journal ≡ takes old.journal
flag_takes p on answer old new r c = other_takes p (Flag p on) answer old new r refl c

-- for the calls of a behaviour
pub ruleset calling = (is_answered, stays, sent_takes, watched_takes, linked_takes, said_takes, unlinked_takes, unwatched_takes, flag_takes)
