-- A call of a process writes one event of its own or none, and the accounts stay.
use Rattle.std.proofs.Common.{◌≡◌, ℕ, ◌+◌, ◌<◌, ◌⊎◌, inl, inr, Bool, true, false, cond, List, [], length, Option, Some, None, refl, sym, ap, ◌∙◌, subst, append-nil}
use Rattle.std.specs.Prelude.{⊤, Result, Ok, Err}
use Rattle.std.specs.Option.{option_map}
use Rattle.pt_signal.specs.declared.pid.Pid.{Pid}
use Rattle.pt_signal.specs.declared.ids.Ref.{Ref}
use Rattle.pt_signal.specs.declared.ids.LinkId.{LinkId}
use Rattle.pt_signal.specs.declared.item.Item.{Item}
use Rattle.pt_signal.specs.declared.item.Pick.{Pick}
use Rattle.pt_signal.specs.declared.signal.Signal.{Signal}
use Rattle.pt_signal.specs.declared.signal.Signal.TheVariants.{Link, Unlink}
use Rattle.pt_events.specs.declared.event.Event.{Event}
use Rattle.pt_events.specs.declared.event.Event.TheVariants.{Born, Said, Took, Flag}
use Rattle.pt_events.specs.History.{Start, Past}
use Rattle.pt_events.specs.Journal.{got_of, gots}
use Rattle.pt_directory.specs.declared.view.Read.{Read}
use Rattle.pt_directory.specs.Seats.{SeatState}
use Rattle.pt_carrier.specs.Ends.{OutEnds, InEnds}
use Rattle.pt_shard.specs.declared.fault.Fault.{Fault}
use Rattle.pt_shard.specs.declared.fault.Fault.TheVariants.{Full, Memory, Worn, Gone, Myself, NoProc}
use Rattle.pt_shard.specs.ShardState.{ShardState, past, written, shard_after, ended_in}
use Rattle.pt_shard.specs.Fit.{IsFit, IsNextBirth}
use Rattle.pt_shard.specs.Calls.{Calls, Monitors, Bears, BearsChild, link_event, unlink_event, take_event, demonitor_at, held_by, first_match, new_link}
use Rattle.pt_desk.specs.Sight.{Sight, IsSeen, IsSeated, HasWordsAt, seat_of}
use Rattle.pt_desk.specs.DeskState.{IsAccounted}
use Rattle.pt_desk.proofs.Accounts.{accounted_by, posts_written}
use Rattle.pt_desk.proofs.Seating.{IsWhole, next_shard, seated_written, seat_written}

-- it is no receipt, ends nobody, and is no refused call
pub record IsOwn (e : Event) : Type 0 where
  pub nothing_came : (d n : ℕ) → got_of d n e ≡ []
  pub nobody_ended : (start : Start) (past : Past) → ended_in start past e ≡ None
  pub nothing_seen : (reads : List Read) (n : ℕ) → IsSeen reads n e

-- and no birth either
abbrev pub IsOwnCall : Event → Type 0
IsOwnCall e = IsOwn e × ((slots : ℕ) → HasWordsAt slots e)

abbrev pub IsOwnIf : Option Event → Type 0
IsOwnIf None = ⊤
IsOwnIf (Some e) = IsOwnCall e

-- one event of the desk's own, or none
pub record Writes (event : Event) (old new : ShardState) : Type 0 where
  pub own : IsOwn event
  pub words : HasWordsAt old.config.slots event
  pub stamp : ℕ
  pub new_is : new ≡ record (written stamp event old) { vacant = new.vacant }

abbrev pub IsStep : ShardState → ShardState → Type 0
IsStep old new = (new ≡ old) ⊎ ((event : Event) × Writes event old new)

pub written_accounted : (s : ShardState) (o : OutEnds) (i : InEnds) (n : ℕ) (event : Event) (vacant : Option Pid) → ((d n : ℕ) → got_of d n event ≡ []) → length s.outbox ≡ s.config.desks → IsAccounted s o i
    → IsAccounted (next_shard n event vacant s) o i
written_accounted s o i n event vacant nothing_came boxes acc =
    accounted_by s (next_shard n event vacant s) o i acc refl refl (posts_written s o i boxes acc n event) (λ d h. rw (nothing_came d n, append-nil (gots s.journal d)) (acc.collected d h))

pub step_whole : (s s' : ShardState) (o : OutEnds) (i : InEnds) (v : Sight) (seat : SeatState) → IsStep s s' → IsWhole s o i v seat → IsFit s' → IsWhole s' o i v seat
step_whole s s' o i v seat step whole fit =
    elim step [
      | inl same ↦ (
        record { fit = fit; accounts = subst (λ z. IsAccounted z o i) (sym same) whole.0.accounts; seated = subst (λ z. IsSeated z v) (sym same) whole.0.seated },
        whole.1 ∙ ap (λ z. seat_of z v) (sym same),
      )
      | inr writes ↦
          let w = writes.1 in (
            record {
              fit = fit;
              accounts = subst (λ z. IsAccounted z o i) (sym w.new_is) (written_accounted s o i w.stamp writes.0 s'.vacant w.own.nothing_came whole.0.fit.boxes whole.0.accounts);
              seated = subst (λ z. IsSeated z v) (sym w.new_is) (seated_written s v w.stamp writes.0 s'.vacant whole.0.seated (w.own.nothing_seen v.reads w.stamp) w.words);
            },
            whole.1 ∙ sym (ap (λ z. seat_of z v) w.new_is ∙ seat_written s v w.stamp writes.0 s'.vacant (w.own.nobody_ended s.start (past s))),
          )
    ]

-- each call takes such a step ----------------------------------------------------------

pub calls_step : {A : Type 0} (p : Pid) (event : Option Event) (answer : A) (old : ShardState) (r : Result A Fault) (new : ShardState) → IsOwnIf event → Calls p event answer old r new → IsStep old new
calls_step p None answer old (Ok a) new own h = inl h.3
calls_step p (Some e) answer old (Ok a) new own h = inr (e, record { own = own.0; words = own.1 old.config.slots; stamp = old.clock + 1; new_is = h.3 ∙ ap (λ v. record (shard_after e old) { vacant = v }) (sym (ap (λ (s : ShardState). s.vacant) h.3)) })
calls_step p event answer old (Err Gone) new own h = inl h.1
calls_step p event answer old (Err Worn) new own h = inl h.3
calls_step p event answer old (Err Memory) new own h = inl h.3
calls_step p event answer old (Err Full) new own h = absurd h
calls_step p event answer old (Err Myself) new own h = absurd h
calls_step p event answer old (Err NoProc) new own h = absurd h

pub monitors_step : (w t : Pid) (old : ShardState) (r : Result Ref Fault) (new : ShardState) → Monitors w t old r new → IsStep old new
monitors_step w t old (Ok m) new h = calls_step w (Some _) _ old (Ok m) new (record { nothing_came = λ d n. refl; nobody_ended = λ start past. refl; nothing_seen = λ reads n. tt }, λ slots. tt) h.1
monitors_step w t old (Err Gone) new h = inl h.1
monitors_step w t old (Err Myself) new h = inl h.2
monitors_step w t old (Err Worn) new h = inl h.3
monitors_step w t old (Err Memory) new h = inl h.3
monitors_step w t old (Err Full) new h = absurd h
monitors_step w t old (Err NoProc) new h = absurd h

below : (d : ShardState) (p : Pid) → IsNextBirth d (Some p) → p.slot < d.config.slots
unfolding IsNextBirth
below d p h = h.1

pub bears_step : (parent : Option Pid) (link : Option LinkId) (old : ShardState) (r : Result Pid Fault) (new : ShardState) → IsFit old → Bears parent link old r new → IsStep old new
bears_step parent link old (Ok p) new fit h = inr (Born p parent link, record { own = record { nothing_came = λ d n. refl; nobody_ended = λ start past. refl; nothing_seen = λ reads n. tt }; words = below old p (subst (IsNextBirth old) h.1 fit.vacant); stamp = old.clock + 1; new_is = h.2 })
bears_step parent link old (Err Worn) new fit h = inl h.1
bears_step parent link old (Err Full) new fit h = inl h.2
bears_step parent link old (Err Memory) new fit h = inl h.2
bears_step parent link old (Err Gone) new fit h = absurd h
bears_step parent link old (Err Myself) new fit h = absurd h
bears_step parent link old (Err NoProc) new fit h = absurd h

pub bears_child_step : (parent : Pid) (linked : Bool) (old : ShardState) (r : Result Pid Fault) (new : ShardState) → IsFit old → BearsChild parent linked old r new → IsStep old new
bears_child_step parent linked old (Ok p) new fit h = bears_step (Some parent) _ old (Ok p) new fit h.1
bears_child_step parent linked old (Err Gone) new fit h = inl h.1
bears_child_step parent linked old (Err Worn) new fit h = inl h.2
bears_child_step parent linked old (Err Full) new fit h = inl h.3
bears_child_step parent linked old (Err Memory) new fit h = inl h.3
bears_child_step parent linked old (Err Myself) new fit h = absurd h
bears_child_step parent linked old (Err NoProc) new fit h = absurd h

-- none of their events is a receipt ------------------------------------------------------

pub own_said : (a b : Pid) (x : Signal) → IsOwnCall (Said a b x)
own_said a b x = (record { nothing_came = λ d n. refl; nobody_ended = λ start past. refl; nothing_seen = λ reads n. tt }, λ slots. tt)

pub own_flag : (p : Pid) (on : Bool) → IsOwnCall (Flag p on)
own_flag p on = (record { nothing_came = λ d n. refl; nobody_ended = λ start past. refl; nothing_seen = λ reads n. tt }, λ slots. tt)

own_took : (p : Pid) (k : Pick) (i : Item) → IsOwnCall (Took p k i)
own_took p k i = (record { nothing_came = λ d n. refl; nobody_ended = λ start past. refl; nothing_seen = λ reads n. tt }, λ slots. tt)

own_unless : (b : Bool) (e : Event) → IsOwnCall e → IsOwnIf (cond b None (Some e))
own_unless true e h = tt
own_unless false e h = h

own_map : {A : Type 0} (f : A → Event) (o : Option A) → ((a : A) → IsOwnCall (f a)) → IsOwnIf (option_map f o)
own_map f None h = tt
own_map f (Some a) h = h a

pub own_link : (d : ShardState) (p to : Pid) → IsOwnIf (link_event d p to)
own_link d p to = own_unless _ (Said p to (Link (new_link d))) (own_said p to (Link (new_link d)))

pub own_unlink : (d : ShardState) (p to : Pid) → IsOwnIf (unlink_event d p to)
own_unlink d p to = own_map (λ ids. Said p to (Unlink ids)) (held_by d p to) (λ ids. own_said p to (Unlink ids))

pub own_take : (d : ShardState) (p : Pid) (k : Pick) → IsOwnIf (take_event d p k)
own_take d p k = own_map (Took p k) (first_match d p k) (own_took p k)

pub own_demonitor : (t : Option Pid) (d : ShardState) (w : Pid) (m : Ref) (flush : Bool) → IsOwnIf (demonitor_at t d w m flush)
own_demonitor (Some t) d w m flush = own_said w t _
own_demonitor None d w m true = own_take d w (Pick.DownOf m)
own_demonitor None d w m false = tt
