-- Whom a supervisor bears, its program gave.
use Rattle.std.proofs.Common.{◌≡◌, ℕ, zero, suc, Bool, true, false, List, [], ◌∷◌, ◌++◌, length, slice_get, Option, Some, None, Result, Ok, Err, sym, ap, subst, ◌∙◌, append_assoc, append-nil}
use Rattle.std.specs.Prelude.{MatchBool}
use Rattle.std.proofs.Math.Seq.{drop-append_seam}
use Rattle.pt_signal.specs.declared.pid.Pid.{Pid}
use Rattle.pt_signal.specs.declared.item.Item.{Item}
use Rattle.pt_signal.specs.declared.reason.Reason.{Reason}
use Rattle.pt_shard.specs.declared.fault.Fault.{Fault}
use Rattle.pt_behaviour.specs.declared.behaviour.Next.{Next}
use Rattle.pt_behaviour.specs.declared.births.Role.{Role}
use Rattle.pt_shard.specs.ShardState.{ShardState}
use Rattle.pt_behaviour.specs.Births.{Bore, bore}
use Rattle.pt_children.specs.declared.children.Child.{Child}
use Rattle.pt_children.specs.declared.children.Shutdown.{Shutdown}
use Rattle.pt_children.specs.declared.restart.Strategy.{Strategy}
use Rattle.pt_children.specs.Children.{last_alive}
use Rattle.pt_children.specs.Homes.{is_here, place_coming}
use Rattle.pt_children.specs.Trying.{is_startable}
use Rattle.pt_supervisor.specs.Supervising.{StartsOf, Nursery, BearsAs, SpawnsChildAt, AsksProgramFor, TriesAt, StartsAt, StartsOne, StartsFirst, StartsUpTo, SupervisorScene, nursery, SupervisorSettles, AdvancesAs, SupervisorHandles, GoesForward, after_attending}
use Rattle.pt_supervisor.specs.Keeping.{AllStarted, AllBegin, SupervisorBegins, BearsFrom, PartOf}

module _ {S B : Type 0} (starts : StartsOf S B) (me : Pid) where
  started_both : (xs ys : List (Role B)) → AllStarted starts me xs → AllStarted starts me ys → AllStarted starts me (xs ++ ys)
  started_both [] ys a b = b
  started_both (r ∷ xs) ys a b = (a.0, started_both xs ys a.1 b)

  from_none : (old new : List (Role B)) → new ≡ old → BearsFrom starts me old new
  from_none old new is = ([], is ∙ sym (append-nil old), tt)

  from_then : (old mid new : List (Role B)) → BearsFrom starts me old mid → BearsFrom starts me mid new → BearsFrom starts me old new
  from_then old mid new a b = (a.0 ++ b.0, b.1 ∙ ap (λ (xs : List (Role B)). xs ++ b.0) a.1 ∙ append_assoc old a.0 b.0, started_both a.0 b.0 a.2 b.2)

  bore_from : (place : ℕ) (b : B) (first : Next) (was later : S) (d e : ShardState) (old new : List (Role B)) (born : Result Pid Fault) → starts was me place (Ok (b, first)) later
      → Bore me true b first d old born e new → BearsFrom starts me old new
  bore_from place b first was later d e old new (Ok p) s h = (record { pid = p; behaviour = b; next = first } ∷ [], h.1, ((was, place, later, s), tt))
  bore_from place b first was later d e old new (Err f) s h = from_none old new h.1

  bears_from : (place : ℕ) (c : Child) (begins : Result (B × Next) Fault) (old new : Nursery S B) → starts old.start me place begins new.start → BearsAs me place c begins old new → BearsFrom starts me old.born new.born
  bears_from place c (Err f) old new s h = from_none old.born new.born h.2
  bears_from place c (Ok (b, first)) old new s h = bore_from place b first old.start new.start old.desk new.desk old.born new.born h.0 s h.1

  tries_from : (here : Bool) (place : ℕ) (c : Child) (old new : Nursery S B) → MatchBool here (SpawnsChildAt starts me place c old new) (AsksProgramFor place c old new) → BearsFrom starts me old.born new.born
  tries_from true place c old new h = bears_from place c h.0 old new h.1 h.2
  tries_from false place c old new h = from_none old.born new.born (ap (λ (n : Nursery S B). n.born) h)

  due_from : (due : Bool) (place : ℕ) (c : Child) (old new : Nursery S B) → MatchBool due (TriesAt starts me place c old new) (new ≡ old) → BearsFrom starts me old.born new.born
  due_from true place c old new h = tries_from (is_here c.home) place c old new h
  due_from false place c old new h = from_none old.born new.born (ap (λ (n : Nursery S B). n.born) h)

  module _ (strategy : Strategy) where
    at_from : (place : ℕ) (o : Option Child) (old new : Nursery S B) (answer : Bool) → StartsAt starts me strategy place o old answer new → BearsFrom starts me old.born new.born
    at_from place None old new answer h = absurd h
    at_from place (Some c) old new answer h = due_from (is_startable c) place c old new h.1

    one_from : (place : ℕ) (old new : Nursery S B) (answer : Bool) → StartsOne starts me strategy place old answer new → BearsFrom starts me old.born new.born
    one_from place old new answer h = at_from place (slice_get old.children place) old new answer h

    first_from : (n : ℕ) (old new : Nursery S B) → StartsFirst starts me strategy n old new → BearsFrom starts me old.born new.born
    first_from zero old new h = from_none old.born new.born (ap (λ (x : Nursery S B). x.born) h)
    first_from (suc n) old new h = from_then old.born h.0.born new.born (first_from n old h.0 h.1) (one_from n h.0 new true h.2)

    all_from : (count : ℕ) (old new : Nursery S B) (through : Bool) → StartsUpTo starts me strategy count old through new → BearsFrom starts me old.born new.born
    all_from count old new true h = first_from count old new h
    all_from count old new false h = from_then old.born h.2.born new.born (first_from h.0 old h.2 h.3) (one_from h.0 h.2 new false h.4)

  settles_from : (stopping : Option Reason) (old : SupervisorScene S B) (next : Next) (new : SupervisorScene S B) → SupervisorSettles starts me stopping old next new → BearsFrom starts me old.born new.born
  settles_from (Some r) old next new h = from_none old.born new.born (ap (λ (x : SupervisorScene S B). x.born) h.1)
  settles_from None old next new h = all_from old.standing.strategy (length old.standing.children) (nursery old) (nursery new) h.1.0 h.1.1

  advances_from : (now : ℕ) (last : Option (Pid × Shutdown)) (old : SupervisorScene S B) (next : Next) (new : SupervisorScene S B) → AdvancesAs starts me now last old next new → BearsFrom starts me old.born new.born
  advances_from now (Some (p, shutdown)) old next new h = from_none old.born new.born h.2
  advances_from now None old next new h = settles_from old.standing.stopping old next new h

  forward_from : (now : ℕ) (coming : Option ℕ) (mid : SupervisorScene S B) (next : Next) (new : SupervisorScene S B) → GoesForward starts me now coming mid next new → BearsFrom starts me mid.born new.born
  forward_from now None mid next new h = advances_from now (last_alive mid.standing.children mid.standing.ending (length mid.standing.children)) mid next new h
  forward_from now (Some place) mid next new h = from_none mid.born new.born h.2

  then_from : (now : ℕ) (answer : Bool) (mid : SupervisorScene S B) (next : Next) (new : SupervisorScene S B) → after_attending starts me now answer mid next new → BearsFrom starts me mid.born new.born
  then_from now true mid next new h = forward_from now (place_coming mid.standing.children) mid next new h
  then_from now false mid next new h = from_none mid.born new.born (ap (λ (x : SupervisorScene S B). x.born) h.1)

  pub handles_bear : (time : ℕ) (item : Option Item) (old : SupervisorScene S B) (next : Next) (new : SupervisorScene S B) → SupervisorHandles starts me time item old next new → BearsFrom starts me old.born new.born
  handles_bear time item old next new h = from_then old.born h.mid.born new.born (from_none old.born h.mid.born h.same.1) (then_from time h.answer h.mid next new h.goes)

  -- so, where the program's `Start` gives only such as begin, all of them do
  pub bore_begin : (part : PartOf B) → ((was : S) (place : ℕ) (b : B) (first : Next) (later : S) → starts was me place (Ok (b, first)) later → SupervisorBegins (part b) first)
      → (old new : List (Role B)) → BearsFrom starts me old new → AllBegin part (bore old new)
  bore_begin part law old new h =
      subst (AllBegin part) (sym (ap (bore old) h.1 ∙ drop-append_seam old h.0)) (all h.0 h.2)
    where
      all : (rs : List (Role B)) → AllStarted starts me rs → AllBegin part rs
      all [] a = tt
      all (r ∷ rs) a = (law a.0.0 a.0.1 r.behaviour r.next a.0.2 a.0.3, all rs a.1)
