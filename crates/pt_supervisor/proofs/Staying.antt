-- A supervisor that spawns all its children starts none of them on another desk.
use Rattle.std.proofs.Common.{◌≡◌, inl, inr, ℕ, zero, suc, ◌==◌, Bool, true, false, cond, ◌&&◌, not, List, [], ◌∷◌, ◌++◌, length, slice_get, slice_set, get_or, Option, Some, None, Result, Ok, Err, is_some, refl, sym, ap, subst, ◌∙◌}
use Rattle.std.specs.Prelude.{MatchBool, nat_le, position, remove}
use Rattle.std.proofs.lemmas.Bool.{cases_eq}
use Rattle.std.proofs.lemmas.List.Quantifiers.{position-Some}
use Rattle.std.proofs.lemmas.Option.{slice_get_within, slice_get-get_or}
use Rattle.pt_signal.specs.declared.pid.Pid.{Pid}
use Rattle.pt_signal.specs.declared.item.Item.{Item}
use Rattle.pt_signal.specs.declared.item.Item.TheVariants.{User, Exit, Down, Alive}
use Rattle.pt_signal.specs.declared.reason.Reason.{Reason}
use Rattle.pt_signal.specs.Values.{is_pid}
use Rattle.pt_shard.specs.declared.fault.Fault.{Fault}
use Rattle.pt_desk.specs.DeskState.{DeskState}
use Rattle.pt_behaviour.specs.declared.behaviour.Next.{Next}
use Rattle.pt_children.specs.declared.child_fault.ChildFault.{ChildFault}
use Rattle.pt_children.specs.declared.children.Child.{Child}
use Rattle.pt_children.specs.declared.children.Shutdown.{Shutdown}
use Rattle.pt_children.specs.declared.home.Home.TheVariants.{Here}
use Rattle.pt_children.specs.declared.restart.Strategy.{Strategy}
use Rattle.pt_children.specs.declared.seen.ChildState.{ChildState}
use Rattle.pt_children.specs.declared.seen.ChildState.TheVariants.{Running, Restarting, Undefined}
use Rattle.pt_children.specs.declared.trial.Trial.TheVariants.{Again, Asked}
use Rattle.pt_children.specs.Answering.{AnswersAt, AsksToStartAt}
use Rattle.pt_children.specs.Calling.{AddsAt, AddsLast, DeletesAs, DeletesAt, DeletesIn, FindsPresent, RestartsAs, RestartsAt, RestartsIn, TerminatesAt, place_of_id, wanted_in, with_last_child, with_wanted, without_child}
use Rattle.pt_children.specs.Children.{last_alive, revive_in, revived, revived_child}
use Rattle.pt_children.specs.Ending.{gone_in, stage_of}
use Rattle.pt_children.specs.Hearing.{Standing, gone, gone_heard, gone_on, heard, heard_at, heard_gone, lost, monitor_closed, restarted_child, started_again, stopped, to_try, tried_child, tried_where, wanted_again}
use Rattle.pt_children.specs.Homes.{AllHere, is_abroad, is_coming, is_here, is_unanswered, is_untold, is_untold_child, is_waiting, place_awaited, place_coming, place_untold}
use Rattle.pt_children.specs.Limits.{allows, moment}
use Rattle.pt_children.specs.Restarts.{ends_from}
use Rattle.pt_children.specs.Seen.{child_state}
use Rattle.pt_children.specs.Trying.{failed_child, is_accident, is_startable, started_child, unstarted_child}
use Rattle.pt_supervisor.specs.Staying.{CallsLeaveHere, LeavesHere, StaysHere}
use Rattle.pt_supervisor.specs.Supervising.{AdvancesAs, AsksProgramFor, BearsAs, GoesForward, Nursery, SpawnsChildAt, StartsAt, StartsFirst, StartsOf, StartsOne, StartsUpTo, SupervisorAttends, SupervisorScene, SupervisorSettles, TriesAt, after_attending, nursery, with_pid}
use Rattle.pt_children.proofs.Wanting.{same_child, set_other, set_same}
use Rattle.pt_supervisor.proofs.Advancing.{ends_rest}

-- where all are here, none is found that is not ---------------------------------------------------

module _ (test : Child → Bool) (off : (c : Child) → c.home ≡ Here → test c ≡ false) where
  found_none : (children : List Child) (place : ℕ) → AllHere children → position test children ≡ Some place → ⊥
  found_none [] place here is = let bad : None ≡ Some place = is in absurd (cc)
  found_none (x ∷ xs) place here is =
      let y = position-Some test (x ∷ xs) place x is in
      let c = get_or (x ∷ xs) place x in
      let bad : false ≡ true = sym (off c (here place c (slice_get-get_or (x ∷ xs) place x y.0))) ∙ y.1 in absurd (cc)

  none_found : (children : List Child) → AllHere children → position test children ≡ None
  none_found children here = go (position test children) refl
    where
      go : (o : Option ℕ) → position test children ≡ o → o ≡ None
      go None is = refl
      go (Some place) is = absurd (found_none children place here is)

and_off : (a b : Bool) → b ≡ false → (a && b) ≡ false
and_off true b h = h
and_off false b h = refl

none_coming : (children : List Child) → AllHere children → place_coming children ≡ None
none_coming = none_found is_coming (λ c h. and_off (not (is_some c.pid)) (is_abroad c.home) (ap is_abroad h))

none_untold : (children : List Child) → AllHere children → place_untold children ≡ None
none_untold = none_found is_untold_child (λ c h. and_off (not (is_some c.pid)) (is_untold c.home) (ap is_untold h))

none_awaited : (id : ℕ) (children : List Child) → AllHere children → place_awaited id children ≡ None
none_awaited id =
    none_found (λ c. (not (is_some c.pid) && is_unanswered c.home) && (c.id == id))
    (λ c h. ap (λ (b : Bool). b && (c.id == id)) (and_off (not (is_some c.pid)) (is_unanswered c.home) (ap is_unanswered h)))

pub here_awaits_nobody : (children : List Child) → AllHere children → is_waiting children ≡ false
here_awaits_nobody children here = ap is_some (none_coming children here)

-- a child that is changed stays where it is started -------------------------------------------------

home_set : (xs : List Child) (i : ℕ) (c v : Child) → slice_get xs i ≡ Some c → v.home ≡ c.home → AllHere xs → AllHere (slice_set xs i v)
home_set xs i c v at same k j x is = elim (cases_eq j i) [
  | inl e ↦ (
      let there : slice_get (slice_set xs i v) i ≡ Some x = ap (slice_get (slice_set xs i v)) (sym e) ∙ is in
      let v_is : v ≡ x = same_child v x (sym (set_same xs i v (slice_get_within xs i c at)) ∙ there) in
      sym (ap (λ (y : Child). y.home) v_is) ∙ (same ∙ k i c at)
      )
  | inr apart ↦ k j x (set_other xs i j v x apart is)
]

stays : (s t : Standing) → t ≡ s → AllHere s.children → AllHere t.children
stays s t is k = subst (λ (x : Standing). AllHere x.children) (sym is) k

either : (b : Bool) (s t : Standing) → AllHere s.children → AllHere t.children → AllHere (cond b s t).children
either true s t k h = k
either false s t k h = h

-- what it hears ---------------------------------------------------------------------------------------

revive_here : (xs : List Child) (n : ℕ) (o : Option Child) → slice_get xs n ≡ o → AllHere xs → AllHere (revive_in o n xs)
revive_here xs n None at k = k
revive_here xs n (Some c) at k = home_set xs n c (revived_child c) at refl k

revive_if : (b : Bool) (xs : List Child) (n : ℕ) → AllHere xs → AllHere (cond b (revive_in (slice_get xs n) n xs) xs)
revive_if true xs n k = revive_here xs n (slice_get xs n) refl k
revive_if false xs n k = k

revived_here : (xs : List Child) (first n : ℕ) → AllHere xs → AllHere (revived xs first n)
revived_here xs first zero k = k
revived_here xs first (suc n) k = revive_if (nat_le first n) (revived xs first n) n (revived_here xs first n k)

restarted_here : (allowed : Bool) (now place id : ℕ) (reason : Reason) (s : Standing) → AllHere s.children → AllHere (restarted_child allowed now place id reason s).children
restarted_here true now place id reason s k = revived_here s.children (ends_from s.strategy place (length s.children)) (length s.children) k
restarted_here false now place id reason s k = k

again_here : (again : Bool) (now place id : ℕ) (reason : Reason) (s : Standing) → AllHere s.children → AllHere (started_again again now place id reason s).children
again_here true now place id reason s k = restarted_here (allows now s.span s.most s.times) now place id reason s k
again_here false now place id reason s k = k

lost_here : (now : ℕ) (reason : Reason) (place : ℕ) (o : Option Child) (s : Standing) → slice_get s.children place ≡ o → AllHere s.children → AllHere (lost now reason place o s).children
lost_here now reason place None s at k = k
lost_here now reason place (Some c) s at k =
    let bidden = nat_le s.ending place in
    again_here (not bidden && wanted_again bidden reason c) now place c.id reason (record s { children = slice_set s.children place (gone bidden reason c) })
    (home_set s.children place c (gone bidden reason c) at refl k)

place_here : (o : Option ℕ) (now : ℕ) (reason : Reason) (s : Standing) → AllHere s.children → AllHere (heard_at o now reason s).children
place_here None now reason s k = k
place_here (Some place) now reason s k = lost_here now reason place (slice_get s.children place) s refl k

heard_here : (now : ℕ) (from : Pid) (reason : Reason) (s : Standing) → AllHere s.children → AllHere (heard now from reason s).children
heard_here now from reason s k =
    let at = position (λ (c : Child). is_pid c.pid from) s.children in
    either (is_pid s.parent from) (stopped reason s) (heard_at at now reason s) k (place_here at now reason s k)

gone_here : (o : Option Pid) (now : ℕ) (s : Standing) → AllHere s.children → AllHere (heard_gone o now s).children
gone_here None now s k = k
gone_here (Some p) now s k = heard_here now p Reason.Noproc (record s { asked = None }) k

tried_here : (now place : ℕ) (o : Option Child) (s : Standing) → slice_get s.children place ≡ o → AllHere s.children → AllHere (tried_child now place o s).children
tried_here now place None s at k = k
tried_here now place (Some c) s at k =
    let v = record c { trial = Again } in
    again_here true now place c.id Reason.Noproc (record s { children = slice_set s.children place v }) (home_set s.children place c v at refl k)

try_here : (o : Option ℕ) (now : ℕ) (s : Standing) → AllHere s.children → AllHere (tried_where o now s).children
try_here None now s k = k
try_here (Some place) now s k = tried_here now place (slice_get s.children place) s refl k

on_here : (now : ℕ) (s : Standing) → AllHere s.children → AllHere (gone_on now s).children
on_here now s k = try_here (to_try (gone_heard now s)) now (gone_heard now s) (gone_here (gone_in s.asked) now s k)

attends_here : (me : Pid) (time : ℕ) (item : Option Item) (s m : Standing) (d e : DeskState) (answer : Bool) → SupervisorAttends me time item s d answer m e → AllHere s.children → AllHere m.children
attends_here me time (Some (Exit from r)) s m d e answer a k =
    stays (heard (moment s.timed d.shard.clock time) from r s) m a.1 (heard_here (moment s.timed d.shard.clock time) from r s k)
attends_here me time (Some (Down x from r)) s m d e answer a k =
    stays (heard (moment s.timed d.shard.clock time) from r (monitor_closed x s)) m a.1 (heard_here (moment s.timed d.shard.clock time) from r (monitor_closed x s) k)
attends_here me time (Some (User from b)) s m d e answer a k = stays s m a.1 k
attends_here me time (Some (Alive x from y)) s m d e answer a k = stays s m a.1 k
attends_here me time None s m d e answer a k =
    let now = moment s.timed e.shard.clock time in
    stays (cond answer (gone_on now s) s) m a.3 (either answer (gone_on now s) s (on_here now s k) k)

-- children that are started --------------------------------------------------------------------------

failed_home : (accident : Bool) (clock : ℕ) (c : Child) → (cond accident c (failed_child clock c)).home ≡ c.home
failed_home true clock c = refl
failed_home false clock c = refl

tried_set : (clock place : ℕ) (c : Child) (born : Result Pid Fault) (xs : List Child) → slice_get xs place ≡ Some c → AllHere xs → AllHere (with_pid clock place c born xs)
tried_set clock place c (Ok p) xs at k = home_set xs place c (started_child p c) at refl k
tried_set clock place c (Err f) xs at k = home_set xs place c (unstarted_child clock f c) at (failed_home (is_accident f) clock c) k

module _ {S B : Type 0} (starts : StartsOf S B) (me : Pid) where
  bears_here : (place : ℕ) (c : Child) (begins : Result (B × Next) Fault) (old new : Nursery S B) → slice_get old.children place ≡ Some c → BearsAs me place c begins old new → AllHere old.children → AllHere new.children
  bears_here place c (Err f) old new at h k = subst AllHere (sym h.0) (tried_set old.desk.clock place c (Err f) old.children at k)
  bears_here place c (Ok (b, first)) old new at h k = subst AllHere (sym h.2) (tried_set new.desk.clock place c h.0 old.children at k)

  tries_here : (here : Bool) (place : ℕ) (c : Child) (old new : Nursery S B) → slice_get old.children place ≡ Some c → is_here c.home ≡ here
      → MatchBool here (SpawnsChildAt starts me place c old new) (AsksProgramFor place c old new) → AllHere old.children → AllHere new.children
  tries_here true place c old new at is h k = bears_here place c h.0 old new at h.2 k
  tries_here false place c old new at is h k = absurd (let bad : true ≡ false = sym (ap is_here (k place c at)) ∙ is in cc)

  due_here : (due : Bool) (place : ℕ) (c : Child) (old new : Nursery S B) → slice_get old.children place ≡ Some c → MatchBool due (TriesAt starts me place c old new) (new ≡ old) → AllHere old.children → AllHere new.children
  due_here true place c old new at h k = tries_here (is_here c.home) place c old new at refl h k
  due_here false place c old new at h k = subst (λ (n : Nursery S B). AllHere n.children) (sym h) k

  module _ (strategy : Strategy) where
    starts_here : (place : ℕ) (o : Option Child) (old new : Nursery S B) (answer : Bool) → slice_get old.children place ≡ o → StartsAt starts me strategy place o old answer new → AllHere old.children → AllHere new.children
    starts_here place None old new answer at h k = absurd h
    starts_here place (Some c) old new answer at h k = due_here (is_startable c) place c old new at h.1 k

    one_here : (place : ℕ) (old new : Nursery S B) (answer : Bool) → StartsOne starts me strategy place old answer new → AllHere old.children → AllHere new.children
    one_here place old new answer h k = starts_here place (slice_get old.children place) old new answer refl h k

    first_here : (n : ℕ) (old new : Nursery S B) → StartsFirst starts me strategy n old new → AllHere old.children → AllHere new.children
    first_here zero old new h k = subst (λ (x : Nursery S B). AllHere x.children) (sym h) k
    first_here (suc n) old new h k = one_here n h.0 new true h.2 (first_here n old h.0 h.1 k)

    upto_here : (count : ℕ) (old new : Nursery S B) (through : Bool) → StartsUpTo starts me strategy count old through new → AllHere old.children → AllHere new.children
    upto_here count old new true h k = first_here count old new h k
    upto_here count old new false h k = one_here h.0 h.2 new false h.4 (first_here h.0 old h.2 h.3 k)

  -- what it does about them --------------------------------------------------------------------------

  settles_here : (stopping : Option Reason) (old : SupervisorScene S B) (next : Next) (new : SupervisorScene S B) → SupervisorSettles starts me stopping old next new → AllHere old.standing.children → AllHere new.standing.children
  settles_here (Some r) old next new h k = subst (λ (x : SupervisorScene S B). AllHere x.standing.children) (sym h.1) k
  settles_here None old next new h k = upto_here old.standing.strategy (length old.standing.children) (nursery old) (nursery new) h.1.0 h.1.1 k

  advances_here : (now : ℕ) (last : Option (Pid × Shutdown)) (old : SupervisorScene S B) (next : Next) (new : SupervisorScene S B) → AdvancesAs starts me now last old next new
      → AllHere old.standing.children → AllHere new.standing.children
  advances_here now (Some (p, shutdown)) old next new h k =
      stays (record (old.standing) { asked = new.standing.asked }) new.standing (ends_rest starts me now p shutdown old.standing old.desk next new.standing new.desk (stage_of old.standing.asked p) h.0) k
  advances_here now None old next new h k = settles_here old.standing.stopping old next new h k

  forward_here : (now : ℕ) (coming : Option ℕ) (mid : SupervisorScene S B) (next : Next) (new : SupervisorScene S B) → coming ≡ None → GoesForward starts me now coming mid next new
      → AllHere mid.standing.children → AllHere new.standing.children
  forward_here now None mid next new none h k = advances_here now (last_alive mid.standing.children mid.standing.ending (length mid.standing.children)) mid next new h k
  forward_here now (Some place) mid next new none h k = absurd (cc)

  then_here : (now : ℕ) (answer : Bool) (mid : SupervisorScene S B) (next : Next) (new : SupervisorScene S B) → after_attending starts me now answer mid next new → AllHere mid.standing.children → AllHere new.standing.children
  then_here now true mid next new h k = forward_here now (place_coming mid.standing.children) mid next new (none_coming mid.standing.children k) h k
  then_here now false mid next new h k = subst (λ (x : SupervisorScene S B). AllHere x.standing.children) (sym h.1) k

pub handles_here : {S B : Type 0} (starts : StartsOf S B) → StaysHere starts
handles_here starts me time item old next new h k =
    then_here starts me time h.answer h.mid next new h.goes (attends_here me time item old.standing h.mid.standing old.desk h.mid.desk h.answer h.attends k)

-- the calls about a child --------------------------------------------------------------------------------

wanted_here : (wanted : Bool) (place : ℕ) (o : Option Child) (xs : List Child) → slice_get xs place ≡ o → AllHere xs → AllHere (wanted_in wanted place o xs)
wanted_here wanted place None xs at k = k
wanted_here wanted place (Some c) xs at k = home_set xs place c (record c { wanted = wanted; trial = Asked }) at refl k

want_here : (wanted : Bool) (place : ℕ) (s t : Standing) → t ≡ with_wanted wanted place s → AllHere s.children → AllHere t.children
want_here wanted place s t is k = stays (with_wanted wanted place s) t is (wanted_here wanted place (slice_get s.children place) s.children refl k)

terminates_here : (o : Option ℕ) → LeavesHere (TerminatesAt o)
terminates_here None s result t h k = stays s t h.1 k
terminates_here (Some place) s result t h k = want_here false place s t h.1 k

restarts_as : (state : ChildState) (place : ℕ) → LeavesHere (RestartsAs state place)
restarts_as (Running p) place s result t h k = stays s t h.1 k
restarts_as Restarting place s result t h k = stays s t h.1 k
restarts_as Undefined place s result t h k = want_here true place s t h.1 k

restarts_in : (o : Option Child) (place : ℕ) → LeavesHere (RestartsIn o place)
restarts_in None place s result t h k = absurd h
restarts_in (Some c) place s result t h k = restarts_as (child_state c) place s result t h k

restarts_here : (o : Option ℕ) → LeavesHere (RestartsAt o)
restarts_here None s result t h k = stays s t h.1 k
restarts_here (Some place) s result t h k = restarts_in (slice_get s.children place) place s result t h k

less_here : (xs : List Child) (p : ℕ) → AllHere xs → AllHere (remove xs p)
less_here [] zero k j y is = absurd (let bad : None ≡ Some y = is in cc)
less_here [] (suc p) k j y is = absurd (let bad : None ≡ Some y = is in cc)
less_here (x ∷ xs) zero k j y is = k (suc j) y is
less_here (x ∷ xs) (suc p) k zero y is = k zero y is
less_here (x ∷ xs) (suc p) k (suc j) y is = less_here xs p (λ i z at. k (suc i) z at) j y is

deletes_as : (state : ChildState) (place : ℕ) → LeavesHere (DeletesAs state place)
deletes_as (Running p) place s result t h k = stays s t h.1 k
deletes_as Restarting place s result t h k = stays s t h.1 k
deletes_as Undefined place s result t h k = stays (without_child place s) t h.1 (less_here s.children place k)

deletes_in : (o : Option Child) (place : ℕ) → LeavesHere (DeletesIn o place)
deletes_in None place s result t h k = absurd h
deletes_in (Some c) place s result t h k = deletes_as (child_state c) place s result t h k

deletes_here : (o : Option ℕ) → LeavesHere (DeletesAt o)
deletes_here None s result t h k = stays s t h.1 k
deletes_here (Some place) s result t h k = deletes_in (slice_get s.children place) place s result t h k

more_here : (xs : List Child) (c : Child) → c.home ≡ Here → AllHere xs → AllHere (xs ++ c ∷ [])
more_here [] c here k zero y is = sym (ap (λ (x : Child). x.home) (same_child c y is)) ∙ here
more_here [] c here k (suc j) y is = absurd (let bad : None ≡ Some y = is in cc)
more_here (x ∷ xs) c here k zero y is = k zero y is
more_here (x ∷ xs) c here k (suc j) y is = more_here xs c here (λ i z at. k (suc i) z at) j y is

adds_last : (c : Child) → c.home ≡ Here → LeavesHere (AddsLast c)
adds_last c here s (Ok place) t h k = stays (with_last_child c s) t h.1 (more_here s.children (record c { pid = None; wanted = true; trial = Asked }) here k)
adds_last c here s (Err f) t h k = stays s t h.1 k

finds_here : (o : Option Child) → LeavesHere (FindsPresent o)
finds_here None s result t h k = absurd h
finds_here (Some c) s result t h k = stays s t h.1 k

adds_here : (o : Option ℕ) (c : Child) → c.home ≡ Here → LeavesHere (AddsAt o c)
adds_here None c here s result t h k = adds_last c here s result t h k
adds_here (Some place) c here s result t h k = finds_here (slice_get s.children place) s result t h k

asks_here : (o : Option ℕ) (s : Standing) (result : Result ℕ ChildFault) (t : Standing) → o ≡ None → AsksToStartAt o s result t → AllHere s.children → AllHere t.children
asks_here None s result t none h k = stays s t h.1 k
asks_here (Some place) s result t none h k = absurd (cc)

answers_here : (o : Option ℕ) (change : Child → Child) (s : Standing) (result : Result (Unit {0}) ChildFault) (t : Standing) → o ≡ None → AnswersAt o change s result t → AllHere s.children → AllHere t.children
answers_here None change s result t none h k = stays s t h.1 k
answers_here (Some place) change s result t none h k = absurd (cc)

pub calls_leave_here : CallsLeaveHere
calls_leave_here = record {
  terminate = λ id s. terminates_here (place_of_id id s.children) s;
  restart = λ id s. restarts_here (place_of_id id s.children) s;
  delete = λ id s. deletes_here (place_of_id id s.children) s;
  add = λ c here s. adds_here (place_of_id c.id s.children) c here s;
  ask = λ s result t h k. asks_here (place_untold s.children) s result t (none_untold s.children k) h k;
  started = λ id p s result t h k. answers_here (place_awaited id s.children) _ s result t (none_awaited id s.children k) h k;
  not_started = λ id f s result t h k. answers_here (place_awaited id s.children) _ s result t (none_awaited id s.children k) h k;
  stop = λ reason s k. k;
}
