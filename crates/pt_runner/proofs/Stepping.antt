-- What a runner does in a step is one event at most of each live process.
use Rattle.std.proofs.Common.{◌≡◌, inl, inr, ℕ, zero, suc, ◌+◌, ◌<◌, ◌≤◌, List, [], ◌∷◌, ◌++◌, Bool, true, false, ◌&&◌, cond, max, length, length-append, map, get_or, take, Option, Some, None, Result, Ok, Err, refl, ap, sym, subst, ◌∙◌, append_assoc, append-nil, add-one, arith}
use Rattle.std.specs.Prelude.{is_some}
use Rattle.std.specs.Option.{option_map}
use Rattle.std.specs.List.{All, filter, position}
use Rattle.std.proofs.lemmas.List.Elements.{All-head, All-tail}
use Rattle.std.proofs.lemmas.List.{take_more, take_all, get_or-map, get_or_append_left, length-map, map-append}
use Rattle.pt_signal.specs.Values.{same_pid}
use Rattle.pt_signal.proofs.Lists.{map-set_same}
use Rattle.pt_signal.proofs.Same.{same_pid_is}
use Rattle.pt_runner.proofs.Finding.{placed}
use Rattle.pt_signal.specs.declared.pid.Pid.{Pid}
use Rattle.pt_signal.specs.declared.ids.Ids.{Ids}
use Rattle.pt_signal.specs.declared.ids.Ref.{Ref}
use Rattle.pt_signal.specs.declared.item.Item.{Item}
use Rattle.pt_signal.specs.declared.item.Pick.{Pick}
use Rattle.pt_signal.specs.declared.item.Pick.TheVariants.{DownOf}
use Rattle.pt_signal.specs.declared.signal.Signal.TheVariants.{Message, Link as LinkSignal, Unlink as UnlinkSignal, Monitor as MonitorSignal, AliveAsk, Exit as ExitSignal}
use Rattle.pt_signal.specs.declared.reason.Reason.TheVariants.{Other}
use Rattle.pt_events.specs.declared.event.Event.{Event}
use Rattle.pt_events.specs.declared.event.Event.TheVariants.{Born, Said, Took, Flag, Left, Refused}
use Rattle.pt_shard.specs.declared.fault.Fault.{Fault}
use Rattle.pt_shard.specs.declared.fault.Fault.TheVariants.{Full, Memory, Worn, Gone, Myself, NoProc}
use Rattle.pt_shard.specs.ShardState.{ShardState, lives, state_in, shard_after, written}
use Rattle.pt_shard.specs.Calls.{Calls, Monitors, Refuses, BearsChild, link_event, unlink_event, take_event, first_match, demonitor_event, demonitor_at, held_by, new_link, new_ref, birth_link, if_asked}
use Rattle.pt_desk.specs.Reaching.{IsReached, has_link_to_make, has_monitor_to_make}
use Rattle.pt_script.specs.Plans.{Plan}
use Rattle.pt_script.specs.declared.values.Pattern.{Pattern}
use Rattle.pt_script.specs.declared.values.Operation.{Operation}
use Rattle.pt_script.specs.declared.values.Operation.TheVariants.{Send, Receive, Check, Link, Unlink, Monitor, Demonitor, Alive, Trap, Exit, Signal as SendExit, Spawn, Pass, ReceiveAfter, If, Else, End, Repeat, Again}
use Rattle.pt_runner.specs.declared.calls.Progress.{Progress}
use Rattle.pt_runner.specs.declared.calls.Progress.TheVariants.{Done, Took as TookItem, Waits, Stays, Ends}
use Rattle.pt_runner.specs.declared.runner.Actor.{Actor}
use Rattle.pt_runner.specs.declared.runner.Runner.{Runner}
use Rattle.pt_runner.specs.Acting.{came_of, IsCall, CallsTarget, ReachesAt, Takes, taken_of, Demonitors, HasNoRoom, MonitorsAt, AsksAt, Performs, GoesBehind, Acting, PidTable, acting, table, advanced, fits_none, fits_taken, pid_numbered, ended_or_put_off, put_off, set_acting, with_born, newborn_actor, next_of, Plays, Spawns, SpawnsIfNew, TriesSpawn, DoesOperation, ActsAt, ActsIfAt, EachActs, OneDoesNext, living, EachDoesNext, target_of, pid_if, pick_meant, reference_of}
use Rattle.pt_runner.specs.Stepping.{actor_of, child_of, IsStampOf, DoesOne, EachDoesOne, processes_here, ProcessSteps, ProcessesStep}

-- one event ---------------------------------------------------------------------------------

-- an operation of p that bears nobody: at most one event, and none where it ends its process by its refusal
abbrev Leaves : Pid → Progress → ShardState → ShardState → Type 0
Leaves p (Ends reason) old new = new ≡ old
Leaves p _ old new = DoesOne p old new []

-- the process that a birth answers
abbrev born_by : Result Pid Fault → List Pid
born_by (Ok child) = child ∷ []
born_by (Err _) = []

one_event : (p : Pid) (e : Event) (old new : ShardState) → actor_of e ≡ Some p → lives old p ≡ true → IsStampOf old e (old.clock + 1) → new ≡ shard_after e old → DoesOne p old new (child_of e)
one_event p e old new by alive stamped is =
    inr (e, record { author_is = by; alive = alive; stamp = old.clock + 1; stamped = stamped; after = subst (λ (s : ShardState). s ≡ record (shard_after e old) { vacant = s.vacant }) (sym is) refl }, refl)

-- an event of p that bears nobody
abbrev IsOwn : Pid → Option Event → Type 0
IsOwn p None = Unit {0}
IsOwn p (Some e) = (actor_of e ≡ Some p) × (child_of e ≡ []) × ((d : ShardState) → IsStampOf d e (d.clock + 1))

wrote : {A : Type 0} (p : Pid) (event : Option Event) (a x : A) (old new : ShardState) → IsOwn p event → Calls p event a old (Ok x) new → DoesOne p old new []
wrote p None a x old new own c = inl (c.3, refl)
wrote p (Some e) a x old new own c = subst (DoesOne p old new) own.1 (one_event p e old new own.0 c.0 (own.2 old) c.3)

leaves : {A : Type 0} (p : Pid) (event : Option Event) (a : A) (old new : ShardState) (r : Result A Fault) → IsOwn p event → Calls p event a old r new → Leaves p (came_of r) old new
leaves p event a old new (Ok x) own c = wrote p event a x old new own c
leaves p event a old new (Err Gone) own c = inl (c.1, refl)
leaves p event a old new (Err Worn) own c = inl (c.3, refl)
leaves p event a old new (Err Memory) own c = inl (c.3, refl)
leaves p event a old new (Err Full) own c = absurd c
leaves p event a old new (Err Myself) own c = absurd c
leaves p event a old new (Err NoProc) own c = absurd c

-- whatever it answers, one event of p at most
does_one : {A : Type 0} (p : Pid) (event : Option Event) (a : A) (old new : ShardState) (r : Result A Fault) → IsOwn p event → Calls p event a old r new → DoesOne p old new []
does_one p event a old new (Ok x) own c = wrote p event a x old new own c
does_one p event a old new (Err Gone) own c = inl (c.1, refl)
does_one p event a old new (Err Worn) own c = inl (c.3, refl)
does_one p event a old new (Err Memory) own c = inl (c.3, refl)
does_one p event a old new (Err Full) own c = absurd c
does_one p event a old new (Err Myself) own c = absurd c
does_one p event a old new (Err NoProc) own c = absurd c

monitor_leaves : (p t : Pid) (old new : ShardState) (r : Result Ref Fault) → Monitors p t old r new → Leaves p (came_of r) old new
monitor_leaves p t old new (Ok m) c = wrote p (Some (Said p t (MonitorSignal (new_ref old)))) (new_ref old) m old new (refl, refl, λ d. refl) c.1
monitor_leaves p t old new (Err Gone) c = inl (c.1, refl)
monitor_leaves p t old new (Err Myself) c = c.2
monitor_leaves p t old new (Err Worn) c = inl (c.3, refl)
monitor_leaves p t old new (Err Memory) c = inl (c.3, refl)
monitor_leaves p t old new (Err Full) c = absurd c
monitor_leaves p t old new (Err NoProc) c = absurd c

-- whose events the operations write

own_unless : (p : Pid) (b : Bool) (e : Event) → IsOwn p (Some e) → IsOwn p (cond b None (Some e))
own_unless p true e h = tt
own_unless p false e h = h

link_own : (d : ShardState) (p to : Pid) → IsOwn p (link_event d p to)
link_own d p to = own_unless p _ (Said p to (LinkSignal (new_link d))) (refl, refl, λ d. refl)

own_unlink : (p to : Pid) (held : Option Ids) → IsOwn p (option_map (λ ids. Said p to (UnlinkSignal ids)) held)
own_unlink p to None = tt
own_unlink p to (Some ids) = (refl, refl, λ d. refl)

unlink_own : (d : ShardState) (p to : Pid) → IsOwn p (unlink_event d p to)
unlink_own d p to = own_unlink p to (held_by d p to)

own_take : (p : Pid) (k : Pick) (item : Option Item) → IsOwn p (option_map (Took p k) item)
own_take p k None = tt
own_take p k (Some item) = (refl, refl, λ d. refl)

take_own : (d : ShardState) (p : Pid) (k : Pick) → IsOwn p (take_event d p k)
take_own d p k = own_take p k (first_match d p k)

own_asked : (p : Pid) (b : Bool) (event : Option Event) → IsOwn p event → IsOwn p (if_asked b event)
own_asked p true event h = h
own_asked p false event h = tt

own_demonitor : (t : Option Pid) (d : ShardState) (p : Pid) (m : Ref) (flush : Bool) → IsOwn p (demonitor_at t d p m flush)
own_demonitor (Some t) d p m flush = (refl, refl, λ d. refl)
own_demonitor None d p m flush = own_asked p flush (take_event d p (DownOf m)) (take_own d p (DownOf m))

demonitor_own : (d : ShardState) (p : Pid) (m : Ref) (flush : Bool) → IsOwn p (demonitor_event d p m flush)
demonitor_own d p m flush = own_demonitor _ d p m flush

-- an operation that bears nobody --------------------------------------------------------------

leaves_as : (p : Pid) (progress came : Progress) (old new : ShardState) → progress ≡ came → Leaves p came old new → Leaves p progress old new
leaves_as p progress came old new is h = subst (λ (x : Progress). Leaves p x old new) (sym is) h

passed : (p : Pid) (progress : Progress) (old new : ShardState) → progress ≡ Done → new ≡ old → Leaves p progress old new
passed p progress old new is same = leaves_as p progress Done old new is (inl (same, refl))

call_leaves : {A : Type 0} (p : Pid) (event : Option Event) (a : A) (old : ShardState) (progress : Progress) (new : ShardState) → IsOwn p event → IsCall p event a old progress new → Leaves p progress old new
call_leaves p event a old progress new own (answer, calls, is) = leaves_as p progress (came_of answer) old new is (leaves p event a old new answer own calls)

at_leaves : (at : Option Pid) (p : Pid) (event : Pid → Option Event) (old : ShardState) (progress : Progress) (new : ShardState) → ((t : Pid) → IsOwn p (event t)) → CallsTarget at p event old progress new → Leaves p progress old new
at_leaves None p event old progress new own (is, same) = passed p progress old new is same
at_leaves (Some t) p event old progress new own h = call_leaves p (event t) (tt {0}) old progress new (own t) h

-- a call that the desk refused, since it saw that the target has ended, is one event too
refused : (p t : Pid) (n : ℕ) (old new : ShardState) (f : Fault) → lives old p ≡ true → Refuses p t n old f new → Leaves p (came_of {A = Unit {0}} (Err f)) old new
refused p t n old new NoProc alive h =
    inr (
      Refused p t,
      record {
        author_is = refl;
        alive = alive;
        stamp = max old.clock n + 1;
        stamped = omega arith;
        after = subst (λ (s : ShardState). s ≡ record (written (max old.clock n + 1) (Refused p t) old) { vacant = s.vacant }) (sym h.1) refl;
      },
      refl,
    )
refused p t n old new Worn alive h = inl (h.1, refl)
refused p t n old new Memory alive h = inl (h.1, refl)
refused p t n old new Gone alive h = absurd h
refused p t n old new Full alive h = absurd h
refused p t n old new Myself alive h = absurd h

-- what comes of a refusal does not go by what the call would have answered
same_came : (A : Type 0) (f : Fault) → came_of {A = Unit {0}} (Err f) ≡ came_of {A = A} (Err f)
same_came A Full = refl
same_came A Myself = refl
same_came A NoProc = refl
same_came A Memory = refl
same_came A Worn = refl
same_came A Gone = refl

reached_leaves : {A : Type 0} (looks : Bool) (p t : Pid) (call : Type 0) (old : ShardState) (answer : Result A Fault) (new : ShardState) → (looks ≡ true → lives old p ≡ true)
    → (call → Leaves p (came_of answer) old new) → IsReached looks p t call old answer new → Leaves p (came_of answer) old new
reached_leaves looks p t call old answer new alive leaves (inl h) = leaves h
reached_leaves looks p t call old (Ok x) new alive leaves (inr (is, n, none)) = absurd none
reached_leaves {A} looks p t call old (Err f) new alive leaves (inr (is, n, h)) = subst (λ came. Leaves p came old new) (same_came A f) (refused p t n old new f (alive is) h)

reach_leaves : (at : Option Pid) (p : Pid) (looks : Pid → Bool) (event : Pid → Option Event) (old : ShardState) (progress : Progress) (new : ShardState) → ((t : Pid) → looks t ≡ true → lives old p ≡ true)
    → ((t : Pid) → IsOwn p (event t)) → ReachesAt at p looks event old progress new → Leaves p progress old new
reach_leaves None p looks event old progress new alive own (is, same) = passed p progress old new is same
reach_leaves (Some t) p looks event old progress new alive own (answer, reached, is) =
    leaves_as p progress (came_of answer) old new is (reached_leaves (looks t) p t _ old answer new (alive t) (leaves p (event t) (tt {0}) old new answer (own t)) reached)

first_of : (a b : Bool) → a && b ≡ true → a ≡ true
first_of true b h = refl
first_of false b h = h

-- a receive, where what comes of it without an item ends nobody
abbrev EndsNobody : Pid → Progress → Type 0
EndsNobody p without = (old new : ShardState) → DoesOne p old new [] → Leaves p without old new

taken_leaves : (p : Pid) (k : Pick) (without : Progress) (old new : ShardState) (answer : Result (Option Item) Fault) → EndsNobody p without → Calls p (take_event old p k) (first_match old p k) old answer new → Leaves p (taken_of without answer) old new
taken_leaves p k without old new (Ok None) h c = h old new (leaves p (take_event old p k) (first_match old p k) old new (Ok None) (take_own old p k) c)
taken_leaves p k without old new (Ok (Some item)) h c = leaves p (take_event old p k) (first_match old p k) old new (Ok (Some item)) (take_own old p k) c
taken_leaves p k without old new (Err fault) h c = leaves p (take_event old p k) (first_match old p k) old new (Err fault) (take_own old p k) c

takes_leaves : (at : Option Pick) (p : Pid) (without : Progress) (old : ShardState) (progress : Progress) (new : ShardState) → EndsNobody p without → Takes at p without old progress new → Leaves p progress old new
takes_leaves None p without old progress new h (is, same) = passed p progress old new is same
takes_leaves (Some k) p without old progress new h (answer, calls, is) = leaves_as p progress (taken_of without answer) old new is (taken_leaves p k without old new answer h calls)

demonitors_leaves : (at : Option Ref) (p : Pid) (flush : Bool) (old : ShardState) (progress : Progress) (new : ShardState) → Demonitors at p flush old progress new → Leaves p progress old new
demonitors_leaves None p flush old progress new (is, same) = passed p progress old new is same
demonitors_leaves (Some m) p flush old progress new h = call_leaves p (demonitor_event old p m flush) (is_some (demonitor_event old p m flush)) old progress new (demonitor_own old p m flush) h

no_room_leaves : (p : Pid) (old : ShardState) (references : List (Option Ref)) (progress : Progress) (new : ShardState) (after : List (Option Ref)) → HasNoRoom old references progress new after → Leaves p progress old new
no_room_leaves p old references progress new after (is, same, kept) = leaves_as p progress Stays old new is (inl (same, refl))

monitors_leaves : (p : Pid) (at : Option Pid) (tag : ℕ) (old : ShardState) (references : List (Option Ref)) (progress : Progress) (new : ShardState) (after : List (Option Ref)) → MonitorsAt p at tag old references progress new after → Leaves p progress old new
monitors_leaves p None tag old references progress new after (inl h) = no_room_leaves p old references progress new after h
monitors_leaves p None tag old references progress new after (inr ((is, same), noted)) = passed p progress old new is same
monitors_leaves p (Some t) tag old references progress new after (inl h) = no_room_leaves p old references progress new after h
monitors_leaves p (Some t) tag old references progress new after (inr (answer, reached, is, noted)) =
    leaves_as p progress (came_of answer) old new is (reached_leaves (has_monitor_to_make old p t) p t _ old answer new (first_of (lives old p) _) (monitor_leaves p t old new answer) reached)

asks_leaves : (p : Pid) (at : Option Pid) (tag : ℕ) (old : ShardState) (references : List (Option Ref)) (progress : Progress) (new : ShardState) (after : List (Option Ref)) → AsksAt p at tag old references progress new after → Leaves p progress old new
asks_leaves p None tag old references progress new after (inl h) = no_room_leaves p old references progress new after h
asks_leaves p None tag old references progress new after (inr ((is, same), noted)) = passed p progress old new is same
asks_leaves p (Some t) tag old references progress new after (inl h) = no_room_leaves p old references progress new after h
asks_leaves p (Some t) tag old references progress new after (inr (answer, calls, is, noted)) =
    leaves_as p progress (came_of answer) old new is (leaves p (Some (Said p t (AliveAsk (new_ref old)))) (new_ref old) old new answer (refl, refl, λ d. refl) calls)

performs_leaves : (pids : List (Option Pid)) (p : Pid) (o : Operation) (old : ShardState) (references : List (Option Ref)) (progress : Progress) (new : ShardState) (after : List (Option Ref)) → Performs pids p o old references progress new after → Leaves p progress old new
performs_leaves pids p (Send to kind num who) old references progress new after h =
    reach_leaves (target_of old pids to) p (λ t. lives old p) (λ t. Some (Said p t (Message (record { kind = kind; num = num; who = pid_if pids who })))) old progress new (λ t h. h) (λ t. (refl, refl, λ d. refl)) h.0
performs_leaves pids p (Receive pattern) old references progress new after h = takes_leaves (pick_meant pids references pattern) p Waits old progress new (λ x y one. one) h.0
performs_leaves pids p (Check pattern) old references progress new after h = takes_leaves (pick_meant pids references pattern) p Done old progress new (λ x y one. one) h.0
performs_leaves pids p (ReceiveAfter pattern tries) old references progress new after h = takes_leaves (pick_meant pids references pattern) p Stays old progress new (λ x y one. one) h.0
performs_leaves pids p (Link to) old references progress new after h =
    reach_leaves (target_of old pids to) p (has_link_to_make old p) (link_event old p) old progress new (λ t. first_of (lives old p) _) (link_own old p) h.0
performs_leaves pids p (Unlink to) old references progress new after h = at_leaves (target_of old pids to) p (unlink_event old p) old progress new (unlink_own old p) h.0
performs_leaves pids p (Monitor to tag) old references progress new after h = monitors_leaves p (target_of old pids to) tag old references progress new after h
performs_leaves pids p (Demonitor tag flush) old references progress new after h = demonitors_leaves (reference_of references tag) p flush old progress new h.0
performs_leaves pids p (Alive to tag) old references progress new after h = asks_leaves p (target_of old pids to) tag old references progress new after h
performs_leaves pids p (Trap on) old references progress new after h = call_leaves p (Some (Flag p on)) (state_in old p).traps old progress new (refl, refl, λ d. refl) h.0
performs_leaves pids p (Exit reason) old references progress new after h = call_leaves p (Some (Left p reason)) (tt {0}) old progress new (refl, refl, λ d. refl) h.0
performs_leaves pids p (SendExit to reason) old references progress new after h = at_leaves (target_of old pids to) p (λ t. Some (Said p t (ExitSignal reason))) old progress new (λ t. (refl, refl, λ d. refl)) h.0
performs_leaves pids p (Spawn process linked) old references progress new after h = absurd h
performs_leaves pids p Pass old references progress new after h = passed p progress old new h.0.0 h.0.1
performs_leaves pids p (If pattern) old references progress new after h = passed p progress old new h.0.0 h.0.1
performs_leaves pids p Else old references progress new after h = passed p progress old new h.0.0 h.0.1
performs_leaves pids p End old references progress new after h = passed p progress old new h.0.0 h.0.1
performs_leaves pids p (Repeat times) old references progress new after h = passed p progress old new h.0.0 h.0.1
performs_leaves pids p Again old references progress new after h = passed p progress old new h.0.0 h.0.1

-- how it goes on behind it

advanced_case : (begins : Bool) (a : Acting) (done : ℕ) → (cond begins (record a { begins = false; refused = 0 }) (record a { done = done; refused = 0 })).pid ≡ a.pid
advanced_case true a done = refl
advanced_case false a done = refl

advanced_pid : (plans : List Plan) (test : Pattern → Bool) (a : Acting) → (advanced plans test a).pid ≡ a.pid
advanced_pid plans test a = advanced_case a.begins a _

ended_pid : (answer : Result (Unit {0}) Fault) (a : Acting) → (ended_or_put_off answer a).pid ≡ a.pid
ended_pid (Ok x) a = refl
ended_pid (Err f) a = refl

behind_pid : (plans : List Plan) (pids : List (Option Pid)) (progress : Progress) (a : Acting) (old : ShardState) (b : Acting) (new : ShardState) → GoesBehind plans pids progress a old b new → b.pid ≡ a.pid
behind_pid plans pids Done a old b new h = ap (λ (x : Acting). x.pid) h.0 ∙ advanced_pid plans fits_none a
behind_pid plans pids (TookItem item) a old b new h = ap (λ (x : Acting). x.pid) h.0 ∙ advanced_pid plans (fits_taken pids a.references item) a
behind_pid plans pids Waits a old b new h = ap (λ (x : Acting). x.pid) h.0
behind_pid plans pids Stays a old b new h = ap (λ (x : Acting). x.pid) h.0
behind_pid plans pids (Ends reason) a old b new h = ap (λ (x : Acting). x.pid) h.1 ∙ ended_pid h.0 a

then_behind : (plans : List Plan) (pids : List (Option Pid)) (progress : Progress) (a : Acting) (old between : ShardState) (b : Acting) (new : ShardState) → Leaves a.pid progress old between → GoesBehind plans pids progress a between b new → DoesOne a.pid old new []
then_behind plans pids Done a old between b new one h = subst (λ (s : ShardState). DoesOne a.pid old s []) (sym h.1) one
then_behind plans pids (TookItem item) a old between b new one h = subst (λ (s : ShardState). DoesOne a.pid old s []) (sym h.1) one
then_behind plans pids Waits a old between b new one h = subst (λ (s : ShardState). DoesOne a.pid old s []) (sym h.1) one
then_behind plans pids Stays a old between b new one h = subst (λ (s : ShardState). DoesOne a.pid old s []) (sym h.1) one
then_behind plans pids (Ends reason) a old between b new same (answer, is, calls) =
    subst (λ (s : ShardState). DoesOne a.pid s new []) same (does_one a.pid (Some (Left a.pid reason)) (tt {0}) between new answer (refl, refl, λ d. refl) calls)

-- a birth -------------------------------------------------------------------------------------

bears_one : (p : Pid) (linked : Bool) (old new : ShardState) (r : Result Pid Fault) → BearsChild p linked old r new → DoesOne p old new (born_by r)
bears_one p linked old new (Ok child) c = inr (Born child (Some p) (birth_link linked old), record { author_is = refl; alive = c.0; stamp = old.clock + 1; stamped = refl; after = c.1.2 }, refl)
bears_one p linked old new (Err Gone) c = inl (c.1, refl)
bears_one p linked old new (Err Worn) c = inl (c.2, refl)
bears_one p linked old new (Err Full) c = inl (c.3, refl)
bears_one p linked old new (Err Memory) c = inl (c.3, refl)
bears_one p linked old new (Err Myself) c = absurd c
bears_one p linked old new (Err NoProc) c = absurd c

-- a birth, and how the process goes on behind it
spawned : (plans : List Plan) (pids : List (Option Pid)) (a : Acting) (linked : Bool) (r : Result Pid Fault) (old between : ShardState) (b : Acting) (new : ShardState) → BearsChild a.pid linked old r between → GoesBehind plans pids (came_of r) a between b new → DoesOne a.pid old new (born_by r)
spawned plans pids a linked (Ok child) old between b new c h = subst (λ (s : ShardState). DoesOne a.pid old s (child ∷ [])) (sym h.1) (bears_one a.pid linked old between (Ok child) c)
spawned plans pids a linked (Err Gone) old between b new c h = inl (h.1 ∙ c.1, refl)
spawned plans pids a linked (Err Worn) old between b new c h = inl (h.1 ∙ c.2, refl)
spawned plans pids a linked (Err Memory) old between b new c h = inl (h.1 ∙ c.3, refl)
spawned plans pids a linked (Err Full) old between b new c h = then_behind plans pids (Ends (Other 1)) a old between b new c.3 h
spawned plans pids a linked (Err Myself) old between b new c h = absurd c
spawned plans pids a linked (Err NoProc) old between b new c h = absurd c

-- the processes of a table --------------------------------------------------------------------

abbrev pub pid_of : Acting → Pid
pid_of a = a.pid

abbrev pub pids_in : PidTable → List Pid
pids_in t = map pid_of t.actors

abbrev ActsOnce : Pid → PidTable → ShardState → PidTable → ShardState → Type 0
ActsOnce p t old u new = (born : List Pid) × DoesOne p old new born × (pids_in u ≡ pids_in t ++ born)

-- a process that goes on is still that process
set_pids : (i : ℕ) (a b : Acting) (t : PidTable) → i < length t.actors → get_or t.actors i a ≡ a → b.pid ≡ a.pid → pids_in (set_acting i b t) ≡ pids_in t
set_pids i a b t lt is same = map-set_same pid_of t.actors i a b lt (sym is) same

child_pids : (process : ℕ) (r : Result Pid Fault) (t : PidTable) → pids_in (with_born process r t) ≡ pids_in t ++ born_by r
child_pids process (Ok p) t = map-append pid_of t.actors (newborn_actor t.plans process p ∷ [])
child_pids process (Err fault) t = sym (append-nil (pids_in t))

child_within : (process : ℕ) (r : Result Pid Fault) (t : PidTable) (i : ℕ) → i < length t.actors → i < length (with_born process r t).actors
child_within process (Ok p) t i lt = omega (arith, lt, length-append t.actors (newborn_actor t.plans process p ∷ []))
child_within process (Err fault) t i lt = lt

child_at : (process : ℕ) (r : Result Pid Fault) (t : PidTable) (i : ℕ) (d : Acting) → i < length t.actors → get_or (with_born process r t).actors i d ≡ get_or t.actors i d
child_at process (Ok p) t i d lt = get_or_append_left t.actors (newborn_actor t.plans process p ∷ []) d i lt
child_at process (Err fault) t i d lt = refl

plays_once : (o : Operation) (i : ℕ) (a b : Acting) (t u : PidTable) (old new : ShardState) → i < length t.actors → get_or t.actors i a ≡ a → Plays t.plans t.pids o a old b new → u ≡ set_acting i b t → ActsOnce a.pid t old u new
plays_once o i a b t u old new lt at plays is =
    let noted : Acting = record a { references = plays.references } in
    let left : Leaves a.pid plays.progress old plays.between = performs_leaves t.pids a.pid o old a.references plays.progress plays.between plays.references plays.performs in
    let same : b.pid ≡ a.pid = behind_pid t.plans t.pids plays.progress noted plays.between b new plays.behind in
    ([], then_behind t.plans t.pids plays.progress noted old plays.between b new left plays.behind, ap pids_in is ∙ set_pids i a b t lt at same ∙ sym (append-nil (pids_in t)))

spawns_once : (process : ℕ) (linked : Bool) (i : ℕ) (a : Acting) (t u : PidTable) (old new : ShardState) → i < length t.actors → get_or t.actors i a ≡ a → Spawns process linked i a t old u new → ActsOnce a.pid t old u new
spawns_once process linked i a t u old new lt at h =
    let more : PidTable = with_born process h.answer t in
    let same : h.b.pid ≡ a.pid = behind_pid t.plans t.pids (came_of h.answer) a h.between h.b new h.behind in
    let kept : pids_in (set_acting i h.b more) ≡ pids_in more = set_pids i a h.b more (child_within process h.answer t i lt) (child_at process h.answer t i a lt ∙ at) same in
    (born_by h.answer, spawned t.plans t.pids a linked h.answer old h.between h.b new h.bears h.behind, ap pids_in h.table ∙ kept ∙ child_pids process h.answer t)

new_once : (at : Option Pid) (process : ℕ) (linked : Bool) (i : ℕ) (a : Acting) (t u : PidTable) (old new : ShardState) → i < length t.actors → get_or t.actors i a ≡ a → SpawnsIfNew at process linked i a t old u new → ActsOnce a.pid t old u new
new_once (Some p) process linked i a t u old new lt is (same, still) = ([], inl (still, refl), ap pids_in same ∙ set_pids i a (advanced t.plans fits_none a) t lt is (advanced_pid t.plans fits_none a) ∙ sym (append-nil (pids_in t)))
new_once None process linked i a t u old new lt is (inl (same, still)) = ([], inl (still, refl), ap pids_in same ∙ set_pids i a (put_off a) t lt is refl ∙ sym (append-nil (pids_in t)))
new_once None process linked i a t u old new lt is (inr h) = spawns_once process linked i a t u old new lt is h

tries_once : (process : ℕ) (linked : Bool) (i : ℕ) (a : Acting) (t u : PidTable) (old new : ShardState) → i < length t.actors → get_or t.actors i a ≡ a → TriesSpawn process linked i a t old u new → ActsOnce a.pid t old u new
tries_once process linked i a t u old new lt at h = new_once (pid_numbered t.pids process) process linked i a t u old new lt at h

operation_once : (o : Operation) (i : ℕ) (a : Acting) (t u : PidTable) (old new : ShardState) → i < length t.actors → get_or t.actors i a ≡ a → DoesOperation o i a t old u new → ActsOnce a.pid t old u new
operation_once (Spawn process linked) i a t u old new lt at h = tries_once process linked i a t u old new lt at h
operation_once (Send to kind num who) i a t u old new lt at (b, plays, is) = plays_once (Send to kind num who) i a b t u old new lt at plays is
operation_once (Receive pattern) i a t u old new lt at (b, plays, is) = plays_once (Receive pattern) i a b t u old new lt at plays is
operation_once (Check pattern) i a t u old new lt at (b, plays, is) = plays_once (Check pattern) i a b t u old new lt at plays is
operation_once (Link to) i a t u old new lt at (b, plays, is) = plays_once (Link to) i a b t u old new lt at plays is
operation_once (Unlink to) i a t u old new lt at (b, plays, is) = plays_once (Unlink to) i a b t u old new lt at plays is
operation_once (Monitor to tag) i a t u old new lt at (b, plays, is) = plays_once (Monitor to tag) i a b t u old new lt at plays is
operation_once (Demonitor tag flush) i a t u old new lt at (b, plays, is) = plays_once (Demonitor tag flush) i a b t u old new lt at plays is
operation_once (Alive to tag) i a t u old new lt at (b, plays, is) = plays_once (Alive to tag) i a b t u old new lt at plays is
operation_once (Trap on) i a t u old new lt at (b, plays, is) = plays_once (Trap on) i a b t u old new lt at plays is
operation_once (Exit reason) i a t u old new lt at (b, plays, is) = plays_once (Exit reason) i a b t u old new lt at plays is
operation_once (SendExit to reason) i a t u old new lt at (b, plays, is) = plays_once (SendExit to reason) i a b t u old new lt at plays is
operation_once Pass i a t u old new lt at (b, plays, is) = plays_once Pass i a b t u old new lt at plays is
operation_once (ReceiveAfter pattern tries) i a t u old new lt at (b, plays, is) = plays_once (ReceiveAfter pattern tries) i a b t u old new lt at plays is
operation_once (If pattern) i a t u old new lt at (b, plays, is) = plays_once (If pattern) i a b t u old new lt at plays is
operation_once Else i a t u old new lt at (b, plays, is) = plays_once Else i a b t u old new lt at plays is
operation_once End i a t u old new lt at (b, plays, is) = plays_once End i a b t u old new lt at plays is
operation_once (Repeat times) i a t u old new lt at (b, plays, is) = plays_once (Repeat times) i a b t u old new lt at plays is
operation_once Again i a t u old new lt at (b, plays, is) = plays_once Again i a b t u old new lt at plays is

-- one process after the other -------------------------------------------------------------------

each_then : (ps : List Pid) (p : Pid) (old between new : ShardState) (born more : List Pid) → EachDoesOne ps old between born → DoesOne p between new more → EachDoesOne (ps ++ p ∷ []) old new (born ++ more)
each_then [] p old between new born more each one =
    let here : DoesOne p old new more = subst (λ s. DoesOne p s new more) each.0 one in
    (new, more, [], here, (refl, refl), ap (λ (bs : List Pid). bs ++ more) each.1 ∙ sym (append-nil more))
each_then (q ∷ qs) p old between new born more (mid, here, later, first, rest, all) one =
    (mid, here, later ++ more, first, each_then qs p mid between new later more rest one, ap (λ (bs : List Pid). bs ++ more) all ∙ append_assoc here later more)

-- what the processes up to an index did, and the one at it
each_more : (ps : List Pid) (i : ℕ) (p : Pid) (old between new : ShardState) (born more : List Pid) → i < length ps → get_or ps i p ≡ p → EachDoesOne (take i ps) old between born → DoesOne p between new more → EachDoesOne (take (i + 1) ps) old new (born ++ more)
each_more ps i p old between new born more lt is each one =
    let e : take (i + 1) ps ≡ take i ps ++ p ∷ [] = take_more ps i p lt ∙ ap (λ q. take i ps ++ q ∷ []) is in
    subst (λ (qs : List Pid). EachDoesOne qs old new (born ++ more)) (sym e) (each_then (take i ps) p old between new born more each one)

abbrev EachOnce : ℕ → PidTable → ShardState → PidTable → ShardState → Type 0
EachOnce count t old u new = (born : List Pid) × EachDoesOne (take count (pids_in t)) old new born × (pids_in u ≡ pids_in t ++ born)

-- the process at the index is the one that the step began with there
is_that : (t before : PidTable) (born : List Pid) (i : ℕ) (a : Acting) → i < length t.actors → i < length before.actors → pids_in before ≡ pids_in t ++ born → get_or before.actors i a ≡ a → get_or (pids_in t) i a.pid ≡ a.pid
is_that t before born i a lt within listed at =
    let short : i < length (pids_in t) = omega (arith, length-map t.actors pid_of, lt) in
    let found : get_or (pids_in before) i a.pid ≡ a.pid = get_or-map pid_of before.actors i a a.pid within ∙ ap pid_of at in
    sym (get_or_append_left (pids_in t) born a.pid i short) ∙ ap (λ (ps : List Pid). get_or ps i a.pid) (sym listed) ∙ found

once_more : (i : ℕ) (t before u : PidTable) (old between new : ShardState) → i < length t.actors → EachOnce i t old before between → ActsAt i before between u new → EachOnce (i + 1) t old u new
once_more i t before u old between new lt (born, each, listed) one =
    let acts : ActsOnce one.a.pid before between u new = operation_once (next_of before.plans one.a) i one.a before u between new one.within one.is one.acts in
    let short : i < length (pids_in t) = omega (arith, length-map t.actors pid_of, lt) in
    let that : get_or (pids_in t) i one.a.pid ≡ one.a.pid = is_that t before born i one.a lt one.within listed one.is in (
      born ++ acts.0,
      each_more (pids_in t) i one.a.pid old between new born acts.0 short that each acts.1,
      acts.2 ∙ ap (λ (ps : List Pid). ps ++ acts.0) listed ∙ append_assoc (pids_in t) born acts.0,
    )

each_once : (count : ℕ) (t u : PidTable) (old new : ShardState) → count ≤ length t.actors → EachActs count t old u new → EachOnce count t old u new
each_once zero t u old new le (is, same) = ([], (same, refl), ap pids_in is ∙ sym (append-nil (pids_in t)))
each_once (suc count) t u old new le (before, between, each, one) =
    let lt : count < length t.actors = omega (arith, le) in
    let first : EachOnce count t old before between = each_once count t before old between (omega (arith, le)) each in
    subst (λ n. EachOnce n t old u new) (add-one count) (once_more count t before u old between new lt first one)

-- a step ----------------------------------------------------------------------------------------

kept_case : (test : Pid → Bool) (a : Acting) (actors : List Acting) (b : Bool) → test a.pid ≡ b → map pid_of (filter (λ (x : Acting). test x.pid) actors) ≡ filter test (map pid_of actors) → map pid_of (filter (λ (x : Acting). test x.pid) (a ∷ actors)) ≡ filter test (map pid_of (a ∷ actors))
kept_case test a actors true e rest = rw e (ap (λ (ps : List Pid). a.pid ∷ ps) rest)
kept_case test a actors false e rest = rw e rest

kept_pids : (test : Pid → Bool) (actors : List Acting) → map pid_of (filter (λ (x : Acting). test x.pid) actors) ≡ filter test (map pid_of actors)
kept_pids test [] = refl
kept_pids test (a ∷ actors) = kept_case test a actors (test a.pid) refl (kept_pids test actors)

actor_pids : (actors : List Actor) → map pid_of (map acting actors) ≡ map (λ (a : Actor). a.pid) actors
actor_pids [] = refl
actor_pids (a ∷ actors) = ap (λ (ps : List Pid). a.pid ∷ ps) (actor_pids actors)

living_pids : (d : ShardState) (r : Runner) → pids_in (living d (table r)) ≡ filter (lives d) (processes_here r)
living_pids d r = kept_pids (lives d) (map acting r.actors.items) ∙ ap (filter (lives d)) (actor_pids r.actors.items)

-- each live process of the script has one event at most in a step
pub steps : (r s : Runner) (old new : ShardState) → EachDoesNext (table r) old (table s) new → ProcessesStep (processes_here r) old (processes_here s) new
steps r s old new does =
    let start : PidTable = living old (table r) in
    let once : EachOnce (length start.actors) start old (table s) new = each_once (length start.actors) start (table s) old new (omega arith) does in
    let all : take (length start.actors) (pids_in start) ≡ filter (lives old) (processes_here r) = take_all (length start.actors) (pids_in start) (omega (arith, length-map start.actors pid_of)) ∙ living_pids old r in
    record {
      born = once.0;
      each = subst (λ (ps : List Pid). EachDoesOne ps old new once.0) all once.1;
      listed = sym (actor_pids s.actors.items) ∙ once.2 ∙ ap (λ (ps : List Pid). ps ++ once.0) (living_pids old r);
    }

-- so does one process alone
one_acts : (p : Pid) (t u : PidTable) (old new : ShardState) (at : Option ℕ) → position (λ (a : Acting). same_pid a.pid p) t.actors ≡ at → ActsIfAt at t old u new → ActsOnce p t old u new
one_acts p t u old new None is (same, still) = ([], inl (still, refl), ap pids_in same ∙ sym (append-nil (pids_in t)))
one_acts p t u old new (Some i) is acts =
    let passes : same_pid (get_or t.actors i acts.a).pid p ≡ true = (placed (λ (a : Acting). same_pid a.pid p) t.actors i acts.a is).1 in
    let that : acts.a.pid ≡ p = ap pid_of (sym acts.is) ∙ same_pid_is (get_or t.actors i acts.a).pid p passes in
    subst (λ (q : Pid). ActsOnce q t old u new) that (operation_once (next_of t.plans acts.a) i acts.a t u old new acts.within acts.is acts.acts)

pub one_steps : (p : Pid) (r s : Runner) (old new : ShardState) → OneDoesNext p (table r) old (table s) new → ProcessSteps p (processes_here r) old (processes_here s) new
one_steps p r s old new does =
    let start : PidTable = living old (table r) in
    let once : ActsOnce p start old (table s) new = one_acts p start (table s) old new (position (λ (a : Acting). same_pid a.pid p) start.actors) refl does in
    record {
      born = once.0;
      one = once.1;
      listed = sym (actor_pids s.actors.items) ∙ once.2 ∙ ap (λ (ps : List Pid). ps ++ once.0) (living_pids old r);
    }

kept_none : (test : Pid → Bool) (p : Pid) (ps : List Pid) (b : Bool) → test p ≡ b → test p ≡ false → filter test ps ≡ [] → filter test (p ∷ ps) ≡ []
kept_none test p ps true e h rest = absurd (let f : true ≡ false = sym e ∙ h in cc)
kept_none test p ps false e h rest = rw e rest

none_kept : (test : Pid → Bool) (ps : List Pid) → All (λ p. test p ≡ false) ps → filter test ps ≡ []
none_kept test [] h = refl
none_kept test (p ∷ ps) h = kept_none test p ps (test p) refl (All-head (λ q. test q ≡ false) p ps h) (none_kept test ps (All-tail (λ q. test q ≡ false) p ps h))

-- where none lives, nothing happens
pub idle : (processes now : List Pid) (old new : ShardState) → ProcessesStep processes old now new → All (λ p. lives old p ≡ false) processes → new ≡ old
idle processes now old new h none = (subst (λ (ps : List Pid). EachDoesOne ps old new h.born) (none_kept (lives old) processes none) h.each).0
