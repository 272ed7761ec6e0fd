-- What operations do, and what a step does.
use Rattle.std.proofs.Common.{◌≡◌, ◌≢◌, ◌⊎◌, inl, inr, ℕ, suc, ◌+◌, ◌-◌, ◌<◌, List, [], ◌∷◌, ◌++◌, Bool, true, false, length, length-append, map, get_or, replicate, set, Option, Some, None, Result, Ok, Err, refl, ap, sym, subst, ◌∙◌, append_assoc, add-one, arith}
use Rattle.std.specs.Prelude.{is_some}
use Rattle.std.specs.List.{filter, position}
use Rattle.std.proofs.lemmas.List.{map-set, get_or-map, get_or_append_left, get_or_default, length-map}
use Rattle.pt_signal.specs.declared.ids.Ref.{Ref}
use Rattle.pt_signal.specs.declared.item.Item.{Item}
use Rattle.pt_signal.specs.declared.item.Pick.{Pick}
use Rattle.pt_signal.specs.declared.pid.Pid.{Pid}
use Rattle.pt_signal.specs.Values.{same_pid}
use Rattle.pt_events.specs.declared.event.Event.{Event}
use Rattle.pt_script.specs.Plans.{Plan}
use Rattle.pt_script.specs.declared.values.Pattern.{Pattern}
use Rattle.pt_script.specs.declared.values.Operation.{Operation}
use Rattle.pt_script.specs.declared.values.Operation.TheVariants.{Send, Receive, Check, Link, Unlink, Monitor, Demonitor, Alive, Trap, Exit, Signal as SendExit, Spawn, Pass, ReceiveAfter, If, Else, End, Repeat, Again}
use Rattle.pt_signal.specs.declared.signal.Signal.TheVariants.{AliveAsk}
use Rattle.pt_events.specs.declared.event.Event.TheVariants.{Said}
use Rattle.pt_shard.specs.declared.fault.Fault.{Fault}
use Rattle.pt_shard.specs.declared.fault.Fault.TheVariants.{Full, Memory, Worn, Gone, Myself, NoProc}
use Rattle.pt_desk.specs.DeskState.{DeskState}
use Rattle.pt_desk.specs.Reaching.{Reaches, has_monitor_to_make}
use Rattle.pt_workers.proofs.Reached.{reached}
use Rattle.pt_shard.specs.Calls.{Calls, Monitors, take_event, first_match, demonitor_event, new_ref}
use Rattle.pt_runner.specs.declared.calls.Progress.TheVariants.{Done, Stays}
use Rattle.pt_shard.specs.ShardState.{ShardState}
use Rattle.pt_runner.specs.declared.calls.Progress.{Progress}
use Rattle.pt_runner.specs.declared.runner.Actor.{Actor}
use Rattle.pt_runner.specs.Acting.{came_of, CallsTarget, ReachesAt, Takes, taken_of, Demonitors, MonitorsAt, AsksAt, padded_to, with_answer, Performs, Acting, PidTable, acting, set_acting, with_born, newborn_actor, GoesBehind, Plays, DoesOperation, ActsAt, ActsIfAt, EachActs}

-- calls on a target ------------------------------------------------------------------------

pub passed_at : (at : Option Pid) (p : Pid) (event : Pid → Option Event) (old : ShardState) → at ≡ None → CallsTarget at p event old Done old
passed_at at p event old is = subst (λ (o : Option Pid). CallsTarget o p event old Done old) (sym is) (refl, refl)

pub call_at : (at : Option Pid) (t p : Pid) (event : Pid → Option Event) (e : Option Event) (old new : ShardState) (answer : Result (Unit {0}) Fault) (progress : Progress) → at ≡ Some t → e ≡ event t → Calls p e (tt {0}) old answer new → progress ≡ came_of answer → CallsTarget at p event old progress new
call_at at t p event e old new answer progress is same calls came =
    subst (λ (o : Option Pid). CallsTarget o p event old progress new) (sym is) (answer, subst (λ (f : Option Event). Calls p f (tt {0}) old answer new) same calls, came)

-- calls that reach for a target: what the desk says of one is what the runner says

pub reach_passed : (at : Option Pid) (p : Pid) (looks : Pid → Bool) (event : Pid → Option Event) (old : ShardState) → at ≡ None → ReachesAt at p looks event old Done old
reach_passed at p looks event old is = subst (λ (o : Option Pid). ReachesAt o p looks event old Done old) (sym is) (refl, refl)

pub reach_at : (at : Option Pid) (t p : Pid) (looks : Pid → Bool) (event : Pid → Option Event) (e : Option Event) (old new : DeskState) (answer : Result (Unit {0}) Fault) (progress : Progress) → at ≡ Some t → e ≡ event t
    → Reaches (looks t) p t (Calls p e (tt {0}) old.shard answer new.shard) old answer new → progress ≡ came_of answer → ReachesAt at p looks event old.shard progress new.shard
reach_at at t p looks event e old new answer progress is same reaches came =
    subst (λ (o : Option Pid). ReachesAt o p looks event old.shard progress new.shard) (sym is) (
      answer,
      reached (looks t) p t (Calls p (event t) (tt {0}) old.shard answer new.shard) old answer new (subst (λ (f : Option Event). Reaches (looks t) p t (Calls p f (tt {0}) old.shard answer new.shard) old answer new) same reaches),
      came,
    )

pub take_passed : (at : Option Pick) (p : Pid) (without : Progress) (old : ShardState) → at ≡ None → Takes at p without old Done old
take_passed at p without old is = subst (λ (o : Option Pick). Takes o p without old Done old) (sym is) (refl, refl)

pub take_at : (at : Option Pick) (k : Pick) (p : Pid) (without : Progress) (old new : ShardState) (answer : Result (Option Item) Fault) (progress : Progress) → at ≡ Some k → Calls p (take_event old p k) (first_match old p k) old answer new → progress ≡ taken_of without answer → Takes at p without old progress new
take_at at k p without old new answer progress is calls came =
    subst (λ (o : Option Pick). Takes o p without old progress new) (sym is) (answer, calls, came)

pub demonitor_passed : (at : Option Ref) (p : Pid) (flush : Bool) (old : ShardState) → at ≡ None → Demonitors at p flush old Done old
demonitor_passed at p flush old is = subst (λ (o : Option Ref). Demonitors o p flush old Done old) (sym is) (refl, refl)

pub demonitor_at : (at : Option Ref) (m : Ref) (p : Pid) (flush : Bool) (old new : ShardState) (answer : Result Bool Fault) (progress : Progress) → at ≡ Some m → Calls p (demonitor_event old p m flush) (is_some (demonitor_event old p m flush)) old answer new → progress ≡ came_of answer → Demonitors at p flush old progress new
demonitor_at at m p flush old new answer progress is calls came =
    subst (λ (o : Option Ref). Demonitors o p flush old progress new) (sym is) (answer, calls, came)

-- operations that make a tag

-- one more of the tags before it has no reference
pub padded_more : (tag : ℕ) (references : List (Option Ref)) → length references < tag → padded_to tag (references ++ None ∷ []) ≡ padded_to tag references
padded_more tag references lt =
    let count : suc (tag - length (references ++ None ∷ [])) ≡ tag - length references = omega (arith, lt, length-append references (None ∷ [])) in
    append_assoc references (None ∷ []) (replicate (tag - length (references ++ None ∷ [])) None)
    ∙ ap (λ n. references ++ replicate n None) count

pub no_room : (p : Pid) (at : Option Pid) (tag : ℕ) (old : ShardState) (references after : List (Option Ref)) → after ≡ references → MonitorsAt p at tag old references Stays old after
no_room p None tag old references after e = inl (refl, refl, e)
no_room p (Some t) tag old references after e = inl (refl, refl, e)

pub no_target : (p : Pid) (at : Option Pid) (tag : ℕ) (old : ShardState) (references after : List (Option Ref)) → at ≡ None → after ≡ with_answer tag references (Err NoProc) → MonitorsAt p at tag old references Done old after
no_target p at tag old references after is e = subst (λ (o : Option Pid). MonitorsAt p o tag old references Done old after) (sym is) (inr ((refl, refl), e))

pub monitor_at : (p : Pid) (at : Option Pid) (t : Pid) (tag : ℕ) (old new : DeskState) (references after : List (Option Ref)) (answer : Result Ref Fault) (progress : Progress) → at ≡ Some t
    → Reaches (has_monitor_to_make old.shard p t) p t (Monitors p t old.shard answer new.shard) old answer new → progress ≡ came_of answer → after ≡ with_answer tag references answer → MonitorsAt p at tag old.shard references progress new.shard after
monitor_at p at t tag old new references after answer progress is reaches came noted =
    subst (λ (o : Option Pid). MonitorsAt p o tag old.shard references progress new.shard after) (sym is)
    (inr (answer, reached (has_monitor_to_make old.shard p t) p t (Monitors p t old.shard answer new.shard) old answer new reaches, came, noted))

pub ask_no_room : (p : Pid) (at : Option Pid) (tag : ℕ) (old : ShardState) (references after : List (Option Ref)) → after ≡ references → AsksAt p at tag old references Stays old after
ask_no_room p None tag old references after e = inl (refl, refl, e)
ask_no_room p (Some t) tag old references after e = inl (refl, refl, e)

pub ask_no_target : (p : Pid) (at : Option Pid) (tag : ℕ) (old : ShardState) (references after : List (Option Ref)) → at ≡ None → after ≡ with_answer tag references (Err NoProc) → AsksAt p at tag old references Done old after
ask_no_target p at tag old references after is e = subst (λ (o : Option Pid). AsksAt p o tag old references Done old after) (sym is) (inr ((refl, refl), e))

pub ask_at : (p : Pid) (at : Option Pid) (t : Pid) (tag : ℕ) (old new : ShardState) (references after : List (Option Ref)) (answer : Result Ref Fault) (progress : Progress) → at ≡ Some t → Calls p (Some (Said p t (AliveAsk (new_ref old)))) (new_ref old) old answer new → progress ≡ came_of answer → after ≡ with_answer tag references answer → AsksAt p at tag old references progress new after
ask_at p at t tag old new references after answer progress is calls came noted =
    subst (λ (o : Option Pid). AsksAt p o tag old references progress new after) (sym is) (inr (answer, calls, came, noted))

-- any operation ---------------------------------------------------------------------------

pub performs_as : (pids : List (Option Pid)) (p : Pid) (o named : Operation) (old : ShardState) (references : List (Option Ref)) (progress : Progress) (new : ShardState) (after : List (Option Ref)) → o ≡ named → Performs pids p named old references progress new after → Performs pids p o old references progress new after
performs_as pids p o named old references progress new after is h = subst (λ (x : Operation). Performs pids p x old references progress new after) (sym is) h

-- one that does nothing
pub performs_nothing : (pids : List (Option Pid)) (p : Pid) (o : Operation) (old : ShardState) (references : List (Option Ref))
    → (o ≡ Pass) ⊎ (((pattern : Pattern) × (o ≡ If pattern)) ⊎ ((o ≡ Else) ⊎ ((o ≡ End) ⊎ (((times : ℕ) × (o ≡ Repeat times)) ⊎ (o ≡ Again))))) → Performs pids p o old references Done old references
performs_nothing pids p o old references (inl is) = performs_as pids p o Pass old references Done old references is ((refl, refl), refl)
performs_nothing pids p o old references (inr (inl (pattern, is))) = performs_as pids p o (If pattern) old references Done old references is ((refl, refl), refl)
performs_nothing pids p o old references (inr (inr (inl is))) = performs_as pids p o Else old references Done old references is ((refl, refl), refl)
performs_nothing pids p o old references (inr (inr (inr (inl is)))) = performs_as pids p o End old references Done old references is ((refl, refl), refl)
performs_nothing pids p o old references (inr (inr (inr (inr (inl (times, is)))))) = performs_as pids p o (Repeat times) old references Done old references is ((refl, refl), refl)
performs_nothing pids p o old references (inr (inr (inr (inr (inr is))))) = performs_as pids p o Again old references Done old references is ((refl, refl), refl)

-- an operation that is no spawn
pub acts_plain : (o : Operation) (i : ℕ) (a b : Acting) (t u : PidTable) (old new : ShardState) → ((process : ℕ) (linked : Bool) → o ≢ Spawn process linked) → Plays t.plans t.pids o a old b new → u ≡ set_acting i b t → DoesOperation o i a t old u new
acts_plain (Send to kind num who) i a b t u old new plain plays is = (b, plays, is)
acts_plain (Receive pattern) i a b t u old new plain plays is = (b, plays, is)
acts_plain (Check pattern) i a b t u old new plain plays is = (b, plays, is)
acts_plain (Link to) i a b t u old new plain plays is = (b, plays, is)
acts_plain (Unlink to) i a b t u old new plain plays is = (b, plays, is)
acts_plain (Monitor to tag) i a b t u old new plain plays is = (b, plays, is)
acts_plain (Demonitor tag flush) i a b t u old new plain plays is = (b, plays, is)
acts_plain (Alive to tag) i a b t u old new plain plays is = (b, plays, is)
acts_plain (Trap on) i a b t u old new plain plays is = (b, plays, is)
acts_plain (Exit reason) i a b t u old new plain plays is = (b, plays, is)
acts_plain (SendExit to reason) i a b t u old new plain plays is = (b, plays, is)
acts_plain (Spawn process linked) i a b t u old new plain plays is = absurd (plain process linked refl)
acts_plain Pass i a b t u old new plain plays is = (b, plays, is)
acts_plain (ReceiveAfter pattern tries) i a b t u old new plain plays is = (b, plays, is)
acts_plain (If pattern) i a b t u old new plain plays is = (b, plays, is)
acts_plain Else i a b t u old new plain plays is = (b, plays, is)
acts_plain End i a b t u old new plain plays is = (b, plays, is)
acts_plain (Repeat times) i a b t u old new plain plays is = (b, plays, is)
acts_plain Again i a b t u old new plain plays is = (b, plays, is)

-- tables ------------------------------------------------------------------------------------

abbrev pub table_of : List Plan → List (Option Pid) → List Actor → PidTable
table_of plans pids actors = record { plans = plans; pids = pids; actors = map acting actors }

pub set_actor : (plans : List Plan) (pids : List (Option Pid)) (actors : List Actor) (i : ℕ) (a : Actor) → table_of plans pids (set actors i a) ≡ set_acting i (acting a) (table_of plans pids actors)
set_actor plans pids actors i a = ap (λ (xs : List Acting). record { plans = plans; pids = pids; actors = xs }) (map-set acting actors i a)

pub acting_within : (actors : List Actor) (i : ℕ) → i < length actors → i < length (map acting actors)
acting_within actors i lt = rw (length-map actors acting) lt

pub acting_at : (actors : List Actor) (i : ℕ) (a : Actor) → i < length actors → a ≡ get_or actors i a → get_or (map acting actors) i (acting a) ≡ acting a
acting_at actors i a lt is = get_or-map acting actors i a (acting a) lt ∙ ap acting (sym is)

-- the element at an index is one
pub same_at : {X : Type 0} (xs : List X) (i : ℕ) (x y : X) → i < length xs → x ≡ get_or xs i x → y ≡ get_or xs i y → x ≡ y
same_at xs i x y lt ex ey = ex ∙ get_or_default xs i x y lt ∙ sym ey

-- a child is listed beside the same processes
pub with_child_same : (process : ℕ) (answer : Result Pid Fault) (plans : List Plan) (pids : List (Option Pid)) (xs ys : List Actor) → xs ≡ ys → with_born process answer (table_of plans pids xs) ≡ with_born process answer (table_of plans pids ys)
with_child_same process answer plans pids xs ys e = ap (λ (zs : List Actor). with_born process answer (table_of plans pids zs)) e

-- those that stood there before a child was listed
pub child_behind : (process : ℕ) (answer : Result Pid Fault) (t : PidTable) (i : ℕ) (d : Acting) → i < length t.actors → get_or (with_born process answer t).actors i d ≡ get_or t.actors i d
child_behind process (Ok p) t i d lt = get_or_append_left t.actors (newborn_actor t.plans process p ∷ []) d i lt
child_behind process (Err fault) t i d lt = refl

-- and what the processes do
pub child_plans : (process : ℕ) (answer : Result Pid Fault) (t : PidTable) → (with_born process answer t).plans ≡ t.plans
child_plans process (Ok p) t = refl
child_plans process (Err fault) t = refl

-- a birth takes no item, so whom an operation may name makes no difference behind it
pub behind_birth : (plans : List Plan) (pids more : List (Option Pid)) (answer : Result Pid Fault) (a b : Acting) (old new : ShardState) → GoesBehind plans more (came_of answer) a old b new → GoesBehind plans pids (came_of answer) a old b new
behind_birth plans pids more (Ok p) a b old new h = h
behind_birth plans pids more (Err Full) a b old new h = h
behind_birth plans pids more (Err Memory) a b old new h = h
behind_birth plans pids more (Err Worn) a b old new h = h
behind_birth plans pids more (Err Gone) a b old new h = h
behind_birth plans pids more (Err Myself) a b old new h = h
behind_birth plans pids more (Err NoProc) a b old new h = h

-- a step --------------------------------------------------------------------------------------

pub each_acts_then : (i : ℕ) (t between u : PidTable) (old mid new : ShardState) → EachActs i t old between mid → ActsAt i between mid u new → EachActs (i + 1) t old u new
each_acts_then i t between u old mid new each one = subst (λ n. EachActs n t old u new) (sym (add-one i)) (between, mid, each, one)

-- what one process does, by its place in the table
pub one_acts_at : (p : Pid) (t s u : PidTable) (old new : ShardState) (o : Option ℕ) → s ≡ t → position (λ (a : Acting). same_pid a.pid p) s.actors ≡ o → ActsIfAt o s old u new → ActsIfAt (position (λ (a : Acting). same_pid a.pid p) t.actors) t old u new
one_acts_at p t s u old new o same at acts =
    subst (λ (x : PidTable). ActsIfAt (position (λ (a : Acting). same_pid a.pid p) x.actors) x old u new) same (subst (λ (q : Option ℕ). ActsIfAt q s old u new) (sym at) acts)

pub none_of : (o : Option ℕ) → ((i : ℕ) → o ≢ Some i) → o ≡ None
none_of None h = refl
none_of (Some i) h = absurd (h i refl)

living_case : (test : Pid → Bool) (a : Actor) (actors : List Actor) (b : Bool) → test a.pid ≡ b → map acting (filter (λ (x : Actor). test x.pid) actors) ≡ filter (λ (x : Acting). test x.pid) (map acting actors) → map acting (filter (λ (x : Actor). test x.pid) (a ∷ actors)) ≡ filter (λ (x : Acting). test x.pid) (map acting (a ∷ actors))
living_case test a actors true e rest = rw e (ap (λ (xs : List Acting). acting a ∷ xs) rest)
living_case test a actors false e rest = rw e rest

pub living_actors : (test : Pid → Bool) (actors : List Actor) → map acting (filter (λ (x : Actor). test x.pid) actors) ≡ filter (λ (x : Acting). test x.pid) (map acting actors)
living_actors test [] = refl
living_actors test (a ∷ actors) = living_case test a actors (test a.pid) refl (living_actors test actors)
