-- One that was come to, and where it stands then.
use Rattle.std.proofs.Common.{◌≡◌, ◌⊎◌, inl, inr, ℕ, ◌+◌, Bool, true, false, ◌&&◌, ◌||◌, cond, List, [], ◌∷◌, ◌++◌, length, slice_get, Option, Some, None, Result, Ok, Err, refl, sym, ap, subst, ◌∙◌, append-nil, arith}
use Rattle.std.specs.Prelude.{IfSome, MatchBool, nat_le}
use Rattle.std.specs.Option.{option_map}
use Rattle.std.specs.VecDeque.{deque_capacity, deque_len}
use Rattle.indexmap.specs.IndexMap.{IndexMap, get, index_of_by, with_value_at, swap_remove_entry, IsUnique}
use Rattle.pt_signal.specs.declared.pid.Pid.{Pid}
use Rattle.pt_signal.specs.declared.item.Item.{Item}
use Rattle.pt_signal.specs.declared.item.Pick.{Pick}
use Rattle.pt_signal.specs.declared.item.Pick.TheVariants.{Any}
use Rattle.pt_signal.specs.Values.{same_pid}
use Rattle.pt_signal.proofs.Same.{same_pid_refl}
use Rattle.pt_events.specs.declared.event.Event.TheVariants.{Took}
use Rattle.pt_events.specs.History.{Phase, unborn, living, ended}
use Rattle.pt_shard.specs.declared.fault.Fault.{Fault}
use Rattle.pt_shard.specs.declared.fault.Fault.TheVariants.{Full, Memory, Worn, Myself, NoProc, Gone as Left}
use Rattle.pt_shard.specs.Calls.{Calls, after_if, take_event, first_match}
use Rattle.pt_timers.specs.declared.Timer.{Timer}
use Rattle.pt_timers.specs.State.{TimersState}
use Rattle.pt_shard.specs.ShardState.{ShardState, lives, phase_of}
use Rattle.pt_shard.specs.Extends.{Extends}
use Rattle.pt_workers.specs.Waking.{need_not_wait}
use Rattle.pt_workers.proofs.Waiting.{born_later}
use Rattle.pt_behaviour.specs.declared.births.Role.{Role}
use Rattle.pt_behaviour.specs.declared.behaviour.Next.{Next}
use Rattle.pt_behaviour.specs.declared.behaviour.Next.TheVariants.{Wait, WaitUntil, Proceed, Running, Stop}
use Rattle.pt_crew.specs.declared.crew.Member.{Member}
use Rattle.pt_crew.specs.declared.crew.Crew.{Crew}
use Rattle.pt_crew.specs.declared.crew.Tended.{Tended}
use Rattle.pt_crew.specs.declared.crew.Tended.TheVariants.{Idle, Again, Done, Refused, Gone}
use Rattle.pt_behaviour.specs.Behaving.{Answers, AnswersNow, limit_of}
use Rattle.pt_crew.specs.Visiting.{BearsChildren, HandsTo, StaysAs, SeesTo, TakesAs, EndsAs, LeavesAs, handed_as, handed_by, again_as, goes_behind, leaves_crew, is_refused, leaver, left_as}
use Rattle.pt_crew.specs.Crews.{HasRoom, HasTimers, KnowsDesk, members, queue, role, roles, left, waiting, unmarked, read_events, rounds_asked, time_of, was_refused}
use Rattle.pt_behaviour.specs.Births.{bore}
use Rattle.pt_crew.specs.Waking.{IsQueue, Knows, Members, AreTimed, has_task, has_work, in_queue, sleeps_until, timer_of}
use Rattle.pt_crew.specs.Parts.{MemberTends, PutsMember, SleepsUntil, kept_as, sleeper}
use Rattle.pt_crew.specs.Stepping.{Serves, is_running, runs}
use Rattle.pt_crew.specs.Outside.{BeginsToRun, next_in_front}
use Rattle.pt_behaviour.proofs.Cases.{some_none, same_some}
use Rattle.pt_crew.proofs.Waking.{changed, taken_out, put_back, first_in, no_task, there}
use Rattle.pt_crew.proofs.Timing.{untimed, timed_anew, stops_none, queued_bare}
use Rattle.pt_crew.proofs.Places.{written_at, held_at}
use Rattle.pt_crew.proofs.Room.{bare, unmarked_set, unmarked_swap}
use Rattle.pt_crew.proofs.Visiting.{serves_first, says_nothing}

-- it stays in the crew
pub placed : {B : Type 0} (p : Pid) (t s : Tended) (old new : Crew B) → t ≡ s → leaves_crew s ≡ false → new.members ≡ old.members → queue new ≡ queue old ++ again_as p s → left new ≡ left old
    → was_refused new ≡ (was_refused old || is_refused s) → waiting new ≡ waiting old → read_events new ≡ read_events old → rounds_asked new ≡ rounds_asked old
    → time_of new ≡ time_of old → new.timers ≡ old.timers → deque_capacity new.queue ≡ deque_capacity old.queue → deque_len new.queue ≡ deque_len old.queue + length (again_as p s) → PutsMember p t old new
placed p t s old new is stays same stands gone says waits reads rounds times timers cap len = subst (λ (x : Tended). PutsMember p x old new) (sym is) (record {
  members = λ q. ap (λ (m : IndexMap _ _ _). get same_pid m q) same ∙ ap (λ (b : Bool). cond (b && same_pid p q) None (members old q)) (sym stays);
  queue = stands;
  left = gone ∙ sym (append-nil (left old)) ∙ ap (λ (b : Bool). left old ++ cond b (leaver p (roles old p)) []) (sym stays);
  refused = says;
  waiting = waits;
  read = reads;
  rounds = rounds;
  time = times;
  timers = timers;
  room = (cap, len, let e = ap (λ (m : IndexMap _ _ _). unmarked m.entries) same in omega (arith, e));
})

-- nothing is done
pub stays_put : {B : Type 0} (p : Pid) (t : Tended) (c : Crew B) → (t ≡ Idle) ⊎ (t ≡ Done) → PutsMember p t c c
stays_put p t c is = elim is [
  | inl e ↦ placed p t Idle c c e refl refl (sym (append-nil (queue c))) refl (says_nothing (was_refused c)) refl refl refl refl refl refl (omega arith)
  | inr e ↦ placed p t Done c c e refl refl (sym (append-nil (queue c))) refl (says_nothing (was_refused c)) refl refl refl refl refl refl (omega arith)
]

-- it is taken out, and listed as it was
pub taken_away : {B : Type 0} (p : Pid) (t : Tended) (old new : Crew B) (m : Option (Member B)) → t ≡ Gone → ((q : Pid) → members new q ≡ cond (same_pid p q) None (members old q)) → m ≡ members old p
    → new.members.entries ≡ swap_remove_entry (same_pid p) old.members.entries → left new ≡ left old ++ leaver p (option_map role m)
    → queue new ≡ queue old → deque_capacity new.queue ≡ deque_capacity old.queue → deque_len new.queue ≡ deque_len old.queue → waiting new ≡ waiting old → was_refused new ≡ was_refused old
    → read_events new ≡ read_events old → rounds_asked new ≡ rounds_asked old → time_of new ≡ time_of old → new.timers ≡ old.timers → PutsMember p t old new
taken_away p t old new m is out was entries gone stands cap len waits quiet reads rounds times timers = subst (λ (x : Tended). PutsMember p x old new) (sym is) (record {
  members = out;
  queue = stands ∙ sym (append-nil (queue old));
  left = gone ∙ ap (λ (o : Option (Member _)). left old ++ leaver p (option_map role o)) was;
  refused = quiet ∙ says_nothing (was_refused old);
  waiting = waits;
  read = reads;
  rounds = rounds;
  time = times;
  timers = timers;
  room = (cap, omega (arith, len), let e = ap unmarked entries in let s = unmarked_swap (same_pid p) old.members.entries in omega (arith, e, s));
})

-- the entry of p once it was come to
abbrev entry_as : {B : Type 0} → Tended → Member B → Option (Member B)
entry_as t w = cond (leaves_crew t) None (Some w)

entry_is : {X : Type 0} (gone same : Bool) (mid old : Option X) (w : X) → mid ≡ cond same (Some w) old → cond (gone && same) None mid ≡ cond same (cond gone None (Some w)) old
entry_is true true mid old w e = refl
entry_is true false mid old w e = e
entry_is false true mid old w e = e
entry_is false false mid old w e = e

kept_is : {B : Type 0} (t : Tended) (m w : Member B) → role w ≡ role m → kept_as t m ≡ option_map role (entry_as t w)
kept_is Idle m w same = ap Some (sym same)
kept_is Again m w same = ap Some (sym same)
kept_is Done m w same = ap Some (sym same)
kept_is Refused m w same = ap Some (sym same)
kept_is Gone m w same = refl

leaver_is : {B : Type 0} (p : Pid) (t : Tended) (m v : Member B) → (t ≡ Gone → role m ≡ role v) → left_as p (Some (role m)) t ≡ left_as p (Some (role v)) t
leaver_is p Idle m v h = refl
leaver_is p Again m v h = refl
leaver_is p Done m v h = refl
leaver_is p Refused m v h = refl
leaver_is p Gone m v h = ap (λ (r : _ × Next). left_as p (Some r) Gone) (h refl)

moved : {B : Type 0} (p : Pid) (t : Tended) (mem new : Members B) (w : Member B) (rest now : List Pid) → w.queued ≡ goes_behind t → ((q : Pid) → new q ≡ cond (same_pid p q) (entry_as t w) (mem q))
    → now ≡ rest ++ again_as p t → IsQueue mem (p ∷ rest) → IsQueue new now
moved {B} p t mem new w rest now is stands here k = go t is stands here
  where
    out : (o : Option (Member B)) → ((q : Pid) → new q ≡ cond (same_pid p q) o (mem q)) → ((m : Member B) → o ≡ Some m → m.queued ≡ false) → now ≡ rest ++ [] → IsQueue new now
    out o stands bare here = subst (λ (ps : List Pid). IsQueue new ps) (sym (here ∙ append-nil rest)) (taken_out mem new p o rest stands bare k)

    off : w.queued ≡ false → (m : Member B) → Some w ≡ Some m → m.queued ≡ false
    off is m e = ap (λ (x : Member B). x.queued) (sym (same_some w m e)) ∙ is

    go : (s : Tended) → w.queued ≡ goes_behind s → ((q : Pid) → new q ≡ cond (same_pid p q) (entry_as s w) (mem q)) → now ≡ rest ++ again_as p s → IsQueue new now
    go Again is stands here = put_back mem new p w rest now stands is here k
    go Refused is stands here = put_back mem new p w rest now stands is here k
    go Idle is stands here = out (Some w) stands (off is) here
    go Done is stands here = out (Some w) stands (off is) here
    go Gone is stands here = out None stands (λ m e. some_none None m refl e) here

still_awake : {B : Type 0} (p : Pid) (t : Tended) (m w : Member B) (d : ShardState) → w.queued ≡ goes_behind t → role w ≡ role m → (w.clear ≡ true → need_not_wait Any (phase_of d p) ≡ false) → MemberTends p t m d
    → (x : Member B) → entry_as t w ≡ Some x → has_task x (phase_of d p) ≡ true → x.queued ≡ true
still_awake {B} p t m w d is same quiet tends x e work = go t is tends e
  where
    on : w.queued ≡ true → Some w ≡ Some x → x.queued ≡ true
    on is e = ap (λ (y : Member B). y.queued) (sym (same_some w x e)) ∙ is

    idle : has_work m.next (phase_of d p) ≡ false → Some w ≡ Some x → x.queued ≡ true
    idle none e =
        let next : w.next ≡ m.next = ap (λ (r : B × Next). r.1) same in
        let none_here : has_task w (phase_of d p) ≡ false = no_task w.clear (need_not_wait Any (phase_of d p)) (has_work w.next (phase_of d p)) quiet (ap (λ (n : Next). has_work n (phase_of d p)) next ∙ none) in
        let here : has_task w (phase_of d p) ≡ true = ap (λ (y : Member B). has_task y (phase_of d p)) (same_some w x e) ∙ work in
        absurd (cc)

    go : (s : Tended) → w.queued ≡ goes_behind s → MemberTends p s m d → entry_as s w ≡ Some x → x.queued ≡ true
    go Again is tends e = on is e
    go Refused is tends e = on is e
    go Idle is tends e = idle tends e
    go Done is tends e = idle tends e
    go Gone is tends e = some_none None x refl e

one_of : {B : Type 0} (p : Pid) (t : Tended) (w : Member B) → w.queued ≡ goes_behind t → bare w + length (again_as p t) ≡ 1
one_of p t w is = ap (λ (b : Bool). cond b 0 1 + length (again_as p t)) is ∙ go t
  where
    go : (s : Tended) → cond (goes_behind s) 0 1 + length (again_as p s) ≡ 1
    go Again = refl
    go Refused = refl
    go Idle = refl
    go Done = refl
    go Gone = refl

-- one that came of it idle ----------------------------------------------------------------

not_by : (items : List Item) → Idle ≡ handed_by items → ⊥
not_by [] is = cc
not_by (i ∷ items) is = cc

not_handed : (next : Next) (f : Phase) → Idle ≡ handed_as next f → ⊥
not_handed (Wait k) unborn is = cc
not_handed (Wait k) (living s) is = not_by s.waiting is
not_handed (Wait k) (ended r s) is = cc
not_handed (WaitUntil k at) f is = cc
not_handed Proceed f is = cc
not_handed Running unborn is = cc
not_handed Running (living s) is = cc
not_handed Running (ended r s) is = cc
not_handed (Stop r) f is = cc

module _ {B : Type 0} (answers : AnswersNow B) (p : Pid) (b : B) (n : Next) (e : ShardState) (now : Option (B × Next)) (births : List (Role B)) where
  -- it is as it was, and so is its desk
  abbrev IsAsWas : ShardState → Type 0
  IsAsWas d = (now ≡ Some (b, n)) × (e ≡ d)

  handed_idle : (item : Option Item) (d : ShardState) {Y : Type 0} → HandsTo answers p b item d Idle now e births → Y
  handed_idle item d h = absurd (not_handed h.next (phase_of e p) h.tended)

  ends_idle : (d : ShardState) (role : B × Next) (result : Result (Unit {0}) Fault) {Y : Type 0} → EndsAs role result Idle now → Y
  ends_idle d role (Ok x) h = absurd (let is = h.0 in cc)
  ends_idle d role (Err Left) h = absurd (let is = h.0 in cc)
  ends_idle d role (Err Memory) h = absurd (let is = h.0 in cc)
  ends_idle d role (Err Worn) h = absurd (let is = h.0 in cc)
  ends_idle d role (Err Full) h = absurd (let is = h.0 in cc)
  ends_idle d role (Err Myself) h = absurd (let is = h.0 in cc)
  ends_idle d role (Err NoProc) h = absurd (let is = h.0 in cc)

  none_idle : (over : Bool) (d : ShardState) → MatchBool over (HandsTo answers p b None d Idle now e births) (StaysAs Idle (b, n) d Idle now e) → IsAsWas d
  none_idle true d h = handed_idle None d h
  none_idle false d h = (h.1, h.2)

  takes_idle : (over : Bool) (d mid : ShardState) (k : Pick) (result : Result (Option Item) Fault) → Calls p (take_event d p k) (first_match d p k) d result mid → TakesAs answers p (b, n) over mid result Idle now e births → IsAsWas d
  takes_idle over d mid k (Ok None) calls h =
      let same : mid ≡ d = calls.3 ∙ ap (λ (o : Option Item). after_if (option_map (Took p k) o) d) (sym calls.2) in
      let was = none_idle over mid h in (was.0, was.1 ∙ same)
  takes_idle over d mid k (Ok (Some i)) calls h = handed_idle (Some i) mid h
  takes_idle over d mid k (Err Left) calls h = absurd (let is = h.0 in cc)
  takes_idle over d mid k (Err Memory) calls h = absurd (let is = h.0 in cc)
  takes_idle over d mid k (Err Worn) calls h = absurd (let is = h.0 in cc)
  takes_idle over d mid k (Err Full) calls h = absurd (let is = h.0 in cc)
  takes_idle over d mid k (Err Myself) calls h = absurd (let is = h.0 in cc)
  takes_idle over d mid k (Err NoProc) calls h = absurd (let is = h.0 in cc)

  runs_idle : (alive : Bool) (d : ShardState) → MatchBool alive (StaysAs Idle (b, n) d Idle now e) (LeavesAs d Idle now e) → IsAsWas d
  runs_idle true d h = (h.1, h.2)
  runs_idle false d h = absurd (let is = h.0 in cc)

  proceeds_idle : (alive : Bool) (d : ShardState) → MatchBool alive (HandsTo answers p b None d Idle now e births) (LeavesAs d Idle now e) → IsAsWas d
  proceeds_idle true d h = handed_idle None d h
  proceeds_idle false d h = absurd (let is = h.0 in cc)

idle_stays : {B : Type 0} (answers : Answers B) (time : ℕ) (p : Pid) (b : B) (n : Next) (d e : ShardState) (now : Option (B × Next)) (births : List (Role B)) → SeesTo answers time p b n d Idle now e births
    → (now ≡ Some (b, n)) × (e ≡ d)
idle_stays answers time p b (Stop r) d e now births h = ends_idle (answers time) p b (Stop r) e now births d (b, Stop r) h.0 h.2
idle_stays answers time p b Proceed d e now births h = proceeds_idle (answers time) p b Proceed e now births (lives d p) d h
idle_stays answers time p b Running d e now births h = runs_idle (answers time) p b Running e now births (lives d p) d h
idle_stays answers time p b (Wait k) d e now births h = takes_idle (answers time) p b (Wait k) e now births false d h.1 k h.0 h.2 h.3
idle_stays answers time p b (WaitUntil k at) d e now births h = takes_idle (answers time) p b (WaitUntil k at) e now births (nat_le at time) d h.1 k h.0 h.2 h.3

-- one that was handed something is of the crew still
kept_by : {B : Type 0} (m : Member B) (items : List Item) → kept_as (handed_by items) m ≡ Some (role m)
kept_by m [] = refl
kept_by m (i ∷ items) = refl

pub kept_handed : {B : Type 0} (m : Member B) (next : Next) (f : Phase) → kept_as (handed_as next f) m ≡ Some (role m)
kept_handed m (Wait k) unborn = refl
kept_handed m (Wait k) (living s) = kept_by m s.waiting
kept_handed m (Wait k) (ended r s) = refl
kept_handed m (WaitUntil k at) f = refl
kept_handed m Proceed f = refl
kept_handed m Running unborn = refl
kept_handed m Running (living s) = refl
kept_handed m Running (ended r s) = refl
kept_handed m (Stop r) f = refl

-- one that sleeps then, or is refused ---------------------------------------------------------

sleeper_is : (t : Tended) (n : Next) (at : ℕ) → sleeper t n ≡ Some at → (t ≡ Idle) × (limit_of n ≡ Some at)
sleeper_is Idle n at is = (refl, is)
sleeper_is Again n at is = absurd (cc)
sleeper_is Done n at is = absurd (cc)
sleeper_is Refused n at is = absurd (cc)
sleeper_is Gone n at is = absurd (cc)

abbrev pub Slept : {B : Type 0} → Pid → Tended → Member B → TimersState Pid → Tended → Member B → TimersState Pid → Type 0
Slept p came m0 old t m new = SleepsUntil (sleeper came m0.next) p came m0 old t m new

module _ {B : Type 0} (p : Pid) (came : Tended) (m0 : Member B) (old : TimersState Pid) (t : Tended) (m : Member B) (new : TimersState Pid) where
  abbrev By : Option ℕ → Type 0
  By o = SleepsUntil o p came m0 old t m new

  -- whatever holds of what came, and of one that is idle, and of one that is refused
  by_sleep : (P : Tended → Member B → Type 0) → P came m0 → ((u : Timer) → came ≡ Idle → P Idle (record m0 { timer = Some u })) → (came ≡ Idle → P Refused m0) → (o : Option ℕ) → sleeper came m0.next ≡ o → By o → P t m
  by_sleep P stays sleeps refused None is h = subst (λ (x : Tended). P x m) (sym h.0) (subst (λ (x : Member B). P came x) (sym h.1) stays)
  by_sleep P stays sleeps refused (Some at) is (inl h) =
      subst (λ (x : Tended). P x m) (sym h.1) (subst (λ (x : Member B). P Idle x) (sym h.2) (sleeps h.0 (sleeper_is came m0.next at is).0))
  by_sleep P stays sleeps refused (Some at) is (inr h) =
      subst (λ (x : Tended). P x m) (sym h.0) (subst (λ (x : Member B). P Refused x) (sym h.1) (refused (sleeper_is came m0.next at is).0))

  module _ (slept : Slept p came m0 old t m new) where
    slept_as : (P : Tended → Member B → Type 0) → P came m0 → ((u : Timer) → came ≡ Idle → P Idle (record m0 { timer = Some u })) → (came ≡ Idle → P Refused m0) → P t m
    slept_as P stays sleeps refused = by_sleep P stays sleeps refused (sleeper came m0.next) refl slept

    slept_tends : (d : ShardState) → MemberTends p came m0 d → MemberTends p t m d
    slept_tends d tends = slept_as (λ x y. MemberTends p x y d) tends (λ u is. subst (λ (x : Tended). MemberTends p x m0 d) is tends) (λ is. tt)

    slept_bears : (before after : List (Role B)) → BearsChildren came before after → BearsChildren t before after
    slept_bears before after bears = slept_as (λ x y. BearsChildren x before after) bears (λ u is. subst (λ (x : Tended). BearsChildren x before after) is bears) (λ is. subst (λ (x : Tended). BearsChildren x before after) is bears)

    -- whether its mailbox was empty stays noted
    pub slept_clear : m.clear ≡ m0.clear
    slept_clear = slept_as (λ x y. y.clear ≡ m0.clear) refl (λ u is. refl) (λ is. refl)

    -- and one of whom the outside was told stays, and runs
    slept_runs : leaves_crew came ≡ false → runs m0.next ≡ true → (leaves_crew t ≡ false) × (runs m.next ≡ true)
    slept_runs stays on = slept_as (λ x y. (leaves_crew x ≡ false) × (runs y.next ≡ true)) (stays, on) (λ u is. (refl, on)) (λ is. (refl, on))

    slept_gone : (v : Member B) → (came ≡ Gone → role m0 ≡ role v) → t ≡ Gone → role m ≡ role v
    slept_gone v gone = slept_as (λ x y. x ≡ Gone → role y ≡ role v) gone (λ u is bad. absurd (cc)) (λ is bad. absurd (cc))

    slept_sees : (answers : Answers B) (time : ℕ) (b : B) (n : Next) (d e : ShardState) (births : List (Role B)) → SeesTo answers time p b n d came (kept_as came m0) e births
        → StaysAs Refused (b, n) d t (kept_as t m) e ⊎ SeesTo answers time p b n d t (kept_as t m) e births
    slept_sees answers time b n d e births sees =
        slept_as (λ x y. StaysAs Refused (b, n) d x (kept_as x y) e ⊎ SeesTo answers time p b n d x (kept_as x y) e births) (inr sees)
        (λ u is. inr (idle is))
        (λ is. let was = idle_stays answers time p b n d e (Some (role m0)) births (idle is) in inl (refl, was.0, was.1))
      where
        idle : came ≡ Idle → SeesTo answers time p b n d Idle (Some (role m0)) e births
        idle is = subst (λ (x : Tended). SeesTo answers time p b n d x (kept_as x m0) e births) is sees

-- the timers then
awake_then : (queued : Bool) (until : Option ℕ) → (queued ≡ false → until ≡ None) → cond queued None until ≡ None
awake_then true until h = refl
awake_then false until h = h refl

-- p, the first of the queue, had the entry v; what came of it when it was come to left it as m0; once it slept, it is w
pub record Came {B : Type 0} (p : Pid) (came t : Tended) (old mid new : Crew B) (v m0 m w : Member B) : Type 0 where
  pub place : ℕ
  pub key : Pid
  pub index : Some place ≡ index_of_by (same_pid p) old.members
  pub value : slice_get old.members.entries place ≡ Some (key, v)
  pub unique : IsUnique same_pid old.members
  pub wrote : mid.members ≡ with_value_at old.members place w
  pub same : role w ≡ role m
  pub timer : w.timer ≡ m.timer
  pub marked : w.queued ≡ goes_behind t
  pub slept : Slept p came m0 old.timers t m mid.timers
  pub its : m0.timer ≡ v.timer
  pub done : came ≡ Done → limit_of m0.next ≡ None
  pub gone : came ≡ Gone → role m0 ≡ role v
  pub left : left mid ≡ left old
  pub refused : mid.refused ≡ old.refused
  pub read : mid.read ≡ old.read
  pub time : mid.time ≡ old.time
  pub puts : PutsMember p t mid new

module _ {B : Type 0} (p : Pid) (came t : Tended) (old mid new : Crew B) (v m0 m w : Member B) (c : Came p came t old mid new v m0 m w) where
  pub held : members old p ≡ Some v
  held = held_at old.members p c.place c.key v c.index c.value c.unique

  entered : (q : Pid) → members mid q ≡ cond (same_pid p q) (Some w) (members old q)
  entered q = ap (λ (x : IndexMap _ _ _). get same_pid x q) c.wrote ∙ (written_at old.members p c.place c.key v c.index c.value c.unique w).0 q

  stands : (q : Pid) → members new q ≡ cond (same_pid p q) (entry_as t w) (members old q)
  stands q = c.puts.members q ∙ entry_is (leaves_crew t) (same_pid p q) (members mid q) (members old q) w (entered q)

  its_role : roles mid p ≡ Some (role m)
  its_role = ap (option_map role) (there (members old) (members mid) p (Some w) entered p (same_pid_refl p)) ∙ ap Some c.same

  pub serves_it : (answers : Answers B) (start rest : List Pid) (d e : ShardState) → start ≡ p ∷ rest → queue mid ≡ rest
      → SeesTo answers (time_of old) p v.behaviour v.next d came (kept_as came m0) e (bore (waiting old) (waiting mid)) → BearsChildren came (waiting old) (waiting mid) → Serves answers start old d new e
  serves_it answers start rest d e is then sees bears =
      serves_first answers start rest old new p v (entry_as t w) t d e is
      (c.puts.queue ∙ ap (λ (ps : List Pid). ps ++ again_as p t) then) held (c.puts.time ∙ c.time) stands
      (subst (λ (o : Option _). StaysAs Refused (role v) d t o e ⊎ SeesTo answers (time_of old) p v.behaviour v.next d t o e (bore (waiting old) (waiting new))) (kept_is t m w c.same)
      (subst (λ (ws : List (Role B)). StaysAs Refused (role v) d t (kept_as t m) e ⊎ SeesTo answers (time_of old) p v.behaviour v.next d t (kept_as t m) e (bore (waiting old) ws)) (sym c.puts.waiting)
      (slept_sees p came m0 old.timers t m mid.timers c.slept answers (time_of old) v.behaviour v.next d e (bore (waiting old) (waiting mid)) sees)))
      (subst (λ (ws : List (Role B)). BearsChildren t (waiting old) ws) (sym c.puts.waiting) (slept_bears p came m0 old.timers t m mid.timers c.slept (waiting old) (waiting mid) bears))
      (c.puts.left ∙ ap (λ (rs : List (Role B)). rs ++ left_as p (roles mid p) t) c.left ∙ ap (λ (o : Option _). left old ++ left_as p o t) its_role
      ∙ ap (λ (rs : List (Role B)). left old ++ rs) (leaver_is p t m v (slept_gone p came m0 old.timers t m mid.timers c.slept v c.gone)))
      (c.puts.refused ∙ ap (λ (b : Bool). b || is_refused t) c.refused)

  -- it was not running, and is running now
  runs_it : (rest : List Pid) → runs v.next ≡ false → runs m0.next ≡ true → leaves_crew came ≡ false → BeginsToRun (p ∷ rest) (roles old) (roles new)
  runs_it rest not_yet on stays =
      let s = slept_runs p came m0 old.timers t m mid.timers c.slept stays on in
      let here : roles new p ≡ Some (role w) =
      ap (option_map role) (there (members old) (members new) p (entry_as t w) stands p (same_pid_refl p) ∙ ap (λ (b : Bool). cond b None (Some w)) s.0) in
      (ap is_running (ap (option_map role) held) ∙ not_yet, ap is_running here ∙ ap (λ (r : B × Next). runs r.1) c.same ∙ s.1)

  pub begins_it : {T : Type 0} (told : Option T) (start rest : List Pid) → start ≡ p ∷ rest → IfSome told (λ x. (runs v.next ≡ false) × (runs m0.next ≡ true) × (leaves_crew came ≡ false))
      → IfSome told (λ x. BeginsToRun start (roles old) (roles new))
  begins_it None start rest is h = tt
  begins_it (Some x) start rest is h = subst (λ (ps : List Pid). BeginsToRun ps (roles old) (roles new)) (sym is) (runs_it rest h.0 h.1 h.2)

  -- what it was to do, as the one in front
  pub front_next : (start rest : List Pid) → start ≡ p ∷ rest → next_in_front start (roles old) ≡ Some v.next
  front_next start rest is = ap (λ (ps : List Pid). next_in_front ps (roles old)) is ∙ ap (λ (o : Option (Member B)). option_map (λ (r : B × Next). r.1) (option_map role o)) held

  pub knows_it : (rest : List Pid) (d e : ShardState) → Extends d e → queue old ≡ p ∷ rest → queue mid ≡ rest → MemberTends p came m0 e → (w.clear ≡ true → need_not_wait Any (phase_of e p) ≡ false) → KnowsDesk old d → KnowsDesk new e
  knows_it rest d e later is then tends quiet k0 =
      let k : Knows (members old) (p ∷ rest) old.read d = subst (λ (ps : List Pid). Knows (members old) ps old.read d) is k0 in
      subst (λ (n : ℕ). Knows (members new) (queue new) n e) (sym (c.puts.read ∙ c.read))
      (changed (members old) (members new) p (entry_as t w) (p ∷ rest) (queue new) old.read d e later stands
      (moved p t (members old) (members new) w rest (queue new) c.marked stands (c.puts.queue ∙ ap (λ (ps : List Pid). ps ++ again_as p t) then))
      (λ x x_is. born_later d e later p (k.born p v held))
      (still_awake p t m w e c.marked c.same quiet (slept_tends p came m0 old.timers t m mid.timers c.slept e tends)) k)

  its_none : (rest : List Pid) (d : ShardState) → queue old ≡ p ∷ rest → KnowsDesk old d → HasTimers old → timer_of (members old p) ≡ None
  its_none rest d is k timers =
      let was = k.queued.marked p (ap (in_queue p) is ∙ first_in p rest) in
      let on : v.queued ≡ true = ap (λ (x : Member B). x.queued) (same_some v was.0 (sym held ∙ was.1)) ∙ was.2 in
      queued_bare (members old) p v old.timers held on timers

  pub timers_for_it : (rest : List Pid) (d : ShardState) → queue old ≡ p ∷ rest → KnowsDesk old d → HasTimers old → HasTimers new
  timers_for_it rest d is k timers = subst (λ (x : TimersState Pid). AreTimed (members new) x) (sym c.puts.timers) (go (sleeper came m0.next) refl c.slept)
    where
      none_held : timer_of (members old p) ≡ None
      none_held = its_none rest d is k timers

      -- it goes behind the queue, or waits without an end, or leaves
      quiet : m ≡ m0 → mid.timers ≡ old.timers → (w.queued ≡ false → leaves_crew t ≡ false → limit_of m0.next ≡ None) → AreTimed (members new) mid.timers
      quiet m_is same off = untimed (members old) (members new) p old.timers mid.timers (entry_as t w) stands (stops_none (timer_of (members old p)) old.timers mid.timers none_held same)
          (bare (leaves_crew t)) (λ x x_is. awake (leaves_crew t) refl x x_is) timers
        where
          none_now : w.timer ≡ None
          none_now = c.timer ∙ ap (λ (x : Member B). x.timer) m_is ∙ c.its ∙ sym (ap timer_of held) ∙ none_held

          bare : (b : Bool) → timer_of (cond b None (Some w)) ≡ None
          bare true = refl
          bare false = none_now

          next_is : w.next ≡ m0.next
          next_is = ap (λ (r : B × Next). r.1) c.same ∙ ap (λ (x : Member B). x.next) m_is

          awake : (b : Bool) → leaves_crew t ≡ b → (x : Member B) → cond b None (Some w) ≡ Some x → sleeps_until x ≡ None
          awake true gone x x_is = some_none None x refl x_is
          awake false gone x x_is = subst (λ (y : Member B). sleeps_until y ≡ None) (same_some w x x_is)
              (awake_then w.queued (limit_of w.next) (λ is_off. ap limit_of next_is ∙ off is_off gone))

      off_none : (s : Tended) → sleeper s m0.next ≡ None → (s ≡ Done → limit_of m0.next ≡ None) → goes_behind s ≡ false → leaves_crew s ≡ false → limit_of m0.next ≡ None
      off_none Idle none done off stays = none
      off_none Again none done off stays = absurd (cc)
      off_none Done none done off stays = done refl
      off_none Refused none done off stays = absurd (cc)
      off_none Gone none done off stays = absurd (cc)

      go : (o : Option ℕ) → sleeper came m0.next ≡ o → SleepsUntil o p came m0 old.timers t m mid.timers → AreTimed (members new) mid.timers
      go None o_is h = quiet h.1 h.2 (λ off stays.
          off_none came o_is c.done (ap goes_behind (sym h.0) ∙ sym c.marked ∙ off) (ap leaves_crew (sym h.0) ∙ stays))
      go (Some at) o_is (inl h) =
          timed_anew (members old) (members new) p old.timers mid.timers w h.0 at idle_stands none_held (c.timer ∙ ap (λ (x : Member B). x.timer) h.2) w_sleeps h.3 timers
        where
          idle_stands : (q : Pid) → members new q ≡ cond (same_pid p q) (Some w) (members old q)
          idle_stands q = stands q ∙ ap (λ (x : Tended). cond (same_pid p q) (entry_as x w) (members old q)) h.1

          next_is : w.next ≡ m0.next
          next_is = ap (λ (r : B × Next). r.1) (c.same ∙ ap role h.2)

          w_sleeps : sleeps_until w ≡ Some at
          w_sleeps = ap (λ (b : Bool). cond b None (limit_of w.next)) (c.marked ∙ ap goes_behind h.1) ∙ ap limit_of next_is ∙ (sleeper_is came m0.next at o_is).1
      go (Some at) o_is (inr h) = quiet h.1 h.2 (λ off stays. absurd (let on : w.queued ≡ true = c.marked ∙ ap goes_behind h.0 in let bad : false ≡ true = sym off ∙ on in cc))

  pub room_for_it : deque_len mid.queue + 1 ≡ deque_len old.queue → deque_capacity mid.queue ≡ deque_capacity old.queue → HasRoom old → HasRoom new
  room_for_it len cap room =
      let s = unmarked_set old.members.entries c.place c.key v w c.value in
      let e = ap (λ (x : IndexMap _ _ _). unmarked x.entries) c.wrote in
      let one = one_of p t w c.marked in
      let r0 = c.puts.room.0 in
      let r1 = c.puts.room.1 in
      let r2 = c.puts.room.2 in
      omega (arith, s, e, one, r0, r1, r2, len, cap, room)
