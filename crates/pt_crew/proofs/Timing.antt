-- The timers of a crew's members.
use Rattle.std.proofs.Common.{◌≡◌, ℕ, ◌+◌, Bool, true, false, cond, List, length, Option, Some, None, IsSome, refl, sym, ap, subst, ◌∙◌, arith}
use Rattle.std.specs.Option.{option_map}
use Rattle.pt_signal.specs.declared.pid.Pid.{Pid}
use Rattle.pt_signal.specs.Values.{same_pid}
use Rattle.pt_signal.proofs.Same.{same_pid_refl, same_pid_is}
use Rattle.pt_shard.specs.ShardState.{ShardState}
use Rattle.pt_timers.specs.declared.Timer.{Timer}
use Rattle.pt_timers.specs.Order.{same_timer}
use Rattle.pt_timers.specs.State.{TimersState, IsPending, body_of}
use Rattle.pt_timers.specs.Calls.{Started, IsNone, IsNext, NoneDue, Cancels}
use Rattle.pt_timers.proofs.Lawful.{same-is}
use Rattle.pt_behaviour.specs.declared.behaviour.Next.{Next}
use Rattle.pt_crew.specs.declared.crew.Member.{Member}
use Rattle.pt_crew.specs.declared.crew.Crew.{Crew}
use Rattle.pt_behaviour.specs.Behaving.{limit_of}
use Rattle.pt_crew.specs.Waking.{Members, AreTimed, AreRung, in_queue, timer_of, sleeps_until}
use Rattle.pt_crew.specs.Visiting.{AreSame}
use Rattle.pt_crew.specs.Crews.{Attends, HasTimers, IsNextTime, IsSame, KnowsDesk, WaitsUntil, members, queue, role, roles}
use Rattle.pt_crew.specs.Parts.{Stops}
use Rattle.pt_behaviour.proofs.Cases.{by_cases, same_some, some_none}
use Rattle.pt_crew.proofs.Waking.{elsewhere, there, not_in}

same_timer_refl : (t : Timer) → same_timer t t ≡ true
same_timer_refl t = grind arith

-- what is not so is not
apart_from : (b : Bool) → b ≡ false → b ≡ true → ⊥
apart_from b h e = let bad : false ≡ true = sym h ∙ e in cc

-- a timer that is stopped, or none --------------------------------------------------------

module _ (old new : TimersState Pid) (u : Timer) (q : Pid) where
  stop_keeps : (s : Option Timer) → Stops s old new → body_of old u ≡ Some q → (s ≡ Some u → ⊥) → body_of new u ≡ Some q
  stop_keeps None stops is apart = ap (λ (x : TimersState Pid). body_of x u) stops ∙ is
  stop_keeps (Some t) stops is apart = by_cases (same_timer t u)
      (λ same. absurd (apart (ap Some (same-is t u same))))
      (λ other. stops.0 u ∙ ap (λ b. cond b None (body_of old u)) other ∙ is)

  stop_was : (s : Option Timer) → Stops s old new → body_of new u ≡ Some q → body_of old u ≡ Some q
  stop_was None stops is = ap (λ (x : TimersState Pid). body_of x u) (sym stops) ∙ is
  stop_was (Some t) stops is = by_cases (same_timer t u)
      (λ same. some_none (body_of new u) q (stops.0 u ∙ ap (λ b. cond b None (body_of old u)) same) is)
      (λ other. sym (ap (λ b. cond b None (body_of old u)) other) ∙ sym (stops.0 u) ∙ is)

  stop_apart : (s : Option Timer) → Stops s old new → body_of new u ≡ Some q → s ≡ Some u → ⊥
  stop_apart None stops is same = absurd (cc)
  stop_apart (Some t) stops is same =
      let it : t ≡ u = same_some t u same in
      let yes : same_timer t u ≡ true = ap (same_timer t) (sym it) ∙ same_timer_refl t in
      some_none (body_of new u) q (stops.0 u ∙ ap (λ b. cond b None (body_of old u)) yes) is

-- what a call of `cancel` did
pub stopped : (t : Timer) (old new : TimersState Pid) (was : Bool) → Cancels t old was new → Stops (Some t) old new
stopped t old new true h = (h.pending, λ is. h.fewer)
stopped t old new false h = (
  λ u. by_cases (same_timer t u)
      (λ same. ap (λ (x : TimersState Pid). body_of x u) h.1 ∙ ap (body_of old) (sym (same-is t u same)) ∙ h.0 ∙ sym (ap (λ b. cond b None (body_of old u)) same))
      (λ other. ap (λ (x : TimersState Pid). body_of x u) h.1 ∙ sym (ap (λ b. cond b None (body_of old u)) other)),
  λ is. absurd (let none = h.0 in cc),
)

same_p : (p q : Pid) → Some p ≡ Some q → same_pid p q ≡ true
same_p p q is = ap (same_pid p) (sym (same_some p q is)) ∙ same_pid_refl p

pub is_pending : (s : TimersState Pid) (t : Timer) (p : Pid) → body_of s t ≡ Some p → IsPending s t
is_pending s t p is = subst (λ (o : Option Pid). IsSome o) (sym is) refl

-- one member is changed --------------------------------------------------------------------

module _ {B : Type 0} (mem new : Members B) (p : Pid) (timers later : TimersState Pid) where
  -- it has no timer then
  pub untimed : (w : Option (Member B)) → ((q : Pid) → new q ≡ cond (same_pid p q) w (mem q)) → Stops (timer_of (mem p)) timers later → timer_of w ≡ None
      → ((m : Member B) → w ≡ Some m → sleeps_until m ≡ None) → AreTimed mem timers → AreTimed new later
  untimed w at stops bare awake k = record {
    own = λ q t is. by_cases (same_pid p q)
        (λ same. some_none (timer_of (new q)) t (ap timer_of (there mem new p w at q same) ∙ bare) is)
        (λ other.
        let was : timer_of (mem q) ≡ Some t = sym (ap timer_of (elsewhere mem new p w at q other)) ∙ is in
        let body = k.own q t was in
        stop_keeps timers later t q (timer_of (mem p)) stops body
        (λ its. apart_from (same_pid p q) other (same_p p q (sym (k.own p t its) ∙ body))));
    owned = λ q t is.
        let was = k.owned q t (stop_was timers later t q (timer_of (mem p)) stops is) in
        by_cases (same_pid p q)
        (λ same. absurd (stop_apart timers later t q (timer_of (mem p)) stops is (ap (λ (x : Pid). timer_of (mem x)) (same_pid_is p q same) ∙ was)))
        (λ other. ap timer_of (elsewhere mem new p w at q other) ∙ was);
    timed = λ q m is. by_cases (same_pid p q)
        (λ same.
        let it : w ≡ Some m = sym (there mem new p w at q same) ∙ is in
        ap (option_map (λ (t : Timer). t.at)) (sym (ap timer_of it) ∙ bare) ∙ sym (awake m it))
        (λ other. k.timed q m (sym (elsewhere mem new p w at q other) ∙ is));
  }

  -- it has a new one
  pub timed_anew : (w : Member B) (t : Timer) (until : ℕ) → ((q : Pid) → new q ≡ cond (same_pid p q) (Some w) (mem q)) → timer_of (mem p) ≡ None → w.timer ≡ Some t → sleeps_until w ≡ Some until
      → Started until p timers t later → AreTimed mem timers → AreTimed new later
  timed_anew w t until at bare has sleeps started k = record {
    own = λ q u is. by_cases (same_pid p q)
        (λ same.
        let it : Some t ≡ Some u = sym has ∙ sym (ap timer_of (there mem new p (Some w) at q same)) ∙ is in
        let yes : same_timer t u ≡ true = ap (same_timer t) (sym (same_some t u it)) ∙ same_timer_refl t in
        started.pending u ∙ ap (λ b. cond b (Some p) (body_of timers u)) yes ∙ ap Some (same_pid_is p q same))
        (λ other.
        let body = k.own q u (sym (ap timer_of (elsewhere mem new p (Some w) at q other)) ∙ is) in
        started.pending u ∙ ap (λ b. cond b (Some p) (body_of timers u)) (is_other u q body) ∙ body);
    owned = λ q u is. by_cases (same_timer t u)
        (λ same.
        let its : Some p ≡ Some q = sym (started.pending u ∙ ap (λ b. cond b (Some p) (body_of timers u)) same) ∙ is in
        ap timer_of (there mem new p (Some w) at q (same_p p q its)) ∙ has ∙ ap Some (same-is t u same))
        (λ other.
        let was = k.owned q u (sym (started.pending u ∙ ap (λ b. cond b (Some p) (body_of timers u)) other) ∙ is) in
        by_cases (same_pid p q)
        (λ same. some_none (timer_of (mem q)) u (ap (λ (x : Pid). timer_of (mem x)) (sym (same_pid_is p q same)) ∙ bare) was)
        (λ apart. ap timer_of (elsewhere mem new p (Some w) at q apart) ∙ was));
    timed = λ q m is. by_cases (same_pid p q)
        (λ same.
        let it : w ≡ m = same_some w m (sym (there mem new p (Some w) at q same) ∙ is) in
        subst (λ (x : Member B). option_map (λ (u : Timer). u.at) x.timer ≡ sleeps_until x) it
        (ap (option_map (λ (u : Timer). u.at)) has ∙ ap (λ (u : Timer). Some u.at) started.timer ∙ sym sleeps))
        (λ other. k.timed q m (sym (elsewhere mem new p (Some w) at q other) ∙ is));
  }
    where
      is_other : (u : Timer) (q : Pid) → body_of timers u ≡ Some q → same_timer t u ≡ false
      is_other u q body = by_cases (same_timer t u)
          (λ same. some_none (body_of timers u) q (ap (body_of timers) (sym (same-is t u same)) ∙ started.is_new) body)
          (λ other. other)

pub stops_none : (s : Option Timer) (old new : TimersState Pid) → s ≡ None → new ≡ old → Stops s old new
stops_none s old new none same = subst (λ (o : Option Timer). Stops o old new) (sym none) same

-- one that is woken, or enters, has none
pub stopped_timers : {B : Type 0} (mem new : Members B) (p : Pid) (w : Member B) (timers later : TimersState Pid) → ((q : Pid) → new q ≡ cond (same_pid p q) (Some w) (mem q))
    → Stops (timer_of (mem p)) timers later → w.timer ≡ None → w.queued ≡ true → AreTimed mem timers → AreTimed new later
stopped_timers {B} mem new p w timers later at stops bare on = untimed mem new p timers later (Some w) at stops bare
    (λ m is. subst (λ (x : Member B). sleeps_until x ≡ None) (same_some w m is) (ap (λ b. cond b None (limit_of w.next)) on))

pub stopped_fewer : {B : Type 0} (mem : Members B) (p : Pid) (timers later : TimersState Pid) → Stops (timer_of (mem p)) timers later → AreTimed mem timers
    → (t : Timer) → timer_of (mem p) ≡ Some t → length later.pending + 1 ≡ length timers.pending
stopped_fewer mem p timers later stops k t is = (subst (λ (o : Option Timer). Stops o timers later) is stops).1 (is_pending timers t p (k.own p t is))

-- the timer of a member that is held
pub stops_held : {B : Type 0} (mem : Members B) (p : Pid) (v : Member B) (timers later : TimersState Pid) → mem p ≡ Some v → Stops v.timer timers later → Stops (timer_of (mem p)) timers later
stops_held mem p v timers later held stops = subst (λ (o : Option Timer). Stops o timers later) (sym (ap timer_of held)) stops

no_timer : (o : Option Timer) → option_map (λ (u : Timer). u.at) o ≡ None → o ≡ None
no_timer None is = refl
no_timer (Some u) is = absurd (cc)

-- one of the queue has no timer
pub queued_bare : {B : Type 0} (mem : Members B) (p : Pid) (v : Member B) (timers : TimersState Pid) → mem p ≡ Some v → v.queued ≡ true → AreTimed mem timers → timer_of (mem p) ≡ None
queued_bare mem p v timers held on k = ap timer_of held ∙ no_timer v.timer (k.timed p v held ∙ ap (λ b. cond b None (limit_of v.next)) on)

-- one that is not held is none
pub none_if : {X : Type 0} (o : Option X) → ((x : X) → o ≡ Some x → ⊥) → o ≡ None
none_if None h = refl
none_if (Some x) h = absurd (h x refl)

-- the same members and the same timers
pub timed_same : {B : Type 0} (mem new : Members B) (timers later : TimersState Pid) → ((q : Pid) → new q ≡ mem q) → later ≡ timers → AreTimed mem timers → AreTimed new later
timed_same mem new timers later same is k = subst (λ (x : TimersState Pid). AreTimed new x) (sym is) (record {
  own = λ q t has. k.own q t (sym (ap timer_of (same q)) ∙ has);
  owned = λ q t body. ap timer_of (same q) ∙ k.owned q t body;
  timed = λ q m here. k.timed q m (sym (same q) ∙ here);
})

pub timers_is : {B : Type 0} (old new : Crew B) → IsSame old new → HasTimers old → HasTimers new
timers_is old new same k = timed_same (members old) (members new) old.timers new.timers same.members same.timers k

-- of a crew of nobody
pub nobody_timed : {B : Type 0} (mem : Members B) (timers : TimersState Pid) → ((p : Pid) → mem p ≡ None) → IsNone timers → AreTimed mem timers
nobody_timed mem timers none bare = record {
  own = λ p t is. some_none (timer_of (mem p)) t (ap timer_of (none p)) is;
  owned = λ p t is. some_none (body_of timers t) p (bare.pending t) is;
  timed = λ p m is. some_none (mem p) m (none p) is;
}

-- the time of a timer ------------------------------------------------------------------------

-- who sleeps, and until when
sleeps : (queued : Bool) (until : Option ℕ) (n : ℕ) → Some n ≡ cond queued None until → (queued ≡ false) × (until ≡ Some n)
sleeps true until n is = absurd (cc)
sleeps false until n is = (refl, sym is)

timer_at : (o : Option Timer) (n : ℕ) → option_map (λ (t : Timer). t.at) o ≡ Some n → (t : Timer) × (o ≡ Some t) × (t.at ≡ n)
timer_at None n is = absurd (cc)
timer_at (Some t) n is = (t, refl, same_some t.at n is)

with_timer : {B : Type 0} (o : Option (Member B)) (t : Timer) → timer_of o ≡ Some t → (m : Member B) × (o ≡ Some m) × (m.timer ≡ Some t)
with_timer None t is = absurd (cc)
with_timer (Some m) t is = (m, refl, is)

with_role : {B : Type 0} (o : Option (Member B)) (r : B × Next) → option_map role o ≡ Some r → (m : Member B) × (o ≡ Some m) × (role m ≡ r)
with_role None r is = absurd (cc)
with_role (Some m) r is = (m, refl, same_some (role m) r is)

some_body : (o : Option Pid) → IsSome o → (p : Pid) × (o ≡ Some p)
some_body None is = absurd (cc)
some_body (Some p) is = (p, refl)

module _ {B : Type 0} (c : Crew B) (k : HasTimers c) where
  -- one that is not in the queue and waits until a time has a timer of that time
  its_timer : (p : Pid) (m : Member B) (n : ℕ) → members c p ≡ Some m → m.queued ≡ false → limit_of m.next ≡ Some n → (t : Timer) × (body_of c.timers t ≡ Some p) × (t.at ≡ n)
  its_timer p m n is off until =
      let t = timer_at m.timer n (k.timed p m is ∙ ap (λ b. cond b None (limit_of m.next)) off ∙ until) in
      (t.0, k.own p t.0 (ap timer_of is ∙ t.1), t.2)

  -- so once no timer is due, whoever waits until a time that has come stands in the queue
  pub all_rung : (d : ShardState) (time : ℕ) → KnowsDesk c d → NoneDue time c.timers → AreRung time (members c) (queue c)
  all_rung d time knows none p m n is until come = by_cases m.queued
      (λ on. knows.queued.listed p m is on)
      (λ off.
      let t = its_timer p m n is off until in
      let later = none t.0 (is_pending c.timers t.0 p t.1) in
      absurd (let at = t.2 in omega (arith, later, at, come)))

module _ {B : Type 0} (c : Crew B) (d : ShardState) (a : Attends c d) where
  off_queue : (p : Pid) (m : Member B) → members c p ≡ Some m → in_queue p (queue c) ≡ false → m.queued ≡ false
  off_queue p m is apart = by_cases m.queued (λ on. absurd (apart_from (in_queue p (queue c)) apart (a.knows.queued.listed p m is on))) (λ off. off)

  waits_timer : (p : Pid) (n : ℕ) → WaitsUntil c p n → (t : Timer) × (body_of c.timers t ≡ Some p) × (t.at ≡ n)
  waits_timer p n w =
      let m = with_role (members c p) (w.behaviour, w.next) w.role in
      its_timer c a.timers p m.0 n m.1 (off_queue p m.0 m.1 w.apart) (ap (λ (r : B × Next). limit_of r.1) m.2 ∙ w.until)

  -- a timer is of one that waits
  timer_waits : (t : Timer) → IsPending c.timers t → (p : Pid) × WaitsUntil c p t.at
  timer_waits t pending =
      let p = some_body (body_of c.timers t) pending in
      let m = with_timer (members c p.0) t (a.timers.owned p.0 t p.1) in
      let s = sleeps m.0.queued (limit_of m.0.next) t.at (sym (ap (option_map (λ (u : Timer). u.at)) m.2) ∙ a.timers.timed p.0 m.0 m.1) in (
        p.0,
        record {
          behaviour = m.0.behaviour;
          next = m.0.next;
          role = ap (option_map role) m.1;
          until = s.1;
          apart = not_in (members c) p.0 (queue c) (λ x is. ap (λ (y : Member B). y.queued) (sym (same_some m.0 x (sym m.1 ∙ is))) ∙ s.0) a.knows.queued;
        },
      )

  -- the earliest timer is of the one that waits until the earliest time
  pub next_is : (r : Option ℕ) → IsNext c.timers r → IsNextTime c r
  next_is None none = λ p n w. let t = waits_timer p n w in some_none (body_of c.timers t.0) p (none t.0) t.1
  next_is (Some n) next = (
    let t = next.0 in let w = timer_waits t.0 t.1 in (w.0, subst (λ x. WaitsUntil c w.0 x) t.2 w.1),
    λ p x w. let t = waits_timer p x w in let least = next.1 t.0 (is_pending c.timers t.0 p t.1) in let at = t.2 in omega (arith, least, at),
  )

-- members with the same roles wait until the same times
same_wait : {B : Type 0} (was now : Option (Member B)) (m : Member B) → was ≡ Some m → option_map role now ≡ option_map role was → (v : Member B) × (now ≡ Some v) × (v.next ≡ m.next)
same_wait was None m is same = absurd (let e : None ≡ Some (role m) = same ∙ ap (option_map role) is in cc)
same_wait was (Some v) m is same =
    let e : Some (role v) ≡ Some (role m) = same ∙ ap (option_map role) is in
    (v, refl, ap (λ (r : _). r.1) (same_some (role v) (role m) e))

pub rung_as : {B : Type 0} (old now : Crew B) (time : ℕ) (stands : List Pid) → AreSame (roles old) (roles now) → AreRung time (members now) stands → AreRung time (members old) stands
rung_as old now time stands same rung p m n is until come =
    let v = same_wait (members old p) (members now p) m is (same p) in
    rung p v.0 n v.1 (ap limit_of v.2 ∙ until) come
