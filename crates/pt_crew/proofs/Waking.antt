-- What a crew knows stays so.
use Rattle.std.proofs.Common.{◌≡◌, ℕ, ◌+◌, Bool, true, false, cond, ◌&&◌, ◌||◌, List, [], ◌∷◌, ◌++◌, length, Option, Some, None, refl, sym, ap, subst, ◌∙◌, append_assoc, append-nil}
use Rattle.std.proofs.lemmas.Bool.{and_parts}
use Rattle.std.proofs.lemmas.List.Folds.{list_any-append}
use Rattle.std.proofs.lemmas.Map.Keys.{IsDistinct-head, IsDistinct-tail, IsDistinct-push}
use Rattle.std.specs.Prelude.{is_some}
use Rattle.std.specs.List.{AllByRecursion, IsDistinct}
use Rattle.pt_signal.specs.declared.pid.Pid.{Pid}
use Rattle.pt_signal.specs.declared.item.Pick.TheVariants.{Any}
use Rattle.pt_signal.specs.Values.{same_pid}
use Rattle.pt_events.specs.declared.event.Stamped.{Stamped}
use Rattle.pt_events.specs.History.{is_unborn}
use Rattle.pt_shard.specs.ShardState.{ShardState, phase_of}
use Rattle.pt_shard.specs.Extends.{Extends}
use Rattle.pt_desk.proofs.Turning.{extends}
use Rattle.pt_behaviour.specs.declared.behaviour.Next.{Next}
use Rattle.pt_behaviour.specs.declared.behaviour.Next.TheVariants.{Wait, WaitUntil, Proceed, Running, Stop}
use Rattle.pt_crew.specs.declared.crew.Member.{Member}
use Rattle.pt_crew.specs.Waking.{Members, IsQueue, Knows, has_task, has_work, in_queue, timer_of}
use Rattle.pt_crew.specs.declared.crew.Crew.{Crew}
use Rattle.pt_timers.specs.declared.Timer.{Timer}
use Rattle.pt_crew.specs.Crews.{members, role, queue, HasTimers, IsSame, KeepsRest, KnowsDesk}
use Rattle.pt_crew.specs.Parts.{QueueHolds, Wakes, is_marked}
use Rattle.pt_crew.specs.Stepping.{QueueIsLonger}
use Rattle.std.specs.Option.{option_map}
use Rattle.pt_signal.proofs.Same.{same_pid_refl, same_pid_is}
use Rattle.pt_workers.specs.Waking.{came_in, came_to, need_not_wait}
use Rattle.pt_workers.proofs.Waiting.{born_later, need_not_before, neither}
use Rattle.pt_behaviour.proofs.Cases.{by_cases, same_some, some_none}
use Rattle.pt_crew.proofs.Places.{same_pid_sym, same_pid_laws}
use Rattle.pt_crew.proofs.EndedBefore.{ended_before}

-- nothing came to p since the desk was so: what it has to do now it had to do then
worked_before : (old new : ShardState) (e : Extends old new) (n : Next) (p : Pid) → came_in p e.more ≡ false → has_work n (phase_of new p) ≡ true → has_work n (phase_of old p) ≡ true
worked_before old new e (Wait k) p none w = need_not_before old new e k p none w
worked_before old new e (WaitUntil k at) p none w = need_not_before old new e k p none w
worked_before old new e Proceed p none w = refl
worked_before old new e Running p none w = ended_before old new e p none w
worked_before old new e (Stop r) p none w = refl

either : (a b : Bool) → (a || b) ≡ true → a ≡ false → b ≡ true
either true b h e = absurd (cc)
either false b h e = h

or_left : (a b : Bool) → a ≡ true → (a || b) ≡ true
or_left true b h = refl
or_left false b h = absurd (cc)

pub or_right : (a b : Bool) → b ≡ true → (a || b) ≡ true
or_right true b h = refl
or_right false b h = h

tasked_before : {B : Type 0} (old new : ShardState) (e : Extends old new) (m : Member B) (p : Pid) → came_in p e.more ≡ false → has_task m (phase_of new p) ≡ true → has_task m (phase_of old p) ≡ true
tasked_before {B} old new e m p none w = go (m.clear && need_not_wait Any (phase_of new p)) refl
  where
    go : (b : Bool) → (m.clear && need_not_wait Any (phase_of new p)) ≡ b → has_task m (phase_of old p) ≡ true
    go true is =
        let both = and_parts m.clear (need_not_wait Any (phase_of new p)) is in
        let before : need_not_wait Any (phase_of old p) ≡ true = worked_before old new e (Wait Any) p none both.1 in
        or_left (m.clear && need_not_wait Any (phase_of old p)) (has_work m.next (phase_of old p)) (λ j. both.0 j && before j)
    go false is =
        or_right (m.clear && need_not_wait Any (phase_of old p)) (has_work m.next (phase_of old p))
        (worked_before old new e m.next p none (either (m.clear && need_not_wait Any (phase_of new p)) (has_work m.next (phase_of new p)) w is))

-- one that has nothing to do, and had an empty mailbox if it is so marked
pub no_task : (clear wakes works : Bool) → (clear ≡ true → wakes ≡ false) → works ≡ false → ((clear && wakes) || works) ≡ false
no_task true wakes works quiet idle = (λ j. quiet refl j || idle j)
no_task false wakes works quiet idle = idle

-- the desk goes on: what is not read grows
pub knows_later : {B : Type 0} (members : Members B) (queue : List Pid) (read : ℕ) (old new : ShardState) → Extends old new → Knows members queue read old → Knows members queue read new
knows_later members queue read old new e k = record {
  more = e.more ++ k.more;
  seen = k.seen;
  journal = e.journal ∙ ap (λ j. e.more ++ j) k.journal ∙ sym (append_assoc e.more k.more k.seen);
  counted = k.counted;
  queued = k.queued;
  born = λ p m is. born_later old new e p (k.born p m is);
  awake = λ p m is w none.
      let none2 = neither (came_in p e.more) (came_in p k.more) (sym (list_any-append (λ (s : Stamped). came_to p s.event) e.more k.more) ∙ none) in
      k.awake p m is (tasked_before old new e m p none2.0 w) none2.1;
}

-- of a crew of nobody
pub nobody : {B : Type 0} (members : Members B) (queue : List Pid) (d : ShardState) → queue ≡ [] → ((p : Pid) → members p ≡ None) → Knows members queue 0 d
unfolding IsDistinct
nobody {B} members queue d bare none = record {
  more = d.journal;
  seen = [];
  journal = sym (append-nil d.journal);
  counted = refl;
  queued = subst (λ (ps : List Pid). IsQueue members ps) (sym bare) empty;
  born = λ p m is. some_none (members p) m (none p) is;
  awake = λ p m is w quiet. some_none (members p) m (none p) is;
}
  where
    empty : IsQueue members []
    empty = record { listed = λ p m is marked. some_none (members p) m (none p) is; marked = λ p in_it. absurd (cc); once = tt }

-- what a write at p makes of another
module _ {X : Type 0} (mem new : Pid → Option X) (p : Pid) (w : Option X) (at : (q : Pid) → new q ≡ cond (same_pid p q) w (mem q)) where
  pub elsewhere : (q : Pid) → same_pid p q ≡ false → new q ≡ mem q
  elsewhere q e = at q ∙ ap (λ b. cond b w (mem q)) e

  pub there : (q : Pid) → same_pid p q ≡ true → new q ≡ w
  there q e = at q ∙ ap (λ b. cond b w (mem q)) e

-- whoever is pushed stands in the queue, as whoever stood there
pub pushed : (p : Pid) (ps : List Pid) → in_queue p (ps ++ p ∷ []) ≡ true
pushed p ps = list_any-append (same_pid p) ps (p ∷ []) ∙ or_right (in_queue p ps) (in_queue p (p ∷ [])) (or_left (same_pid p p) false (same_pid_refl p))

pub first_in : (p : Pid) (ps : List Pid) → in_queue p (p ∷ ps) ≡ true
first_in p ps = or_left (same_pid p p) (in_queue p ps) (same_pid_refl p)

pub kept_in : (q p : Pid) (ps : List Pid) → in_queue q ps ≡ true → in_queue q (ps ++ p ∷ []) ≡ true
kept_in q p ps h = list_any-append (same_pid q) ps (p ∷ []) ∙ or_left (in_queue q ps) (in_queue q (p ∷ [])) h

-- whoever stands in the longer queue, and is not the one that was pushed
was_in : (q p : Pid) (ps : List Pid) → same_pid q p ≡ false → in_queue q (ps ++ p ∷ []) ≡ true → in_queue q ps ≡ true
was_in q p ps other h = go (in_queue q ps) refl
  where
    go : (b : Bool) → in_queue q ps ≡ b → in_queue q ps ≡ true
    go true e = e
    go false e = absurd (let k = sym (list_any-append (same_pid q) ps (p ∷ [])) ∙ h in let j : (in_queue q ps || (same_pid q p || false)) ≡ true = k in let i : (false || (false || false)) ≡ true = sym (λ n. e n || (other n || false)) ∙ j in cc)

-- nobody of them is p
none_of : (p : Pid) (ps : List Pid) → AllByRecursion (λ y. same_pid p y ≡ false) ps → in_queue p ps ≡ false
none_of p [] h = refl
none_of p (q ∷ ps) h = (λ n. h.0 n || none_of p ps h.1 n)

-- the first of the queue leaves it, and is not marked any more, or not of the crew
pub taken_out : {B : Type 0} (mem new : Members B) (p : Pid) (w : Option (Member B)) (rest : List Pid) → ((q : Pid) → new q ≡ cond (same_pid p q) w (mem q))
    → ((m : Member B) → w ≡ Some m → m.queued ≡ false) → IsQueue mem (p ∷ rest) → IsQueue new rest
taken_out {B} mem new p w rest at bare k = record {
  listed = λ q m is on. by_cases (same_pid p q)
      (λ same. absurd (let e = bare m (sym (there mem new p w at q same) ∙ is) in cc))
      (λ other. either (same_pid q p) (in_queue q rest) (k.listed q m (sym (elsewhere mem new p w at q other) ∙ is) on) (same_pid_sym q p ∙ other));
  marked = λ q in_it. by_cases (same_pid p q)
      (λ same. absurd (let e = subst (λ (x : Pid). in_queue x rest ≡ true) (sym (same_pid_is p q same)) in_it in let f = none_of p rest (IsDistinct-head same_pid p rest k.once) in cc))
      (λ other. let was = k.marked q (or_right (same_pid q p) (in_queue q rest) in_it) in (was.0, elsewhere mem new p w at q other ∙ was.1, was.2));
  once = IsDistinct-tail same_pid p rest k.once;
}

-- one that is not there is marked, and pushed behind the queue
pub put_in : {B : Type 0} (mem new : Members B) (p : Pid) (w : Member B) (queue : List Pid) → ((q : Pid) → new q ≡ cond (same_pid p q) (Some w) (mem q))
    → w.queued ≡ true → in_queue p queue ≡ false → IsQueue mem queue → IsQueue new (queue ++ p ∷ [])
put_in {B} mem new p w queue at on out k = record {
  listed = λ q m is marked. by_cases (same_pid p q)
      (λ same. subst (λ (x : Pid). in_queue x (queue ++ p ∷ []) ≡ true) (same_pid_is p q same) (pushed p queue))
      (λ other. kept_in q p queue (k.listed q m (sym (elsewhere mem new p (Some w) at q other) ∙ is) marked));
  marked = λ q in_it. by_cases (same_pid p q)
      (λ same. (w, there mem new p (Some w) at q same, on))
      (λ other. let was = k.marked q (was_in q p queue (same_pid_sym q p ∙ other) in_it) in (was.0, elsewhere mem new p (Some w) at q other ∙ was.1, was.2));
  once = IsDistinct-push same_pid_laws queue p k.once out;
}

-- whoever is not marked does not stand in the queue
pub not_in : {B : Type 0} (mem : Members B) (p : Pid) (queue : List Pid) → ((m : Member B) → mem p ≡ Some m → m.queued ≡ false) → IsQueue mem queue → in_queue p queue ≡ false
not_in {B} mem p queue bare k = go (in_queue p queue) refl
  where
    go : (b : Bool) → in_queue p queue ≡ b → in_queue p queue ≡ false
    go false e = e
    go true e = absurd (let was = k.marked p e in let f = bare was.0 was.1 in let g = was.2 in cc)

-- whoever is not of the crew, or not marked, is pushed behind the queue
pub woken_queue : {B : Type 0} (mem new : Members B) (p : Pid) (w : Member B) (queue now : List Pid) → ((m : Member B) → mem p ≡ Some m → m.queued ≡ false)
    → ((q : Pid) → new q ≡ cond (same_pid p q) (Some w) (mem q)) → w.queued ≡ true → now ≡ queue ++ p ∷ [] → IsQueue mem queue → IsQueue new now
woken_queue mem new p w queue now bare at on is k =
    subst (λ (ps : List Pid). IsQueue new ps) (sym is) (put_in mem new p w queue at on (not_in mem p queue bare k) k)

pub marked_is : {B : Type 0} (o : Option (Member B)) → is_marked o ≡ true → (v : Member B) × (o ≡ Some v) × (v.queued ≡ true)
marked_is None h = absurd (cc)
marked_is (Some v) h = (v, refl, h)

-- one that stands in the queue is replaced
pub replaced : {B : Type 0} (mem new : Members B) (p : Pid) (w : Member B) (queue : List Pid) → is_marked (mem p) ≡ true → ((q : Pid) → new q ≡ cond (same_pid p q) (Some w) (mem q))
    → w.queued ≡ true → IsQueue mem queue → IsQueue new queue
replaced mem new p w queue stands at on k =
    let was = marked_is (mem p) stands in
    record {
      listed = λ q m is marked. by_cases (same_pid p q)
          (λ same. subst (λ (x : Pid). in_queue x queue ≡ true) (same_pid_is p q same) (k.listed p was.0 was.1 was.2))
          (λ other. k.listed q m (sym (elsewhere mem new p (Some w) at q other) ∙ is) marked);
      marked = λ q in_it. by_cases (same_pid p q)
          (λ same. (w, there mem new p (Some w) at q same, on))
          (λ other. let old = k.marked q in_it in (old.0, elsewhere mem new p (Some w) at q other ∙ old.1, old.2));
      once = k.once;
    }

-- the first of the queue goes behind it
pub put_back : {B : Type 0} (mem new : Members B) (p : Pid) (w : Member B) (rest now : List Pid) → ((q : Pid) → new q ≡ cond (same_pid p q) (Some w) (mem q))
    → w.queued ≡ true → now ≡ rest ++ p ∷ [] → IsQueue mem (p ∷ rest) → IsQueue new now
put_back {B} mem new p w rest now at on is k =
    woken_queue mid new p w rest now (λ m is. absurd (let e = ap (λ b. cond b None (mem p)) (same_pid_refl p) in let f : None ≡ Some m = sym e ∙ is in cc)) again on is out
  where
    mid : Members B
    mid q = cond (same_pid p q) None (mem q)

    out : IsQueue mid rest
    out = taken_out mem mid p None rest (λ q. refl) (λ m is. absurd (cc)) k

    twice : (b : Bool) (x : Option (Member B)) → cond b (Some w) x ≡ cond b (Some w) (cond b None x)
    twice true x = refl
    twice false x = refl

    again : (q : Pid) → new q ≡ cond (same_pid p q) (Some w) (mid q)
    again q = at q ∙ twice (same_pid p q) (mem q)

-- nobody is changed, and the first of the queue goes behind it
rotated : {B : Type 0} (mem : Members B) (p : Pid) (rest : List Pid) → IsQueue mem (p ∷ rest) → IsQueue mem (rest ++ p ∷ [])
rotated mem p rest k = record {
  listed = λ q m is on. by_cases (same_pid q p)
      (λ same. subst (λ (x : Pid). in_queue x (rest ++ p ∷ []) ≡ true) (sym (same_pid_is q p same)) (pushed p rest))
      (λ other. kept_in q p rest (either (same_pid q p) (in_queue q rest) (k.listed q m is on) other));
  marked = λ q in_it. by_cases (same_pid q p)
      (λ same. k.marked q (or_left (same_pid q p) (in_queue q rest) same))
      (λ other. k.marked q (or_right (same_pid q p) (in_queue q rest) (was_in q p rest other in_it)));
  once = IsDistinct-push same_pid_laws rest p (IsDistinct-tail same_pid p rest k.once) (none_of p rest (IsDistinct-head same_pid p rest k.once));
}

turned : {B : Type 0} (mem : Members B) (p : Pid) (rest now : List Pid) (read : ℕ) (d : ShardState) → now ≡ rest ++ p ∷ [] → Knows mem (p ∷ rest) read d → Knows mem now read d
turned mem p rest now read d is k = record {
  more = k.more;
  seen = k.seen;
  journal = k.journal;
  counted = k.counted;
  queued = subst (λ (ps : List Pid). IsQueue mem ps) (sym is) (rotated mem p rest k.queued);
  born = k.born;
  awake = k.awake;
}

-- the same members and the same queue
pub same_queue : {B : Type 0} (mem new : Members B) (queue now : List Pid) → ((q : Pid) → new q ≡ mem q) → now ≡ queue → IsQueue mem queue → IsQueue new now
same_queue {B} mem new queue now same items k = subst (λ (ps : List Pid). IsQueue new ps) (sym items) (record {
  listed = λ q m is on. k.listed q m (sym (same q) ∙ is) on;
  marked = λ q in_it. let was = k.marked q in_it in (was.0, same q ∙ was.1, was.2);
  once = k.once;
})

-- one of the crew is changed, or enters, or leaves
pub changed : {B : Type 0} (mem new : Members B) (p : Pid) (w : Option (Member B)) (before queue : List Pid) (read : ℕ) (d later : ShardState) → Extends d later
    → ((q : Pid) → new q ≡ cond (same_pid p q) w (mem q))
    → (IsQueue mem before → IsQueue new queue)
    → ((m : Member B) → w ≡ Some m → is_unborn (phase_of later p) ≡ false)
    → ((m : Member B) → w ≡ Some m → has_task m (phase_of later p) ≡ true → m.queued ≡ true)
    → Knows mem before read d → Knows new queue read later
changed {B} mem new p w before queue read d later e at stays here marked known =
    let k = knows_later mem before read d later e known in
    record {
      more = k.more;
      seen = k.seen;
      journal = k.journal;
      counted = k.counted;
      queued = stays k.queued;
      born = λ q m is. by_cases (same_pid p q)
          (λ same. subst (λ (x : Pid). is_unborn (phase_of later x) ≡ false) (same_pid_is p q same) (here m (sym (there mem new p w at q same) ∙ is)))
          (λ other. k.born q m (sym (elsewhere mem new p w at q other) ∙ is));
      awake = λ q m is work none. by_cases (same_pid p q)
          (λ same. let is_w : w ≡ Some m = sym (there mem new p w at q same) ∙ is in
          marked m is_w (subst (λ (x : Pid). has_task m (phase_of later x) ≡ true) (sym (same_pid_is p q same)) work))
          (λ other. k.awake q m (sym (elsewhere mem new p w at q other) ∙ is) work none);
    }

-- p is put into the queue, or stands there
pub woken : {B : Type 0} (p : Pid) (old new : Crew B) (v w : Member B) → members old p ≡ Some v → ((q : Pid) → members new q ≡ cond (same_pid p q) (Some w) (members old q))
    → w.queued ≡ true → w.next ≡ v.next → w.behaviour ≡ v.behaviour → (QueueHolds old → QueueHolds new) → QueueIsLonger (queue old) (queue new)
    → (HasTimers old → HasTimers new) → (HasTimers old → (t : Timer) → timer_of (members old p) ≡ Some t → length new.timers.pending + 1 ≡ length old.timers.pending)
    → new.read ≡ old.read → KeepsRest old new → Wakes p old new
woken {B} p old new v w held at on same_next same_behaviour queued longer timers fewer read rest = record {
  others = elsewhere (members old) (members new) p (Some w) at;
  marked = λ m is. subst (λ (x : Member B). x.queued ≡ true) (is_w m is) on;
  roles = λ q. by_cases (same_pid p q)
      (λ same. ap (option_map role) (there (members old) (members new) p (Some w) at q same) ∙ same_role
      ∙ ap (option_map role) (sym held ∙ ap (members old) (same_pid_is p q same)))
      (λ other. ap (option_map role) (elsewhere (members old) (members new) p (Some w) at q other));
  longer = longer;
  queued = queued;
  timers = timers;
  fewer = fewer;
  read = read;
  rest = rest;
}
  where
    same_role : Some (role w) ≡ Some (role v)
    same_role j = Some (same_behaviour j, same_next j)

    is_w : (m : Member B) → members new p ≡ Some m → w ≡ m
    is_w m is = same_some w m (sym (there (members old) (members new) p (Some w) at p (same_pid_refl p)) ∙ is)

none_at : {X : Type 0} (b : Bool) (x : Option X) → (b ≡ true → x ≡ None) → x ≡ cond b None x
none_at true x h = h refl
none_at false x h = refl

-- who is not of the crew
pub absent_at : {X : Type 0} (mem : Pid → Option X) (p : Pid) → mem p ≡ None → (q : Pid) → mem q ≡ cond (same_pid p q) None (mem q)
absent_at mem p none q = none_at (same_pid p q) (mem q) (λ same. subst (λ (x : Pid). mem x ≡ None) (same_pid_is p q same) none)

pub no_place : {X Y : Type 0} (r : Option X) (a : Option Y) → r ≡ None → is_some r ≡ is_some a → a ≡ None
no_place r None e h = refl
no_place r (Some y) e h = absurd (let k = ap is_some e in cc)

-- the first of the queue is no member, and is passed over
pub first_passed : {B X : Type 0} {place : Option X} {p : Pid} {start rest : List Pid} {read : ℕ} {d : ShardState} (mem : Members B) → start ≡ p ∷ rest → place ≡ None → is_some place ≡ is_some (mem p)
    → Knows mem start read d → Knows mem rest read d
first_passed {place} {p} {start} {rest} {read} {d} mem is none found k =
    changed mem mem p None (p ∷ rest) rest read d d (extends d) absent (taken_out mem mem p None rest absent (λ m e. some_none None m refl e)) (λ m e. some_none None m refl e)
    (λ m e. some_none None m refl e) (subst (λ (ps : List Pid). Knows mem ps read d) is k)
  where
    absent : (q : Pid) → mem q ≡ cond (same_pid p q) None (mem q)
    absent = absent_at mem p (no_place place (mem p) none found)

-- or it goes behind the others
pub first_turned : {B : Type 0} {p : Pid} {start rest now : List Pid} {read : ℕ} {d : ShardState} (mem : Members B) → start ≡ p ∷ rest → now ≡ rest ++ p ∷ [] → Knows mem start read d → Knows mem now read d
first_turned {p} {start} {rest} {now} {read} {d} mem is later k = turned mem p rest now read d later (subst (λ (ps : List Pid). Knows mem ps read d) is k)

-- written back as it was
pub same_back : {X : Type 0} (mem : Pid → Option X) (p : Pid) (v : X) → mem p ≡ Some v → (q : Pid) → cond (same_pid p q) (Some v) (mem q) ≡ mem q
same_back mem p v held q = go (same_pid p q) (λ same. sym held ∙ ap mem (same_pid_is p q same))
  where
    go : (b : Bool) → (b ≡ true → Some v ≡ mem q) → cond b (Some v) (mem q) ≡ mem q
    go true h = h refl
    go false h = refl

-- the same members and the same queue
pub knows_same : {B : Type 0} (mem new : Members B) (queue now : List Pid) (read : ℕ) (d : ShardState) → ((q : Pid) → new q ≡ mem q) → now ≡ queue → Knows mem queue read d → Knows new now read d
knows_same mem new queue now read d same items k = record {
  more = k.more;
  seen = k.seen;
  journal = k.journal;
  counted = k.counted;
  queued = same_queue mem new queue now same items k.queued;
  born = λ q m is. k.born q m (sym (same q) ∙ is);
  awake = λ q m is work none. k.awake q m (sym (same q) ∙ is) work none;
}

pub knows_is : {B : Type 0} (old new : Crew B) (d : ShardState) → IsSame old new → KnowsDesk old d → KnowsDesk new d
knows_is old new d same k =
    subst (λ n. Knows (members new) (queue new) n d) (sym same.read) (knows_same (members old) (members new) (queue old) (queue new) old.read d same.members same.queue k)
