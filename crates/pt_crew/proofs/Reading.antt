-- One more event of the journal is read.
use Rattle.std.proofs.Common.{◌≡◌, ◌+◌, ◌<◌, ◌≤◌, false, ◌&&◌, ◌||◌, Result, Ok, Err, OnOk, List, [], ◌∷◌, ◌++◌, length, reverse, get_or, Option, Some, None, refl, sym, ap, subst, ◌∙◌, append_assoc, append-nil, length-append, arith}
use Rattle.std.specs.Prelude.{is_err}
use Rattle.std.proofs.lemmas.List.{length-reverse, get_or_default}
use Rattle.std.proofs.lemmas.List.Folds.{list_any-append}
use Rattle.pt_signal.specs.declared.pid.Pid.{Pid}
use Rattle.pt_signal.specs.declared.item.Pick.TheVariants.{Any}
use Rattle.pt_signal.specs.Values.{same_pid}
use Rattle.pt_signal.proofs.Same.{same_pid_is}
use Rattle.pt_events.specs.declared.event.Event.{Event}
use Rattle.pt_events.specs.declared.event.Event.TheVariants.{Born, Said, Came, Took, Flag, Left, Refused}
use Rattle.pt_events.specs.declared.event.Stamped.{Stamped}
use Rattle.pt_shard.specs.ShardState.{ShardState, phase_of}
use Rattle.pt_crew.specs.declared.crew.Crew.{Crew}
use Rattle.pt_workers.specs.Waking.{came_in, came_to, need_not_wait}
use Rattle.pt_workers.proofs.Unread.{Oldest, oldest}
use Rattle.pt_crew.specs.Waking.{Knows, IsAwake, has_work, timer_of}
use Rattle.std.specs.Option.{option_map}
use Rattle.pt_crew.specs.declared.crew.Member.{Member}
use Rattle.pt_crew.specs.Crews.{members, role, HasTimers, KnowsDesk, IsSame}
use Rattle.pt_crew.specs.Parts.{Wakes, WakesBy}
use Rattle.pt_behaviour.proofs.Cases.{some_none, by_cases}
use Rattle.pt_crew.proofs.Waking.{or_right, same_queue}
use Rattle.pt_crew.proofs.Places.{same_pid_sym}
use Rattle.pt_crew.proofs.Timing.{timers_is}

-- whoever is of the crew was so before
held_before : {B : Type 0} (was now : Option (Member B)) (m : Member B) → now ≡ Some m → option_map role now ≡ option_map role was → (v : Member B) × (was ≡ Some v)
held_before None now m is same = absurd (let k : Some (role m) ≡ None = sym (ap (option_map role) is) ∙ same in cc)
held_before (Some v) now m is same = (v, refl)

module _ {B : Type 0} (old new : Crew B) (d : ShardState) (s : Stamped) (k : KnowsDesk old d) (o : Oldest k.more k.seen s) where
  quiet_front : (p : Pid) → came_in p o.front ≡ false → came_to p s.event ≡ false → came_in p k.more ≡ false
  quiet_front p a b =
      ap (came_in p) o.is
      ∙ list_any-append (λ (t : Stamped). came_to p t.event) o.front (s ∷ [])
      ∙ (λ j. a j || (b j || false))

  journal_is : d.journal ≡ o.front ++ s ∷ k.seen
  journal_is = k.journal ∙ ap (λ (l : List Stamped). l ++ k.seen) o.is ∙ append_assoc o.front (s ∷ []) k.seen

  read_other : (e : Event) → s.event ≡ e → ((p : Pid) → came_to p e ≡ false) → IsSame old new → Knows (members new) new.queue.items (old.read + 1) d
  read_other e is none same = record {
    more = o.front;
    seen = s ∷ k.seen;
    journal = journal_is;
    counted = let c = k.counted in omega (arith, c);
    queued = same_queue (members old) (members new) old.queue.items new.queue.items same.members same.queue k.queued;
    born = λ p m at. k.born p m (sym (same.members p) ∙ at);
    awake = λ p m at work quiet. k.awake p m (sym (same.members p) ∙ at) work (quiet_front p quiet (ap (came_to p) is ∙ none p));
  }

  read_came : (b : Pid) → ((p : Pid) → same_pid b p ≡ false → came_to p s.event ≡ false) → Wakes b old new → Knows (members new) new.queue.items (old.read + 1) d
  read_came b is wakes = record {
    more = o.front;
    seen = s ∷ k.seen;
    journal = journal_is;
    counted = let c = k.counted in omega (arith, c);
    queued = wakes.queued k.queued;
    born = λ p m at. let was = held_before (members old p) (members new p) m at (wakes.roles p) in k.born p was.0 was.1;
    awake = λ p m at work quiet. by_cases (same_pid b p)
        (λ same. wakes.marked m (subst (λ (q : Pid). members new q ≡ Some m) (sym (same_pid_is b p same)) at))
        (λ other. k.awake p m (sym (wakes.others p other) ∙ at) work (quiet_front p quiet (is p other)));
  }

  pub read_event : (e : Event) → s.event ≡ e → WakesBy e old new → Knows (members new) new.queue.items (old.read + 1) d
  read_event (Born p parent link) is h = read_other (Born p parent link) is (λ q. refl) h
  read_event (Said a b x) is h = read_other (Said a b x) is (λ q. refl) h
  read_event (Came a b x) is h = read_came b (λ q other. ap (came_to q) is ∙ same_pid_sym q b ∙ other) h
  read_event (Took p q i) is h = read_other (Took p q i) is (λ q. refl) h
  read_event (Flag p on) is h = read_other (Flag p on) is (λ q. refl) h
  read_event (Left p r) is h = read_came p (λ q other. ap (came_to q) is ∙ same_pid_sym q p ∙ other) h
  read_event (Refused a b) is h = read_other (Refused a b) is (λ q. refl) h

-- the event at the place up to which was read
pub read_next : {B : Type 0} (old new : Crew B) (d : ShardState) (s : Stamped) → old.read < length d.journal → s ≡ get_or (reverse d.journal) old.read s → WakesBy s.event old new → KnowsDesk old d → Knows (members new) new.queue.items (old.read + 1) d
read_next old new d s within at h k =
    let l : length d.journal ≡ length (k.more ++ k.seen) = ap length k.journal in
    let c = k.counted in
    let inside : length k.seen < length (k.more ++ k.seen) = omega (arith, l, c, within) in
    let at2 : s ≡ get_or (reverse (k.more ++ k.seen)) (length k.seen) s = at ∙ (λ j. get_or (reverse (k.journal j)) (sym c j) s) in
    read_event old new d s k (oldest k.more k.seen s inside at2) s.event refl h

-- where all is read, whoever has something to do stands in the queue
none_left : {X : Type 0} (more seen : List X) → length (more ++ seen) ≡ length seen → more ≡ []
none_left [] seen h = refl
none_left (x ∷ xs) seen h = absurd (omega (arith, h, length-append (x ∷ xs) seen))

woke_read : {B : Type 0} (e : Event) (old new : Crew B) → WakesBy e old new → new.read ≡ old.read
woke_read (Born p parent link) old new h = h.read
woke_read (Said a b x) old new h = h.read
woke_read (Came a b x) old new h = h.read
woke_read (Took p q i) old new h = h.read
woke_read (Flag p on) old new h = h.read
woke_read (Left p r) old new h = h.read
woke_read (Refused a b) old new h = h.read

-- who is woken otherwise
pub woke_knows : {B : Type 0} (p : Pid) (old new : Crew B) (d : ShardState) → Wakes p old new → KnowsDesk old d → KnowsDesk new d
woke_knows p old new d wakes k = record {
  more = k.more;
  seen = k.seen;
  journal = k.journal;
  counted = k.counted ∙ sym wakes.read;
  queued = wakes.queued k.queued;
  born = λ q m at. let was = held_before (members old q) (members new q) m at (wakes.roles q) in k.born q was.0 was.1;
  awake = λ q m at work quiet. by_cases (same_pid p q)
      (λ same. wakes.marked m (subst (λ (x : Pid). members new x ≡ Some m) (sym (same_pid_is p q same)) at))
      (λ other. k.awake q m (sym (wakes.others q other) ∙ at) work quiet);
}

-- one that is not of the crew is woken by nothing
pub absent_wakes : {B : Type 0} (p : Pid) (old new : Crew B) → members old p ≡ None → IsSame old new → Wakes p old new
absent_wakes p old new none is = record {
  others = λ q other. is.members q;
  marked = λ m at. some_none (members new p) m (is.members p ∙ none) at;
  roles = λ q. ap (option_map role) (is.members q);
  queued = λ k. same_queue (members old) (members new) old.queue.items new.queue.items is.members is.queue k;
  longer = ([], is.queue ∙ sym (append-nil old.queue.items));
  read = is.read;
  timers = timers_is old new is;
  fewer = λ k t has. some_none (timer_of (members old p)) t (ap timer_of none) has;
  rest = is.rest;
}

pub woke_timers : {B : Type 0} (e : Event) (old new : Crew B) → WakesBy e old new → HasTimers old → HasTimers new
woke_timers (Born p parent link) old new h k = timers_is old new h k
woke_timers (Said a b x) old new h k = timers_is old new h k
woke_timers (Came a b x) old new h k = h.timers k
woke_timers (Took p q i) old new h k = timers_is old new h k
woke_timers (Flag p on) old new h k = timers_is old new h k
woke_timers (Left p r) old new h k = h.timers k
woke_timers (Refused a b) old new h k = timers_is old new h k

pub read_more : {B : Type 0} (old new : Crew B) (d : ShardState) (s : Stamped) → old.read < length d.journal → s ≡ get_or (reverse d.journal) old.read s → WakesBy s.event old new → KnowsDesk old d → Knows (members new) new.queue.items (new.read + 1) d
read_more old new d s within at h k =
    subst (λ n. Knows (members new) new.queue.items (n + 1) d) (sym (woke_read s.event old new h)) (read_next old new d s within at h k)

pub on_ok : {A E : Type 0} (P : Type 0) (r : Result A E) → is_err r ≡ false → OnOk r P → P
on_ok P (Ok a) e h = h
on_ok P (Err x) e h = absurd (cc)

pub awake_all : {B : Type 0} (c : Crew B) (d : ShardState) → length d.journal ≤ c.read → KnowsDesk c d → IsAwake (members c) c.queue.items d
awake_all c d all k p m is work =
    let l : length d.journal ≡ length (k.more ++ k.seen) = ap length k.journal in
    let n = k.counted in
    let a = length-append k.more k.seen in
    let none : k.more ≡ [] = none_left k.more k.seen (omega (arith, l, n, a, all)) in
    k.queued.listed p m is (k.awake p m is (or_right (m.clear && need_not_wait Any (phase_of d p)) (has_work m.next (phase_of d p)) work) (ap (came_in p) none))

pub look_next : {B A E : Type 0} (old new : Crew B) (d : ShardState) (shown : List Stamped) (x : Stamped) (r : Result A E) → shown ≡ reverse d.journal → old.read < length shown → is_err r ≡ false
    → OnOk r (WakesBy (get_or shown old.read x).event old new) → KnowsDesk old d → Knows (members new) new.queue.items (new.read + 1) d
look_next old new d shown x r is within ok h k =
    let s = get_or shown old.read x in
    let short : old.read < length d.journal = let e = ap length is in let l = length-reverse d.journal in omega (arith, within, e, l) in
    let at : s ≡ get_or (reverse d.journal) old.read s = get_or_default shown old.read x s within ∙ ap (λ (l : List Stamped). get_or l old.read s) is in
    read_more old new d s short at (on_ok (WakesBy s.event old new) r ok h) k
