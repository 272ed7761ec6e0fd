-- Each item that is taken is handed on.
use Rattle.std.proofs.Common.{◌≡◌, ◌⊎◌, inl, inr, ℕ, cond, Bool, true, false, List, [], ◌∷◌, ◌++◌, Option, Some, None, Result, Ok, Err, refl, sym, ap, subst, ◌∙◌, append_assoc}
use Rattle.std.specs.Prelude.{nat_le}
use Rattle.std.proofs.lemmas.Bool.{leb-true}
use Rattle.std.specs.List.{find}
use Rattle.pt_signal.specs.declared.pid.Pid.{Pid}
use Rattle.pt_signal.specs.declared.item.Item.{Item}
use Rattle.pt_signal.specs.declared.item.Pick.{Pick}
use Rattle.pt_signal.specs.declared.reason.Reason.{Reason}
use Rattle.pt_signal.specs.Values.{same_pid, fits}
use Rattle.pt_signal.proofs.Same.{same_pid_is}
use Rattle.pt_events.specs.declared.event.Event.TheVariants.{Left}
use Rattle.pt_shard.specs.declared.fault.Fault.{Fault}
use Rattle.pt_shard.specs.declared.fault.Fault.TheVariants.{Full, Memory, Worn, Gone, Myself, NoProc}
use Rattle.pt_shard.specs.ShardState.{ShardState, lives, state_in}
use Rattle.pt_shard.specs.Calls.{Calls, take_event, first_match}
use Rattle.pt_behaviour.specs.declared.behaviour.Next.{Next}
use Rattle.pt_behaviour.specs.declared.behaviour.Next.TheVariants.{Wait, WaitUntil, Proceed, Running, Stop}
use Rattle.pt_behaviour.specs.declared.births.Role.{Role}
use Rattle.pt_behaviour.specs.Births.{bore}
use Rattle.pt_crew.specs.declared.crew.Tended.{Tended}
use Rattle.pt_crew.specs.declared.crew.Tended.TheVariants.{Idle, Refused as Denied}
use Rattle.pt_behaviour.specs.Behaving.{Answers, takes, pick_of}
use Rattle.pt_crew.specs.Visiting.{Roles, AreSame, AreWith, Scene, HandsTo, LeavesAs, StaysAs, ComesTo, SeesTo, EndsAs, TakesAs, VisitsOne, Visits}
use Rattle.pt_crew.specs.Crews.{CrewRounds}
use Rattle.pt_crew.specs.Handing.{MayLeave, MayBeHanded, HandsAll, Handed, item_handed, items_handed}
use Rattle.std.specs.Prelude.{MatchBool}
use Rattle.pt_behaviour.proofs.Cases.{by_cases, same_some}
use Rattle.pt_crew.proofs.Waking.{elsewhere}
use Rattle.pt_behaviour.proofs.Takes.{left_takes, none_taken, one_taken, refused_taken}

module _ {B : Type 0} where
  leave_then : (old mid new : Roles B) → MayLeave old mid → MayLeave mid new → MayLeave old new
  leave_then old mid new a b q role is = a q role (b q role is)

  pub same_leave : (old new : Roles B) → AreSame old new → MayLeave old new
  same_leave old new same q role is = sym (same q) ∙ is

  -- where p is gone, or as it was
  gone_leaves : (p : Pid) (old new : Roles B) → AreWith p (new p) old new → new p ≡ None → MayLeave old new
  gone_leaves p old new with_p gone q role is = by_cases (same_pid p q)
      (λ same. absurd (let a : new p ≡ Some role = ap new (same_pid_is p q same) ∙ is in let b : None ≡ Some role = sym gone ∙ a in cc))
      (λ other. sym (elsewhere old new p (new p) with_p q other) ∙ is)

  stays_leaves : (p : Pid) (old new : Roles B) → AreWith p (new p) old new → new p ≡ old p → MayLeave old new
  stays_leaves p old new with_p stays q role is = by_cases (same_pid p q)
      (λ same. ap old (sym (same_pid_is p q same)) ∙ sym stays ∙ ap new (same_pid_is p q same) ∙ is)
      (λ other. sym (elsewhere old new p (new p) with_p q other) ∙ is)

-- the items of what was handed before and then
items_then : (xs ys : List (Pid × Option Item)) → items_handed (xs ++ ys) ≡ items_handed xs ++ items_handed ys
items_then [] ys = refl
items_then (t ∷ xs) ys = ap (λ (l : List (Pid × Item)). item_handed t.0 t.1 ++ l) (items_then xs ys) ∙ sym (append_assoc (item_handed t.0 t.1) (items_handed xs) (items_handed ys))

-- what is found fits
pub found_fits : (test : Item → Bool) (items : List Item) (i : Item) → Some i ≡ find test items → test i ≡ true
found_fits test [] i e = absurd (cc)
found_fits test (x ∷ items) i e = go (test x) refl e (found_fits test items i)
  where
    go : (b : Bool) → test x ≡ b → Some i ≡ cond b (Some x) (find test items) → (Some i ≡ find test items → test i ≡ true) → test i ≡ true
    go true t e ih = ap test (same_some i x e) ∙ t
    go false t e ih = ih e

module _ {B : Type 0} (answers : Answers B) (time : ℕ) where
  absorb : (handed : List (Pid × Option Item)) (old mid new : Roles B) → HandsAll answers time handed old mid → MayLeave mid new → HandsAll answers time handed old new
  absorb [] old mid new a k = leave_then old mid new a k
  absorb (t ∷ handed) old mid new a k = (a.0, a.1, a.2, a.3, leave_then a.1 mid new a.4 k)

  all_then : (first later : List (Pid × Option Item)) (old mid new : Roles B) → HandsAll answers time first old mid → HandsAll answers time later mid new → HandsAll answers time (later ++ first) old new
  all_then first [] old mid new a b = absorb first old mid new a b
  all_then first (t ∷ later) old mid new a b = (b.0, b.1, all_then first later old mid b.0 a b.2, b.3, b.4)

  handed_none : (old new : Roles B) (d e : ShardState) → MayLeave old new → takes e.journal ≡ takes d.journal → Handed answers time old d new e
  handed_none old new d e k same = record { handed = []; hands = k; takes = same }

  handed_then : (old mid new : Roles B) (d f e : ShardState) → Handed answers time old d mid f → Handed answers time mid f new e → Handed answers time old d new e
  handed_then old mid new d f e a b = record {
    handed = b.handed ++ a.handed;
    hands = all_then a.handed b.handed old mid new a.hands b.hands;
    takes = b.takes ∙ ap (λ (l : List (Pid × Item)). items_handed b.handed ++ l) a.takes ∙ sym (append_assoc (items_handed b.handed) (items_handed a.handed) (takes d.journal))
        ∙ ap (λ (l : List (Pid × Item)). l ++ takes d.journal) (sym (items_then b.handed a.handed));
  }

  module _ (p : Pid) (old new : Roles B) (d e : ShardState) (births : List (Role B)) (with_p : AreWith p (new p) old new) where
    gone : new p ≡ None → takes e.journal ≡ takes d.journal → Handed answers time old d new e
    gone none same = handed_none old new d e (gone_leaves p old new with_p none) same

    stays : (role : B × Next) → old p ≡ Some role → new p ≡ Some role → takes e.journal ≡ takes d.journal → Handed answers time old d new e
    stays role was is same = handed_none old new d e (stays_leaves p old new with_p (is ∙ sym was)) same

    left : (mid : ShardState) (t : Tended) → takes mid.journal ≡ takes d.journal → LeavesAs mid t (new p) e → Handed answers time old d new e
    left mid t same h = gone h.1 (ap (λ (x : ShardState). takes x.journal) h.2 ∙ same)

    stood : (mid : ShardState) (as_is t : Tended) (role : B × Next) → old p ≡ Some role → takes mid.journal ≡ takes d.journal → StaysAs as_is role mid t (new p) e → Handed answers time old d new e
    stood mid as_is t role was same h = stays role was h.1 (ap (λ (x : ShardState). takes x.journal) h.2 ∙ same)

    one : (b : B) (before : Next) (item : Option Item) (mid : ShardState) (t : Tended) → old p ≡ Some (b, before) → MayBeHanded time before item → takes mid.journal ≡ items_handed ((p, item) ∷ []) ++ takes d.journal
        → HandsTo (answers time) p b item mid t (new p) e births → Handed answers time old d new e
    one b before item mid t was may same h = record {
      handed = (p, item) ∷ [];
      hands = (
        old,
        new,
        (λ q role is. is),
        record {
          was = b;
          before = before;
          waited = was;
          may = may;
          now = h.behaviour;
          next = h.next;
          desk = mid;
          later = e;
          births = births;
          answer = h.answer;
          after = subst (λ (o : Option (B × Next)). AreWith p o old new) h.now_is with_p;
        },
        (λ q role is. is),
      );
      takes = h.takes ∙ same;
    }

    ended : (b : B) (r : Reason) (t : Tended) (result : Result (Unit {0}) Fault) → old p ≡ Some (b, Stop r) → Calls p (Some (Left p r)) (tt {0}) d result e → EndsAs (b, Stop r) result t (new p) → Handed answers time old d new e
    ended b r t (Ok x) was calls ends = gone ends.1 (left_takes p r d e (Ok x) calls)
    ended b r t (Err Gone) was calls ends = gone ends.1 (left_takes p r d e (Err Gone) calls)
    ended b r t (Err Full) was calls ends = absurd calls
    ended b r t (Err Memory) was calls ends = stays (b, Stop r) was ends.1 (left_takes p r d e (Err Memory) calls)
    ended b r t (Err Worn) was calls ends = stays (b, Stop r) was ends.1 (left_takes p r d e (Err Worn) calls)
    ended b r t (Err Myself) was calls ends = absurd calls
    ended b r t (Err NoProc) was calls ends = absurd calls

    none_left : (b : B) (n : Next) (over : Bool) (mid : ShardState) (t : Tended) → old p ≡ Some (b, n) → takes mid.journal ≡ takes d.journal
        → (over ≡ true → MayBeHanded time n None) → MatchBool over (HandsTo (answers time) p b None mid t (new p) e births) (StaysAs Idle (b, n) mid t (new p) e) → Handed answers time old d new e
    none_left b n true mid t was same may h = one b n None mid t was (may refl) same h
    none_left b n false mid t was same may h = stood mid Idle t (b, n) was same h

    took : (b : B) (n : Next) (k : Pick) (over : Bool) (t : Tended) (result : Result (Option Item) Fault) (mid : ShardState) → old p ≡ Some (b, n) → pick_of n ≡ Some k → (over ≡ true → MayBeHanded time n None)
        → Calls p (take_event d p k) (first_match d p k) d result mid → TakesAs (answers time) p (b, n) over mid result t (new p) e births → Handed answers time old d new e
    took b n k over t (Ok None) mid was picks may calls h = none_left b n over mid t was (none_taken p k d mid calls) may h
    took b n k over t (Ok (Some i)) mid was picks may calls h =
        one b n (Some i) mid t was (k, picks, found_fits (fits k) (state_in d p).waiting i calls.2) (one_taken p k i d mid calls) h
    took b n k over t (Err Gone) mid was picks may calls h = left mid t (refused_taken p k Gone d mid calls) h
    took b n k over t (Err Full) mid was picks may calls h = absurd calls
    took b n k over t (Err Memory) mid was picks may calls h = stood mid Denied t (b, n) was (refused_taken p k Memory d mid calls) h
    took b n k over t (Err Worn) mid was picks may calls h = stood mid Denied t (b, n) was (refused_taken p k Worn d mid calls) h
    took b n k over t (Err Myself) mid was picks may calls h = absurd calls
    took b n k over t (Err NoProc) mid was picks may calls h = absurd calls

    proceeds : (b : B) (t : Tended) (living : Bool) → old p ≡ Some (b, Proceed) → MatchBool living (HandsTo (answers time) p b None d t (new p) e births) (LeavesAs d t (new p) e) → Handed answers time old d new e
    proceeds b t true was h = one b Proceed None d t was (inl refl) refl h
    proceeds b t false was h = left d t refl h

    runs : (b : B) (t : Tended) (living : Bool) → old p ≡ Some (b, Running) → MatchBool living (StaysAs Idle (b, Running) d t (new p) e) (LeavesAs d t (new p) e) → Handed answers time old d new e
    runs b t true was h = stood d Idle t (b, Running) was refl h
    runs b t false was h = left d t refl h

    seen : (b : B) (n : Next) (t : Tended) → old p ≡ Some (b, n) → SeesTo answers time p b n d t (new p) e births → Handed answers time old d new e
    seen b (Stop r) t was h = ended b r t h.0 was h.1 h.2
    seen b Proceed t was h = proceeds b t (lives d p) was h
    seen b Running t was h = runs b t (lives d p) was h
    seen b (Wait k) t was h = took b (Wait k) k false t h.0 h.1 was refl (λ bad. absurd (cc)) h.2 h.3
    seen b (WaitUntil k at) t was h =
        took b (WaitUntil k at) k (nat_le at time) t h.0 h.1 was refl (λ over. inr (at, refl, leb-true at time over)) h.2 h.3

    found : (role : B × Next) (t : Tended) → old p ≡ Some role → StaysAs Denied role d t (new p) e ⊎ SeesTo answers time p role.0 role.1 d t (new p) e births → Handed answers time old d new e
    found role t was (inl h) = stood d Denied t role was refl h
    found role t was (inr h) = seen role.0 role.1 t was h

    came : (o : Option (B × Next)) (t : Tended) → old p ≡ o → ComesTo answers time p o d t (new p) e births → Handed answers time old d new e
    came None t was h = gone h.1 (ap (λ (x : ShardState). takes x.journal) h.2)
    came (Some role) t was h = found role t was h

module _ {B : Type 0} (answers : Answers B) where
  one_hands : (p : Pid) (old new : Scene B) → VisitsOne answers p old new → Handed answers old.time old.roles old.desk new.roles new.desk
  one_hands p old new h = came answers old.time p old.roles new.roles old.desk new.desk (bore old.born new.born) h.others (old.roles p) h.tended refl h.comes

  same_hands : (old new : Scene B) → new ≡ old → Handed answers old.time old.roles old.desk new.roles new.desk
  same_hands old new is = handed_none answers old.time old.roles new.roles old.desk new.desk (same_leave old.roles new.roles (λ q. ap (λ (s : Scene B). s.roles q) is)) (ap (λ (s : Scene B). takes s.desk.journal) is)

  -- the time stays in a step
  visits_time : (ps : List Pid) (old new : Scene B) → Visits answers ps old new → new.time ≡ old.time
  visits_time [] old new h = ap (λ (s : Scene B). s.time) h
  visits_time (p ∷ ps) old new h = visits_time ps h.0 new h.2 ∙ h.1.time

  rounds_time : (queues : List (List Pid)) (old new : Scene B) → CrewRounds answers queues old new → new.time ≡ old.time
  rounds_time [] old new h = ap (λ (s : Scene B). s.time) h
  rounds_time (queue ∷ queues) old new h = visits_time queue (record h.0 { again = [] }) new h.3 ∙ rounds_time queues old h.0 h.1

  -- what was handed before and then
  scenes_then : (old mid new : Scene B) → mid.time ≡ old.time → Handed answers old.time old.roles old.desk mid.roles mid.desk → Handed answers mid.time mid.roles mid.desk new.roles new.desk
      → Handed answers old.time old.roles old.desk new.roles new.desk
  scenes_then old mid new is a b = handed_then answers old.time old.roles mid.roles new.roles old.desk mid.desk new.desk a
      (subst (λ (n : ℕ). Handed answers n mid.roles mid.desk new.roles new.desk) is b)

  -- whoever is come to was handed what it took
  visits_hand : (ps : List Pid) (old new : Scene B) → Visits answers ps old new → Handed answers old.time old.roles old.desk new.roles new.desk
  visits_hand [] old new h = same_hands old new h
  visits_hand (p ∷ ps) old new h = scenes_then old h.0 new h.1.time (one_hands p old h.0 h.1) (visits_hand ps h.0 new h.2)

  -- so in all rounds of a step
  pub rounds_hand : (queues : List (List Pid)) (old new : Scene B) → CrewRounds answers queues old new → Handed answers old.time old.roles old.desk new.roles new.desk
  rounds_hand [] old new h = same_hands old new h
  rounds_hand (queue ∷ queues) old new h =
      scenes_then old h.0 new (rounds_time queues old h.0 h.1) (rounds_hand queues old h.0 h.1) (visits_hand queue (record h.0 { again = [] }) new h.3)
