-- A process that is come to, whose behaviour is a member, and what is told of it.
use Rattle.std.proofs.Common.{◌≡◌, ◌⊎◌, inl, inr, ℕ, Bool, true, false, cond, List, [], ◌∷◌, ◌++◌, Option, Some, None, Result, Ok, Err, refl, sym, ap, subst, ◌∙◌}
use Rattle.std.specs.Prelude.{MatchBool, nat_le}
use Rattle.std.specs.Option.{option_map}
use Rattle.std.proofs.lemmas.Bool.{leb-false, leb-true}
use Rattle.pt_signal.specs.declared.pid.Pid.{Pid}
use Rattle.pt_signal.specs.declared.item.Item.{Item}
use Rattle.pt_signal.specs.declared.item.Pick.{Pick}
use Rattle.pt_signal.specs.declared.reason.Reason.{Reason}
use Rattle.pt_signal.specs.Values.{fits}
use Rattle.pt_signal.proofs.Same.{same_pid_refl}
use Rattle.pt_events.specs.declared.event.Event.TheVariants.{Took, Left}
use Rattle.pt_events.specs.declared.event.Stamped.{Stamped}
use Rattle.pt_shard.specs.declared.fault.Fault.{Fault}
use Rattle.pt_shard.specs.declared.fault.Fault.TheVariants.{Full, Memory, Worn, Gone, Myself, NoProc}
use Rattle.pt_shard.specs.ShardState.{ShardState, lives, phase_of, shard_after, state_in}
use Rattle.pt_shard.specs.Calls.{Calls, after_if, take_event, first_match}
use Rattle.pt_events.specs.History.{Phase, unborn, living, ended, after, is_living, leaves, touches}
use Rattle.pt_events.proofs.Phases.{each_branch}
use Rattle.pt_behaviour.specs.declared.behaviour.Next.{Next}
use Rattle.pt_behaviour.specs.declared.behaviour.Next.TheVariants.{Wait, WaitUntil, Proceed, Running, Stop}
use Rattle.pt_behaviour.specs.declared.births.Role.{Role}
use Rattle.pt_crew.specs.declared.crew.Tended.{Tended}
use Rattle.pt_crew.specs.declared.crew.Tended.TheVariants.{Idle, Done, Refused, Gone as Ended}
use Rattle.pt_crew.specs.Outside.{tells_or}
use Rattle.pt_behaviour.specs.Behaving.{Answers, pick_of, takes}
use Rattle.pt_crew.specs.Visiting.{ComesTo, EndsAs, HandsTo, LeavesAs, SeesTo, StaysAs, TakesAs, handed_as, handed_by, is_refused, leaves_crew}
use Rattle.pt_crew.specs.Handing.{MayBeHanded, item_handed}
use Rattle.pt_behaviour.specs.Upholding.{GoesOnWithout, ItemIsTaken}
use Rattle.pt_crew.proofs.Handing.{found_fits}
use Rattle.pt_behaviour.proofs.Cases.{same_some}
use Rattle.pt_behaviour.proofs.Takes.{left_takes, one_taken}
use Rattle.pt_supervisor.specs.declared.supervisor.Supervisor.{Supervisor}
use Rattle.pt_scheduler.specs.declared.member.Job.{Job}
use Rattle.pt_scheduler.specs.declared.member.Member.{Member}
use Rattle.pt_scheduler.specs.declared.plan.Plan.{Plan}
use Rattle.pt_scheduler.specs.Exits.{exit_in, exit_reason, noted_reason, reason_told}
use Rattle.pt_scheduler.specs.Members.{AnswersBy, BossHandles, TellsBy, member_answers, member_tells, what_of}
use Rattle.pt_scheduler.specs.Scheduling.{HasExited, HasNothing}

-- what may be told of the process in front of a queue, that was to do this
abbrev pub told_answers : Option Next → Option Job → Answers Member
told_answers = tells_or member_answers member_tells

module _ (told : Option Job) (time : ℕ) (p : Pid) (b : Member) (n : Next) (births : List (Role Member)) (d : ShardState) where
  -- the outside was told of it, and it is running
  pub record WasHanded (t : Tended) (now : Option (Member × Next)) (e : ShardState) : Type 0 where
    pub item : Option Item
    pub outside : b.boss ≡ None
    pub may : MayBeHanded time n item
    pub taken : ItemIsTaken p n item d e
    pub says : told ≡ Some (record { pid = p; tag = b.tag; what = what_of b.notes.begun b.origin (Some n) item })
    pub now_is : now ≡ Some (record b { notes = record (b.notes) { begun = true } }, Running)
    pub takes : takes e.journal ≡ item_handed p item ++ takes d.journal
    pub tended : t ≡ Done
    pub bare : births ≡ []

  -- it is a supervisor, and handled something
  pub record HasHandled (t : Tended) (now : Option (Member × Next)) (e : ShardState) : Type 0 where
    pub silent : told ≡ None
    pub item : Option Item
    pub boss : Supervisor Plan
    pub inside : b.boss ≡ Some boss
    pub may : MayBeHanded time n item
    pub mid : ShardState
    pub taken : ItemIsTaken p n item d mid
    pub next : Next
    pub later : Supervisor Plan
    pub handles : BossHandles time boss mid p item next later e births
    pub now_is : now ≡ Some (record b { boss = Some later }, next)
    pub takes : takes e.journal ≡ item_handed p item ++ takes d.journal
    pub tended : t ≡ handed_as next (phase_of e p)

  -- it is as it was
  pub record HasStayed (t : Tended) (now : Option (Member × Next)) (e : ShardState) : Type 0 where
    pub now_is : now ≡ Some (b, n)
    pub desk : e ≡ d
    pub tended : ((t ≡ Idle) × HasNothing time p n d) ⊎ (t ≡ Refused)

  -- it has left, with this reason by the journal if it lived, and else by what was noted
  pub record HasLeft (t : Tended) (now : Option (Member × Next)) (e : ShardState) : Type 0 where
    pub tended : t ≡ Ended
    pub now_is : now ≡ None
    pub takes : takes e.journal ≡ takes d.journal
    pub exits : HasExited p n d e
    pub gone : lives e p ≡ false
    pub reason : b.notes.ended ≡ exit_in p d.journal → reason_told (lives d p) n (noted_reason b.notes.ended b.notes.lost) ≡ exit_reason p e.journal b.notes.lost

  abbrev pub MemberComes : Tended → Option (Member × Next) → ShardState → Type 0
  MemberComes t now e = WasHanded t now e ⊎ (HasHandled t now e ⊎ (HasStayed t now e ⊎ HasLeft t now e))

-- one that is handed something stays
stays_by : (items : List Item) → leaves_crew (handed_by items) ≡ false
stays_by [] = refl
stays_by (i ∷ items) = refl

pub handed_stays : (n : Next) (f : Phase) → leaves_crew (handed_as n f) ≡ false
handed_stays (Wait k) unborn = refl
handed_stays (Wait k) (living s) = stays_by s.waiting
handed_stays (Wait k) (ended r s) = refl
handed_stays (WaitUntil k at) f = refl
handed_stays Proceed f = refl
handed_stays Running unborn = refl
handed_stays Running (living s) = refl
handed_stays Running (ended r s) = refl
handed_stays (Stop r) f = refl

handed_calm : (items : List Item) → is_refused (handed_by items) ≡ false
handed_calm [] = refl
handed_calm (i ∷ items) = refl

pub handed_unrefused : (n : Next) (f : Phase) → is_refused (handed_as n f) ≡ false
handed_unrefused (Wait k) unborn = refl
handed_unrefused (Wait k) (living s) = handed_calm s.waiting
handed_unrefused (Wait k) (ended r s) = refl
handed_unrefused (WaitUntil k at) f = refl
handed_unrefused Proceed f = refl
handed_unrefused Running unborn = refl
handed_unrefused Running (living s) = refl
handed_unrefused Running (ended r s) = refl
handed_unrefused (Stop r) f = refl

-- one that takes an item lives on, and does not go behind the queue, if it runs then
took_living : (p : Pid) (k : Pick) (i : Item) (f : Phase) → is_living f ≡ true → is_living (after p (Took p k i) f) ≡ true
took_living p k i unborn h = absurd (cc)
took_living p k i (living s) h = each_branch (λ (f : Phase). is_living f ≡ true) (touches p (Took p k i)) _ _ refl refl
took_living p k i (ended r s) h = absurd (cc)

taken_lives : (p : Pid) (n : Next) (item : Option Item) (d mid : ShardState) → ItemIsTaken p n item d mid → lives mid p ≡ true
taken_lives p n None d mid h = ap (λ (x : ShardState). lives x p) h.2 ∙ h.1
taken_lives p n (Some i) d mid h = ap (λ (x : ShardState). lives x p) h.4 ∙ took_living p h.0 i (phase_of d p) h.2

running_done : (f : Phase) → is_living f ≡ true → handed_as Running f ≡ Done
running_done unborn h = absurd (cc)
running_done (living s) h = refl
running_done (ended r s) h = absurd (cc)

-- one that has left does not live
leaves_dead : (r : Reason) (f : Phase) → is_living (leaves r f) ≡ false
leaves_dead r unborn = refl
leaves_dead r (living s) = refl
leaves_dead r (ended q s) = refl

left_dead : (p : Pid) (r : Reason) (d : ShardState) → lives (shard_after (Left p r) d) p ≡ false
left_dead p r d = ap (λ (b : Bool). is_living (cond b (leaves r (phase_of d p)) (phase_of d p))) (same_pid_refl p) ∙ leaves_dead r (phase_of d p)

-- the reason of one that did not live
dead_told : (alive : Bool) (n : Next) (noted lost : Option Reason) (p : Pid) (journal : List Stamped) → alive ≡ false → noted ≡ exit_in p journal
    → reason_told alive n (noted_reason noted lost) ≡ exit_reason p journal lost
dead_told true n noted lost p journal dead is = absurd (cc)
dead_told false n noted lost p journal dead is = ap (λ (o : Option Reason). noted_reason o lost) is

module _ (front : Option Next) (told : Option Job) (time : ℕ) (p : Pid) (b : Member) (n : Next) (front_is : front ≡ Some n) (d e : ShardState) (t : Tended) (now : Option (Member × Next)) (births : List (Role Member)) where
  hands_it : (item : Option Item) (mid : ShardState) → MayBeHanded time n item → ItemIsTaken p n item d mid → takes mid.journal ≡ item_handed p item ++ takes d.journal → HandsTo (told_answers front told time) p b item mid t now e births → MemberComes told time p b n births d t now e
  hands_it item mid may taken took h = go told refl h.answer
    where
      -- it is what it was to do that is told
      was_next : (before : Next) → front ≡ Some before → before ≡ n
      was_next before is = same_some before n (sym is ∙ front_is)

      -- a supervisor
      boss_by : told ≡ None → (o : Option (Supervisor Plan)) → b.boss ≡ o → AnswersBy o time b mid p item h.next h.behaviour e births → (x : Member) → TellsBy o p n item b None x → MemberComes told time p b n births d t now e
      boss_by silent None is a x tells = absurd (let bad = tells.0 in cc)
      boss_by silent (Some boss) is a x tells = inr (inl (record {
        silent = silent;
        item = item;
        boss = boss;
        inside = is;
        may = may;
        mid = mid;
        taken = taken;
        next = h.next;
        later = a.0;
        handles = a.2;
        now_is = h.now_is ∙ ap (λ (y : Member). Some (y, h.next)) a.1;
        takes = h.takes ∙ took;
        tended = h.tended;
      }))

      -- one whose handler is outside
      told_by : (job : Job) → told ≡ Some job → h.next ≡ Running → e ≡ mid → births ≡ [] → (o : Option (Supervisor Plan)) → b.boss ≡ o → TellsBy o p n item b (Some job) h.behaviour → MemberComes told time p b n births d t now e
      told_by job is runs same bare (Some boss) inside tells = absurd (let bad = tells.0 in cc)
      told_by job is runs same bare None inside tells = inl (record {
        item = item;
        outside = inside;
        may = may;
        taken = subst (λ (x : ShardState). ItemIsTaken p n item d x) (sym same) taken;
        says = is ∙ tells.0;
        now_is = h.now_is ∙ (λ j. Some (tells.1 j, runs j));
        takes = h.takes ∙ took;
        tended = h.tended ∙ ap (λ (k : Next). handed_as k (phase_of e p)) runs ∙ running_done (phase_of e p) (ap (λ (x : ShardState). lives x p) same ∙ taken_lives p n item d mid taken);
        bare = bare;
      })

      -- one of whom nothing is told stays the member that it was
      same_member : (o : Option (Supervisor Plan)) (before : Next) (x : Member) → TellsBy o p before item b None x → x ≡ b
      same_member None before x tells = absurd (let bad = tells.0 in cc)
      same_member (Some boss) before x tells = tells.1

      go : (o : Option Job) → told ≡ o → tells_or member_answers member_tells front o time b mid p item h.next h.behaviour e births → MemberComes told time p b n births d t now e
      go (Some job) is a =
          told_by job is a.3 a.4 a.5 b.boss refl (subst (λ (k : Next). TellsBy b.boss p k item b (Some job) h.behaviour) (was_next a.0 a.1) a.2)
      go None is a =
          boss_by is b.boss refl (subst (λ (x : Member). AnswersBy x.boss time x mid p item h.next h.behaviour e births) (same_member b.boss a.0 a.1 a.3) a.4.1)
          a.1 (subst (λ (k : Next). TellsBy b.boss p k item b None a.1) (was_next a.0 a.2) a.3)

  stays_so : (came : Tended) (mid : ShardState) → mid ≡ d → ((came ≡ Idle) × HasNothing time p n d) ⊎ (came ≡ Refused) → StaysAs came (b, n) mid t now e → MemberComes told time p b n births d t now e
  stays_so came mid same is h = inr (inr (inl (record {
    now_is = h.1;
    desk = h.2 ∙ same;
    tended = elim is [ inl k ↦ inl (h.0 ∙ k.0, k.1) | inr k ↦ inr (h.0 ∙ k) ];
  })))

  left_so : (mid : ShardState) → mid ≡ d → lives d p ≡ false → LeavesAs mid t now e → MemberComes told time p b n births d t now e
  left_so mid same dead h = inr (inr (inr (record {
    tended = h.0;
    now_is = h.1;
    takes = ap (λ (x : ShardState). takes x.journal) (h.2 ∙ same);
    exits = inl (dead, h.2 ∙ same);
    gone = ap (λ (x : ShardState). lives x p) (h.2 ∙ same) ∙ dead;
    reason = λ noted. dead_told (lives d p) n b.notes.ended b.notes.lost p d.journal dead noted ∙ ap (λ (x : ShardState). exit_reason p x.journal b.notes.lost) (sym (h.2 ∙ same));
  })))

  asked : (r : Reason) → n ≡ Stop r → (result : Result (Unit {0}) Fault) → Calls p (Some (Left p r)) (tt {0}) d result e → EndsAs (b, n) result t now → MemberComes told time p b n births d t now e
  asked r is (Ok x) calls ends = inr (inr (inr (record {
    tended = ends.0;
    now_is = ends.1;
    takes = left_takes p r d e (Ok x) calls;
    exits = inr (r, is, calls.0, calls.3);
    gone = ap (λ (x : ShardState). lives x p) calls.3 ∙ left_dead p r d;
    reason = λ noted.
        (λ j. reason_told (calls.0 j) (is j) (noted_reason b.notes.ended b.notes.lost))
        ∙ sym (ap (λ (o : Option Reason). noted_reason o b.notes.lost) (ap (λ (x : ShardState). exit_in p x.journal) calls.3 ∙ ap (λ c. cond c (Some r) (exit_in p d.journal)) (same_pid_refl p)));
  })))
  asked r is (Err Gone) calls ends = inr (inr (inr (record {
    tended = ends.0;
    now_is = ends.1;
    takes = left_takes p r d e (Err Gone) calls;
    exits = inl (calls.0, calls.1);
    gone = ap (λ (x : ShardState). lives x p) calls.1 ∙ calls.0;
    reason = λ noted. dead_told (lives d p) n b.notes.ended b.notes.lost p d.journal calls.0 noted ∙ ap (λ (x : ShardState). exit_reason p x.journal b.notes.lost) (sym calls.1);
  })))
  asked r is (Err Memory) calls ends = inr (inr (inl (record { now_is = ends.1; desk = calls.3; tended = inr ends.0 })))
  asked r is (Err Worn) calls ends = inr (inr (inl (record { now_is = ends.1; desk = calls.3; tended = inr ends.0 })))
  asked r is (Err Full) calls ends = absurd calls
  asked r is (Err Myself) calls ends = absurd calls
  asked r is (Err NoProc) calls ends = absurd calls

  none_left : (over : Bool) (mid : ShardState) → mid ≡ d → lives d p ≡ true → (over ≡ true → MayBeHanded time n None) → (over ≡ true → GoesOnWithout p n d) → (over ≡ false → HasNothing time p n d) → MatchBool over (HandsTo (told_answers front told time) p b None mid t now e births) (StaysAs Idle (b, n) mid t now e) → MemberComes told time p b n births d t now e
  none_left true mid same alive may without nothing h = hands_it None mid (may refl) (without refl, alive, same) (ap (λ (x : ShardState). takes x.journal) same) h
  none_left false mid same alive may without nothing h = stays_so Idle mid same (inl (refl, nothing refl)) h

  took : (k : Pick) (over : Bool) (result : Result (Option Item) Fault) (mid : ShardState) → pick_of n ≡ Some k → (over ≡ true → MayBeHanded time n None)
      → (over ≡ true → first_match d p k ≡ None → GoesOnWithout p n d) → (over ≡ false → lives d p ≡ true → first_match d p k ≡ None → HasNothing time p n d) → Calls p (take_event d p k) (first_match d p k) d result mid
      → TakesAs (told_answers front told time) p (b, n) over mid result t now e births → MemberComes told time p b n births d t now e
  took k over (Ok None) mid picks may without nothing calls h =
      none_left over mid (calls.3 ∙ ap (λ (o : Option Item). after_if (option_map (Took p k) o) d) (sym calls.2)) calls.0 may (λ is. without is (sym calls.2)) (λ is. nothing is calls.0 (sym calls.2)) h
  took k over (Ok (Some i)) mid picks may without nothing calls h =
      hands_it (Some i) mid (k, picks, found_fits (fits k) (state_in d p).waiting i calls.2)
      (k, picks, calls.0, sym calls.2, calls.3 ∙ ap (λ (o : Option Item). after_if (option_map (Took p k) o) d) (sym calls.2)) (one_taken p k i d mid calls) h
  took k over (Err Gone) mid picks may without nothing calls h = left_so mid calls.1 calls.0 h
  took k over (Err Memory) mid picks may without nothing calls h = stays_so Refused mid calls.3 (inr refl) h
  took k over (Err Worn) mid picks may without nothing calls h = stays_so Refused mid calls.3 (inr refl) h
  took k over (Err Full) mid picks may without nothing calls h = absurd calls
  took k over (Err Myself) mid picks may without nothing calls h = absurd calls
  took k over (Err NoProc) mid picks may without nothing calls h = absurd calls

  proceeds : (alive : Bool) → lives d p ≡ alive → n ≡ Proceed → MatchBool alive (HandsTo (told_answers front told time) p b None d t now e births) (LeavesAs d t now e) → MemberComes told time p b n births d t now e
  proceeds true is goes_on h = hands_it None d (inl goes_on) (inl goes_on, is, refl) refl h
  proceeds false is goes_on h = left_so d refl is h

  runs : (alive : Bool) → lives d p ≡ alive → (lives d p ≡ true → HasNothing time p n d) → MatchBool alive (StaysAs Idle (b, n) d t now e) (LeavesAs d t now e) → MemberComes told time p b n births d t now e
  runs true is nothing h = stays_so Idle d refl (inl (refl, nothing is)) h
  runs false is nothing h = left_so d refl is h

sees : (front : Option Next) (told : Option Job) (time : ℕ) (p : Pid) (b : Member) (n : Next) → front ≡ Some n → (d e : ShardState) (t : Tended) (now : Option (Member × Next)) (births : List (Role Member)) → SeesTo (told_answers front told) time p b n d t now e births → MemberComes told time p b n births d t now e
sees front told time p b (Stop r) is d e t now births h = asked front told time p b (Stop r) is d e t now births r refl h.0 h.1 h.2
sees front told time p b Proceed is d e t now births h = proceeds front told time p b Proceed is d e t now births (lives d p) refl refl h
sees front told time p b Running is d e t now births h = runs front told time p b Running is d e t now births (lives d p) refl (λ alive. alive) h
sees front told time p b (Wait k) is d e t now births h =
    took front told time p b (Wait k) is d e t now births k false h.0 h.1 refl (λ bad. absurd (cc)) (λ bad. absurd (cc)) (λ over alive none. (alive, none)) h.2 h.3
sees front told time p b (WaitUntil k at) is d e t now births h =
    took front told time p b (WaitUntil k at) is d e t now births k (nat_le at time) h.0 h.1 refl (λ over. inr (at, refl, leb-true at time over)) (λ over none. inr (k, refl, refl, none))
    (λ over alive none. (alive, none, leb-false at time over)) h.2 h.3

-- whoever is come to was handed something, or handled something, or has stayed, or has left
pub comes : (front : Option Next) (told : Option Job) (time : ℕ) (p : Pid) (b : Member) (n : Next) (o : Option (Member × Next)) (d e : ShardState) (t : Tended) (now : Option (Member × Next)) (births : List (Role Member))
    → front ≡ Some n → o ≡ Some (b, n) → ComesTo (told_answers front told) time p o d t now e births → MemberComes told time p b n births d t now e
comes front told time p b n o d e t now births front_is is h = go (subst (λ (x : Option (Member × Next)). ComesTo (told_answers front told) time p x d t now e births) is h)
  where
    go : StaysAs Refused (b, n) d t now e ⊎ SeesTo (told_answers front told) time p b n d t now e births → MemberComes told time p b n births d t now e
    go (inl k) = stays_so front told time p b n front_is d e t now births Refused d refl (inr refl) k
    go (inr k) = sees front told time p b n front_is d e t now births k
