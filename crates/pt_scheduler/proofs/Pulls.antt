-- What a pull does.
use Rattle.std.proofs.Common.{◌≡◌, ◌⊎◌, inl, inr, ℕ, ◌≤◌, Bool, true, false, cond, ◌||◌, List, [], ◌∷◌, ◌++◌, length, Option, Some, None, refl, sym, ap, subst, ◌∙◌, length-append, append-nil, arith}
use Rattle.std.specs.Prelude.{IfSome, is_some}
use Rattle.std.specs.Option.{option_map}
use Rattle.std.proofs.Math.Seq.{drop-append_seam}
use Rattle.pt_signal.specs.declared.pid.Pid.{Pid}
use Rattle.pt_signal.specs.declared.reason.Reason.{Reason}
use Rattle.pt_signal.specs.Values.{same_pid}
use Rattle.pt_signal.proofs.Same.{same_pid_is}
use Rattle.pt_events.specs.declared.event.Stamped.{Stamped}
use Rattle.pt_events.specs.History.{Past, is_unborn}
use Rattle.pt_shard.specs.ShardState.{ShardState, lives, phase_of}
use Rattle.pt_shard.specs.Extends.{Extends}
use Rattle.pt_behaviour.specs.declared.behaviour.Next.{Next}
use Rattle.pt_behaviour.specs.declared.behaviour.Next.TheVariants.{Running}
use Rattle.pt_behaviour.specs.declared.births.Role.{Role}
use Rattle.pt_crew.specs.declared.crew.Crew.{Crew}
use Rattle.pt_crew.specs.declared.crew.Tended.{Tended}
use Rattle.pt_crew.specs.declared.crew.Tended.TheVariants.{Idle, Again, Done, Refused, Gone as Ended}
use Rattle.pt_behaviour.specs.Births.{bore}
use Rattle.pt_behaviour.specs.Behaving.{Answers}
use Rattle.pt_crew.specs.Visiting.{AreSame, BearsChildren, VisitsOne, again_as, handed_as, is_refused, leaver, leaves_crew, left_as}
use Rattle.pt_crew.specs.Crews.{Attends, HasRoom, HasTimers, KnowsDesk, left, queue, role, roles, scene, time_of, waiting, was_refused}
use Rattle.pt_crew.specs.Waking.{in_queue}
use Rattle.pt_crew.specs.Stepping.{Serves, first_of, is_running}
use Rattle.pt_crew.specs.Outside.{BeginsToRun, next_in_front}
use Rattle.pt_crew.proofs.Upholding.{AreGone, one_upholds}
use Rattle.pt_behaviour.proofs.Cases.{some_none, by_cases, same_some}
use Rattle.pt_crew.proofs.Waking.{elsewhere, first_in}
use Rattle.pt_supervisor.specs.declared.supervisor.Supervisor.{Supervisor}
use Rattle.pt_supervisor.specs.Hearing.{standing}
use Rattle.pt_supervisor.specs.Keeping.{BearsFrom, HoldsAs, Keeps}
use Rattle.pt_supervisor.proofs.Bearing.{handles_bear}
use Rattle.pt_scheduler.specs.declared.member.Member.{Member}
use Rattle.pt_scheduler.specs.declared.member.What.TheVariants.{Exit}
use Rattle.pt_scheduler.specs.declared.member.Job.{Job}
use Rattle.pt_scheduler.specs.declared.plan.Plan.{Plan}
use Rattle.pt_scheduler.specs.declared.scheduler.Scheduler.{Scheduler}
use Rattle.pt_scheduler.specs.Exits.{exit_in}
use Rattle.pt_scheduler.specs.Planning.{starts_post}
use Rattle.pt_scheduler.specs.Members.{boss_part, job_of_exit}
use Rattle.pt_scheduler.specs.Scheduling.{AreUntold, HasNothing, SameViews, AreViewed, SchedulerAttends, MemberView, Pulls, PullsFirst, SchedulerUpholds, member_view, member_views}
use Rattle.pt_scheduler.specs.Taken.{DropsLeft, IsAllNoted}
use Rattle.pt_scheduler.proofs.Begins.{all_fresh}
use Rattle.pt_scheduler.proofs.Noting.{attends_dropped, attends_then, fresh_both, fresh_is}
use Rattle.pt_scheduler.proofs.Upheld.{told_upheld, upholds_seen}
use Rattle.pt_scheduler.proofs.Coming.{HasHandled, HasLeft, HasStayed, MemberComes, WasHanded, comes, handed_stays, handed_unrefused, told_answers}

split : (ps : List Pid) (p : Pid) → Some p ≡ first_of ps → (rest : List Pid) × (ps ≡ p ∷ rest)
split [] p is = absurd (cc)
split (q ∷ rest) p is = (rest, ap (λ (x : Pid). x ∷ rest) (sym (same_some p q is)))

empty_queue : (ps : List Pid) → None ≡ first_of ps → ps ≡ []
empty_queue [] is = refl
empty_queue (q ∷ rest) is = absurd (cc)

-- where nobody stands in the queue
pub pulls_none : (old new : Scheduler) (d : ShardState) (job : Option Job) → None ≡ first_of (queue old.crew) → job ≡ None → new ≡ old → Pulls old d job new d
pulls_none old new d job none is same =
    let bare = empty_queue (queue old.crew) none in
    subst (λ (ps : List Pid). PullsFirst ps old d job new d) (sym bare)
    (is, same, refl)

no_more : {X : Type 0} (more seen : List X) (n : ℕ) → length (more ++ seen) ≤ n → length seen ≡ n → more ≡ []
no_more [] seen n h c = refl
no_more (x ∷ more) seen n h c = absurd (omega (arith, h, c, length-append (x ∷ more) seen))

one_left : {X : Type 0} (xs : List X) (x y : X) → xs ++ x ∷ [] ≡ y ∷ [] → (xs ≡ []) × (x ≡ y)
one_left [] x y is = let e : x ≡ y = cc in (refl, e)
one_left (z ∷ xs) x y is = let l = ap length is in let a = length-append xs (x ∷ []) in absurd (omega (arith, l, a))

none_left : {X : Type 0} (xs : List X) (x : X) → xs ++ x ∷ [] ≡ [] → ⊥
none_left [] x is = cc
none_left (z ∷ xs) x is = cc

or_true : (a b : Bool) → b ≡ true → (a || b) ≡ true
or_true true b is = refl
or_true false b is = is

or_false : (a b : Bool) → b ≡ false → (a || b) ≡ a
or_false true b is = refl
or_false false b is = is

not_left : (p : Pid) (o : Option (Member × Next)) (t : Tended) → leaves_crew t ≡ false → left_as p o t ≡ []
not_left p o t is = ap (λ c. cond c (leaver p o) []) is

abbrev exit_job : Pid → ℕ → Next → Reason → Job
exit_job p tag next r = record { pid = p; tag = tag; what = Exit r next }

-- all exits were noted, of a scheduler that has nobody who left
pub record IsReady (old : Scheduler) (d : ShardState) (noted : Scheduler) : Type 0 where
  pub attends : SchedulerAttends noted d
  pub all : length d.journal ≤ noted.read
  pub views : SameViews old noted
  pub queue : queue noted.crew ≡ queue old.crew
  pub time : time_of noted.crew ≡ time_of old.crew
  pub waiting : waiting noted.crew ≡ waiting old.crew
  pub refused : was_refused noted.crew ≡ was_refused old.crew
  pub left : left noted.crew ≡ []

pub is_ready : (old mid noted : Scheduler) (d : ShardState) → DropsLeft old mid → IsAllNoted mid d noted → IsReady old d noted
is_ready old mid noted d s n = record {
  attends = n.attends;
  all = n.all;
  views = λ q. n.views q ∙ ap (option_map member_view) (s.roles q);
  queue = n.queue ∙ s.queue;
  time = n.rest.time ∙ s.time;
  waiting = n.rest.waiting ∙ s.waiting;
  refused = n.rest.refused ∙ s.refused;
  left = n.rest.left ∙ s.left;
}

-- p stood in front of the queue, and was come to once all exits were noted
pub record MemberVisit (told : Option Job) (old noted : Scheduler) (d e : ShardState) (run : Crew Member) (p : Pid) : Type 0 where
  pub rest : List Pid
  pub was_queue : queue old.crew ≡ p ∷ rest
  pub member : Member
  pub next : Next
  pub role : roles noted.crew p ≡ Some (member, next)
  pub back : List Pid
  pub front : Option Next
  pub visits : VisitsOne (told_answers front told) p (scene [] noted.crew d) (scene back run e)
  pub now_queue : queue run ≡ rest ++ back
  pub comes : MemberComes told (time_of old.crew) p member next (bore (waiting noted.crew) (waiting run)) d visits.tended (roles run p) e
  pub note : IsReady old d noted
  pub later : Extends d e
  pub aboard : Attends run e
  pub begins : is_some told ≡ true → (is_running (roles noted.crew p) ≡ false) × (is_running (roles run p) ≡ true)

-- what is told of who is in front
abbrev pub served : Option Job → Scheduler → Answers Member
served told noted = told_answers (next_in_front (queue noted.crew) (roles noted.crew)) told

pub visit : (told : Option Job) (old noted : Scheduler) (d e : ShardState) (run : Crew Member) (p : Pid) → IsReady old d noted → Some p ≡ first_of (queue old.crew)
    → Serves (served told noted) (queue noted.crew) noted.crew d run e → Extends d e → Attends run e → IfSome told (λ job. BeginsToRun (queue noted.crew) (roles noted.crew) (roles run)) → MemberVisit told old noted d e run p
visit told old noted d e run p note first serves later aboard begins =
    let s = split (queue old.crew) p first in
    let stands : queue noted.crew ≡ p ∷ s.0 = note.queue ∙ s.1 in
    let front : Option Next = next_in_front (queue noted.crew) (roles noted.crew) in
    let v = subst (λ (ps : List Pid). Serves (told_answers front told) ps noted.crew d run e) stands serves in
    let m = note.attends.crew.knows.queued.marked p (ap (in_queue p) stands ∙ first_in p s.0) in
    let has : roles noted.crew p ≡ Some (m.0.behaviour, m.0.next) = ap (option_map role) m.1 in
    let front_is : front ≡ Some m.0.next = ap (λ (ps : List Pid). next_in_front ps (roles noted.crew)) stands ∙ ap (option_map (λ (r : Member × Next). r.1)) has in
    record {
      rest = s.0;
      was_queue = s.1;
      member = m.0.behaviour;
      next = m.0.next;
      role = has;
      back = v.0;
      front = front;
      visits = v.1;
      now_queue = v.2;
      comes = subst (λ (n : ℕ). MemberComes told n p m.0.behaviour m.0.next (bore (waiting noted.crew) (waiting run)) d v.1.tended (roles run p) e) note.time
          (comes front told (time_of noted.crew) p m.0.behaviour m.0.next (roles noted.crew p) d e v.1.tended (roles run p) (bore (waiting noted.crew) (waiting run)) front_is has v.1.comes);
      note = note;
      later = later;
      aboard = aboard;
      begins = λ some. subst (λ (ps : List Pid). BeginsToRun ps (roles noted.crew) (roles run)) stands (begun told some begins);
    }
  where
    begun : {P : Type 0} (o : Option Job) → is_some o ≡ true → IfSome o (λ job. P) → P
    begun None some h = absurd (cc)
    begun (Some job) some h = h

-- so it is after the calls of a pull
pub visited : (told : Option Job) (old dropped noted : Scheduler) (d e : ShardState) (run : Crew Member) (p : Pid) → SchedulerAttends old d → DropsLeft old dropped → (SchedulerAttends dropped d → IsAllNoted dropped d noted) → Some p ≡ first_of (queue old.crew)
    → Serves (served told noted) (queue noted.crew) noted.crew d run e → Extends d e → (KnowsDesk noted.crew d → KnowsDesk run e) → (HasRoom noted.crew → HasRoom run) → (KnowsDesk noted.crew d → HasTimers noted.crew → HasTimers run)
    → IfSome told (λ job. BeginsToRun (queue noted.crew) (roles noted.crew) (roles run)) → MemberVisit told old noted d e run p
visited told old dropped noted d e run p a drops notes first serves later knows room timers begins =
    let ready = is_ready old dropped noted d drops (notes (attends_dropped old dropped d a drops)) in
    let k = ready.attends.crew in
    visit told old noted d e run p ready first serves later (record { knows = knows k.knows; room = room k.room; timers = timers k.knows k.timers }) begins

-- those who wait grow at the end
pub grown : (t : Tended) (old new : List (Role Member)) → BearsChildren t old new → (more : List (Role Member)) × (new ≡ old ++ more)
grown Again old new h = h
grown Done old new h = h
grown Idle old new h = ([], h ∙ sym (append-nil old))
grown Refused old new h = ([], h ∙ sym (append-nil old))
grown Ended old new h = ([], h ∙ sym (append-nil old))

module _ (told : Option Job) (old noted : Scheduler) (d e : ShardState) (run : Crew Member) (p : Pid) (w : MemberVisit told old noted d e run p) where
  was_view : member_views old p ≡ Some (member_view (w.member, w.next))
  was_view = sym (w.note.views p) ∙ ap (option_map member_view) w.role

  left_now : left run ≡ left_as p (Some (w.member, w.next)) w.visits.tended
  left_now = w.visits.left ∙ ap (λ (l : List (Role Member)). l ++ left_as p (roles noted.crew p) w.visits.tended) w.note.left ∙ ap (λ (o : Option (Member × Next)). left_as p o w.visits.tended) w.role

  ended_is : w.member.notes.ended ≡ exit_in p d.journal
  ended_is =
      let k = w.note.attends.noted in
      let all : k.more ≡ [] = no_more k.more k.seen noted.read (let l = ap length k.journal in let n = w.note.all in omega (arith, l, n)) k.counted in
      k.ends p w.member w.next w.role ∙ ap (exit_in p) (sym (k.journal ∙ ap (λ (xs : List Stamped). xs ++ k.seen) all))

  elsewhere_role : (q : Pid) → same_pid p q ≡ false → roles run q ≡ roles noted.crew q
  elsewhere_role q other = elsewhere (roles noted.crew) (roles run) p (roles run p) w.visits.others q other

  -- whoever is another is seen as before
  other_view : (new : Scheduler) → ((q : Pid) → same_pid p q ≡ false → roles new.crew q ≡ roles run q) → (q : Pid) → same_pid p q ≡ false → member_views new q ≡ member_views old q
  other_view new others q other = ap (option_map member_view) (others q other ∙ elsewhere_role q other) ∙ w.note.views q

  -- and is as it was noted
  other_of : (new : Scheduler) → ((q : Pid) → same_pid p q ≡ false → roles new.crew q ≡ roles run q) → (q : Pid) (b : Member) (n : Next) → same_pid p q ≡ false → roles new.crew q ≡ Some (b, n)
      → (was : Member) × (m : Next) × (roles noted.crew q ≡ Some (was, m)) × (b.notes.ended ≡ was.notes.ended)
  other_of new others q b n other is =
      let was : roles noted.crew q ≡ Some (b, n) = sym (others q other ∙ elsewhere_role q other) ∙ is in
      (b, n, was, refl)

  viewed : (new : Scheduler) (v : Option MemberView) → ((q : Pid) → same_pid p q ≡ false → roles new.crew q ≡ roles run q) → member_views new p ≡ v → AreViewed p v old new
  viewed new v others here q = by_cases (same_pid p q)
      (λ same. ap (member_views new) (sym (same_pid_is p q same)) ∙ here ∙ sym (ap (λ c. cond c v (member_views old q)) same))
      (λ other. other_view new others q other ∙ sym (ap (λ c. cond c v (member_views old q)) other))

  -- who waits now is fresh: whom a supervisor bore, or nobody
  more : (m : List (Role Member)) × (waiting run ≡ waiting noted.crew ++ m)
  more = grown w.visits.tended (waiting noted.crew) (waiting run) w.visits.born

  bore_is : bore (waiting noted.crew) (waiting run) ≡ more.0
  bore_is = ap (bore (waiting noted.crew)) more.1 ∙ drop-append_seam (waiting noted.crew) more.0

  no_births : (s : Tended) → w.visits.tended ≡ s → (BearsChildren s (waiting noted.crew) (waiting run) → waiting run ≡ waiting noted.crew) → waiting run ≡ waiting noted.crew
  no_births s is same = same (subst (λ (x : Tended). BearsChildren x (waiting noted.crew) (waiting run)) is w.visits.born)

  bare_waits : bore (waiting noted.crew) (waiting run) ≡ [] → waiting run ≡ waiting noted.crew
  bare_waits bare = more.1 ∙ ap (λ (l : List (Role Member)). waiting noted.crew ++ l) (sym bore_is ∙ bare) ∙ append-nil (waiting noted.crew)

  -- who is in the queue then, and whether a call was refused
  queue_as : (s : Tended) → w.visits.tended ≡ s → queue run ≡ w.rest ++ again_as p s
  queue_as s is = w.now_queue ∙ ap (λ (l : List Pid). w.rest ++ l) (w.visits.again ∙ ap (again_as p) is)

  queue_rest : (s : Tended) → w.visits.tended ≡ s → again_as p s ≡ [] → queue run ≡ w.rest
  queue_rest s is none = queue_as s is ∙ ap (λ (l : List Pid). w.rest ++ l) none ∙ append-nil w.rest

  unrefused : (s : Tended) → w.visits.tended ≡ s → is_refused s ≡ false → was_refused run ≡ was_refused old.crew
  unrefused s is calm = w.visits.refused ∙ or_false (was_refused noted.crew) (is_refused w.visits.tended) (ap is_refused is ∙ calm) ∙ w.note.refused

  now_fresh : AreUntold (waiting run)
  now_fresh = elim w.comes [
    | inl h ↦ fresh_is (waiting noted.crew) (waiting run) (bare_waits h.bare) w.note.attends.fresh
    | inr k ↦ elim k [
      | inl h ↦ subst AreUntold (sym more.1) (fresh_both (waiting noted.crew) more.0 w.note.attends.fresh (subst AreUntold bore_is (born_fresh h)))
      | inr j ↦ elim j [
        | inl h ↦ elim h.tended [
          | inl is ↦ fresh_is (waiting noted.crew) (waiting run) (no_births Idle is.0 (λ x. x)) w.note.attends.fresh
          | inr is ↦ fresh_is (waiting noted.crew) (waiting run) (no_births Refused is (λ x. x)) w.note.attends.fresh
        ]
        | inr h ↦ fresh_is (waiting noted.crew) (waiting run) (no_births Ended h.tended (λ x. x)) w.note.attends.fresh
      ]
    ]
  ]
    where
      born_fresh : HasHandled told (time_of old.crew) p w.member w.next (bore (waiting noted.crew) (waiting run)) d w.visits.tended (roles run p) e → AreUntold (bore (waiting noted.crew) (waiting run))
      born_fresh h =
          let k = h.handles in
          let b : BearsFrom starts_post p k.waited (k.waited ++ bore (waiting noted.crew) (waiting run)) = handles_bear starts_post p (time_of old.crew) h.item _ h.next _ k.handles in
          let same : bore (waiting noted.crew) (waiting run) ≡ b.0 =
          sym (drop-append_seam k.waited (bore (waiting noted.crew) (waiting run))) ∙ ap (bore k.waited) b.1 ∙ drop-append_seam k.waited b.0 in
          subst AreUntold (sym same) (all_fresh p b.0 b.2)

  -- one has left -------------------------------------------------------------------------------

  module _ (gone : Role Member) (new : Scheduler) (lefts : left run ≡ left new.crew ++ gone ∷ []) (same : AreSame (roles run) (roles new.crew)) (stands : queue new.crew ≡ queue run) (refused : was_refused new.crew ≡ was_refused run) (waits : waiting new.crew ≡ waiting run) where
    none_stays : {X : Type 0} → leaves_crew w.visits.tended ≡ false → X
    none_stays is = absurd (none_left (left new.crew) gone (sym lefts ∙ left_now ∙ not_left p (Some (w.member, w.next)) w.visits.tended is))

    pub has_left : HasLeft told (time_of old.crew) p w.member w.next (bore (waiting noted.crew) (waiting run)) d w.visits.tended (roles run p) e
    has_left = elim w.comes [
      | inl h ↦ none_stays (ap leaves_crew h.tended)
      | inr k ↦ elim k [
        | inl h ↦ none_stays (ap leaves_crew h.tended ∙ handed_stays h.next (phase_of e p))
        | inr j ↦ elim j [
          | inl h ↦ elim h.tended [ inl is ↦ none_stays (ap leaves_crew is.0) | inr is ↦ none_stays (ap leaves_crew is) ]
          | inr h ↦ h
        ]
      ]
    ]

    it_is : (left new.crew ≡ []) × (gone ≡ record { pid = p; behaviour = w.member; next = w.next })
    it_is = one_left (left new.crew) gone _ (sym lefts ∙ left_now ∙ ap (left_as p (Some (w.member, w.next))) has_left.tended)

    out : roles new.crew p ≡ None
    out = same p ∙ has_left.now_is

    pub left_is : left run ≡ (record { pid = p; behaviour = w.member; next = w.next }) ∷ []
    left_is = left_now ∙ ap (left_as p (Some (w.member, w.next))) has_left.tended

    -- it stands so still
    gone_stands : (past : Past) → SchedulerUpholds past old d → (is_unborn (phase_of e p) ≡ false) × HoldsAs past (boss_part w.member) w.next p e
    gone_stands past u =
        let n = upholds_seen past old noted d w.note.views w.note.waiting u in
        let f = one_upholds (told_answers w.front told) (Keeps past boss_part) (told_upheld past w.front told) p (scene [] noted.crew d) (scene w.back run e) w.visits
        (record { members = n.members; waiting = n.waiting; left = none_gone past (left noted.crew) w.note.left }) in
        let g = subst (λ (rs : List (Role Member)). AreGone (told_answers w.front told) (Keeps past boss_part) (told_upheld past w.front told) (roles run) rs e) left_is f.left in
        (g.0.1, g.0.2)
      where
        none_gone : (past : Past) (rs : List (Role Member)) → rs ≡ [] → AreGone (told_answers w.front told) (Keeps past boss_part) (told_upheld past w.front told) (roles noted.crew) rs d
        none_gone past rs is = subst (λ (xs : List (Role Member)). AreGone (told_answers w.front told) (Keeps past boss_part) (told_upheld past w.front told) (roles noted.crew) xs d) (sym is) tt

    pub pulls_exit : (alive : Bool) → alive ≡ lives d p → Pulls old d (Some (job_of_exit alive gone)) new e
    pulls_exit alive lives_is = subst (λ (ps : List Pid). PullsFirst ps old d (Some (job_of_exit alive gone)) new e) (sym w.was_queue) (
      inr (record {
        view = member_view (w.member, w.next);
        was = was_view;
        says = (λ j. job_of_exit (lives_is j) (it_is.1 j)) ∙ ap (exit_job p w.member.tag w.next) (has_left.reason ended_is);
        now = viewed new None (λ q other. same q) (ap (option_map member_view) out);
        exits = has_left.exits;
        gone = has_left.gone;
        takes = has_left.takes;
        stands = λ past u b is.
            let k = gone_stands past u in inl (k.0, subst (λ (o : Option (Supervisor Plan)). HoldsAs past (option_map standing o) w.next p e) (sym is) k.1);
      }),
      stands ∙ queue_rest Ended has_left.tended refl,
      (waits ∙ no_births Ended has_left.tended (λ x. x) ∙ w.note.waiting, refused ∙ unrefused Ended has_left.tended refl),
    )

    pub attends_exit : Attends new.crew e → new.read ≡ noted.read → SchedulerAttends new e
    attends_exit crew reads = attends_then noted new d e w.note.attends w.later crew (fresh_is (waiting run) (waiting new.crew) waits now_fresh) reads
        (λ q b n is. by_cases (same_pid p q)
        (λ it. some_none (roles new.crew q) (b, n) (ap (roles new.crew) (sym (same_pid_is p q it)) ∙ out) is)
        (λ other. other_of new (λ x o. same x) q b n other is))

  -- the outside was told -------------------------------------------------------------------------

  module _ (job : Job) (is : told ≡ Some job) (new : Scheduler) (its_crew : new.crew ≡ run) where
    some_told : {X : Type 0} → told ≡ None → X
    some_told none = absurd (let bad : Some job ≡ None = sym is ∙ none in cc)

    begins_now : (is_running (roles noted.crew p) ≡ false) × (is_running (roles run p) ≡ true)
    begins_now = w.begins (ap is_some is)

    still_not : {X : Type 0} → roles run p ≡ Some (w.member, w.next) → X
    still_not same = absurd (let b = begins_now in let bad : false ≡ true = sym b.0 ∙ ap is_running (w.role ∙ sym same) ∙ b.1 in cc)

    gone_not : {X : Type 0} → roles run p ≡ None → X
    gone_not none = absurd (let b = begins_now in let bad : false ≡ true = ap is_running (sym none) ∙ b.1 in cc)

    pub was_handed : WasHanded told (time_of old.crew) p w.member w.next (bore (waiting noted.crew) (waiting run)) d w.visits.tended (roles run p) e
    was_handed = elim w.comes [ inl h ↦ h | inr k ↦ elim k [ inl h ↦ some_told h.silent | inr j ↦ elim j [ inl h ↦ still_not h.now_is | inr h ↦ gone_not h.now_is ] ] ]

    abbrev told_member : Member
    told_member = record w.member { notes = record (w.member.notes) { begun = true } }

    others : (q : Pid) → same_pid p q ≡ false → roles new.crew q ≡ roles run q
    others q other = ap (λ (c : Crew Member). roles c q) its_crew

    here : roles new.crew p ≡ Some (told_member, Running)
    here = ap (λ (c : Crew Member). roles c p) its_crew ∙ was_handed.now_is

    pub pulls_told : Pulls old d (Some job) new e
    pulls_told = subst (λ (ps : List Pid). PullsFirst ps old d (Some job) new e) (sym w.was_queue) (
      inl (record {
        view = member_view (w.member, w.next);
        was = was_view;
        outside = was_handed.outside;
        item = was_handed.item;
        may = was_handed.may;
        says = same_some job _ (sym is ∙ was_handed.says);
        taken = was_handed.taken;
        now = viewed new (Some (record (member_view (w.member, w.next)) { begun = true; next = Running })) others (ap (option_map member_view) here);
        takes = was_handed.takes;
      }),
      ap queue its_crew ∙ queue_rest Done was_handed.tended refl,
      (ap waiting its_crew ∙ bare_waits was_handed.bare ∙ w.note.waiting, ap was_refused its_crew ∙ unrefused Done was_handed.tended refl),
    )

    pub attends_told : new.read ≡ noted.read → SchedulerAttends new e
    attends_told reads =
        attends_then noted new d e w.note.attends w.later (subst (λ (c : Crew Member). Attends c e) (sym its_crew) w.aboard) (fresh_is (waiting run) (waiting new.crew) (ap waiting its_crew) now_fresh) reads
        (λ q b n at. by_cases (same_pid p q)
        (λ it.
        let was : roles noted.crew q ≡ Some (w.member, w.next) = ap (roles noted.crew) (sym (same_pid_is p q it)) ∙ w.role in
        let b_is : told_member ≡ b = ap (λ (r : Member × Next). r.0) (same_some _ (b, n) (sym here ∙ ap (roles new.crew) (same_pid_is p q it) ∙ at)) in
        (w.member, w.next, was, ap (λ (x : Member). x.notes.ended) (sym b_is)))
        (λ other. other_of new others q b n other at))

  -- nothing was told, and nobody has left ------------------------------------------------------------

  module _ (new : Scheduler) (none : told ≡ None) (nobody : left run ≡ []) (same : AreSame (roles run) (roles new.crew)) (stands : queue new.crew ≡ queue run) (refused : was_refused new.crew ≡ was_refused run) (waits : waiting new.crew ≡ waiting run) where
    told_not : {X : Type 0} → WasHanded told (time_of old.crew) p w.member w.next (bore (waiting noted.crew) (waiting run)) d w.visits.tended (roles run p) e → X
    told_not h = absurd (let bad = sym none ∙ h.says in cc)

    -- a supervisor
    module _ (h : HasHandled told (time_of old.crew) p w.member w.next (bore (waiting noted.crew) (waiting run)) d w.visits.tended (roles run p) e) where
      abbrev later_member : Member
      later_member = record w.member { boss = Some h.later }

      new_here : roles new.crew p ≡ Some (later_member, h.next)
      new_here = same p ∙ h.now_is

      pulls_boss : Pulls old d None new e
      pulls_boss = subst (λ (ps : List Pid). PullsFirst ps old d None new e) (sym w.was_queue) (inl (record {
        view = member_view (w.member, w.next);
        was = was_view;
        boss = h.boss;
        inside = h.inside;
        item = h.item;
        may = h.may;
        mid = h.mid;
        taken = h.taken;
        next = h.next;
        later = h.later;
        births = bore (waiting noted.crew) (waiting run);
        handles = h.handles;
        now = viewed new (Some (record (member_view (w.member, w.next)) { next = h.next; boss = Some h.later })) (λ q other. same q) (ap (option_map member_view) new_here);
        born = waits ∙ more.1 ∙ (λ j. w.note.waiting j ++ sym bore_is j);
        takes = h.takes;
        queue = stands ∙ queue_as (handed_as h.next (phase_of e p)) h.tended;
        refused = refused ∙ unrefused (handed_as h.next (phase_of e p)) h.tended (handed_unrefused h.next (phase_of e p));
      }))

      attends_boss : Attends new.crew e → new.read ≡ noted.read → SchedulerAttends new e
      attends_boss crew reads =
          attends_then noted new d e w.note.attends w.later crew (fresh_is (waiting run) (waiting new.crew) waits now_fresh) reads
          (λ q b n is. by_cases (same_pid p q)
          (λ it.
          let was : roles noted.crew q ≡ Some (w.member, w.next) = ap (roles noted.crew) (sym (same_pid_is p q it)) ∙ w.role in
          let b_is : later_member ≡ b = ap (λ (r : Member × Next). r.0) (same_some _ (b, n) (sym new_here ∙ ap (roles new.crew) (same_pid_is p q it) ∙ is)) in
          (w.member, w.next, was, ap (λ (x : Member). x.notes.ended) (sym b_is)))
          (λ other. other_of new (λ x o. same x) q b n other is))

    -- nothing was done
    module _ (h : HasStayed told (time_of old.crew) p w.member w.next (bore (waiting noted.crew) (waiting run)) d w.visits.tended (roles run p) e) where
      all_same : (q : Pid) → roles new.crew q ≡ roles noted.crew q
      all_same q = same q ∙ by_cases (same_pid p q)
          (λ it. ap (roles run) (sym (same_pid_is p q it)) ∙ h.now_is ∙ sym w.role ∙ ap (roles noted.crew) (same_pid_is p q it))
          (λ other. elsewhere_role q other)

      none_comes : ((w.visits.tended ≡ Idle) × HasNothing (time_of old.crew) p w.next d) ⊎ (w.visits.tended ≡ Refused) → waiting run ≡ waiting noted.crew
      none_comes (inl is) = no_births Idle is.0 (λ x. x)
      none_comes (inr is) = no_births Refused is (λ x. x)

      puts : ((w.visits.tended ≡ Idle) × HasNothing (time_of old.crew) p w.next d) ⊎ (w.visits.tended ≡ Refused)
          → (HasNothing (time_of old.crew) p w.next d × (queue new.crew ≡ w.rest) × (was_refused new.crew ≡ was_refused old.crew))
          ⊎ ((queue new.crew ≡ w.rest ++ p ∷ []) × (was_refused new.crew ≡ true))
      puts (inl is) = inl (is.1, stands ∙ queue_rest Idle is.0 refl, refused ∙ unrefused Idle is.0 refl)
      puts (inr is) = inr (
        stands ∙ queue_as Refused is,
        refused ∙ w.visits.refused ∙ or_true (was_refused noted.crew) (is_refused w.visits.tended) (ap is_refused is),
      )

      pulls_nothing : Pulls old d None new e
      pulls_nothing = subst (λ (ps : List Pid). PullsFirst ps old d None new e) (sym w.was_queue) (inr (record {
        view = member_view (w.member, w.next);
        was = was_view;
        views = λ q. ap (option_map member_view) (all_same q) ∙ w.note.views q;
        desk = h.desk;
        waits = waits ∙ none_comes h.tended ∙ w.note.waiting;
        queue = puts h.tended;
      }))

      attends_nothing : Attends new.crew e → new.read ≡ noted.read → SchedulerAttends new e
      attends_nothing crew reads =
          attends_then noted new d e w.note.attends w.later crew (fresh_is (waiting run) (waiting new.crew) waits now_fresh) reads
          (λ q b n is. let was : roles noted.crew q ≡ Some (b, n) = sym (all_same q) ∙ is in (b, n, was, refl))

    left_not : {X : Type 0} → HasLeft told (time_of old.crew) p w.member w.next (bore (waiting noted.crew) (waiting run)) d w.visits.tended (roles run p) e → X
    left_not h = absurd (let bad : [] ≡ left_as p (Some (w.member, w.next)) Ended = sym nobody ∙ left_now ∙ ap (left_as p (Some (w.member, w.next))) h.tended in cc)

    pub pulls_none_told : Pulls old d None new e
    pulls_none_told = elim w.comes [ inl h ↦ told_not h | inr k ↦ elim k [ inl h ↦ pulls_boss h | inr j ↦ elim j [ inl h ↦ pulls_nothing h | inr h ↦ left_not h ] ] ]

    pub attends_none_told : Attends new.crew e → new.read ≡ noted.read → SchedulerAttends new e
    attends_none_told crew reads = elim w.comes [ inl h ↦ told_not h | inr k ↦ elim k [ inl h ↦ attends_boss h crew reads | inr j ↦ elim j [ inl h ↦ attends_nothing h crew reads | inr h ↦ left_not h ] ] ]
