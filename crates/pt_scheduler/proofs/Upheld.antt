-- What the supervisors of a scheduler uphold stays so.
use Rattle.std.proofs.Common.{◌≡◌, ◌⊎◌, inl, inr, ℕ, Bool, true, false, cond, ◌||◌, List, [], ◌∷◌, ◌++◌, map, slice_get, Option, Some, None, Result, Ok, Err, refl, sym, ap, subst, ◌∙◌}
use Rattle.std.specs.Prelude.{MatchBool, IfOk, OnErr}
use Rattle.std.specs.Option.{option_map}
use Rattle.std.proofs.lemmas.Option.{slice_get-map}
use Rattle.pt_signal.specs.declared.pid.Pid.{Pid}
use Rattle.pt_signal.specs.declared.ids.LinkId.{LinkId}
use Rattle.pt_signal.specs.declared.item.Item.{Item}
use Rattle.pt_signal.specs.declared.reason.Reason.{Reason}
use Rattle.pt_signal.specs.Values.{same_pid}
use Rattle.pt_signal.proofs.Same.{same_pid_is}
use Rattle.pt_events.specs.declared.event.Event.TheVariants.{Born}
use Rattle.pt_events.specs.History.{Past, is_unborn}
use Rattle.pt_shard.specs.declared.fault.Fault.{Fault}
use Rattle.pt_shard.specs.declared.fault.Fault.TheVariants.{Full, Memory, Worn, Gone, Myself, NoProc}
use Rattle.pt_shard.specs.ShardState.{ShardState, phase_of, shard_after}
use Rattle.pt_shard.specs.Calls.{BearsChild, birth_link}
use Rattle.pt_desk.specs.DeskState.{DeskState}
use Rattle.pt_desk.specs.Turns.{Turns}
use Rattle.pt_desk.specs.declared.turned.Turned.{Turned}
use Rattle.pt_behaviour.specs.declared.behaviour.Next.{Next}
use Rattle.pt_behaviour.specs.declared.behaviour.Next.TheVariants.{Running, Proceed}
use Rattle.pt_behaviour.specs.declared.births.Role.{Role}
use Rattle.pt_crew.specs.declared.crew.Crew.{Crew}
use Rattle.pt_crew.specs.Visiting.{AreSame, AreWith, Roles}
use Rattle.pt_crew.specs.Crews.{Enters, IsSame, left, queue, role, roles, scene, waiting}
use Rattle.pt_crew.specs.Stepping.{EndsStep, EntersChild, IsAnswered, Serves}
use Rattle.pt_behaviour.specs.Upholding.{AllFirst, IsLater, IsLeftAlone, IsUpheld}
use Rattle.pt_crew.specs.Upholding.{AllStand, Upholds}
use Rattle.pt_behaviour.proofs.Upholding.{acts_is, alone_event, alone_same, alone_then, born_then, first_back, first_front, later_after, later_same, later_then, same_pid_sym}
use Rattle.pt_crew.proofs.Upholding.{AreGone, all_enter, enter_upholds, one_upholds, turn_upholds}
use Rattle.pt_behaviour.proofs.Cases.{by_cases, same_some}
use Rattle.pt_crew.proofs.Waking.{elsewhere, there}
use Rattle.pt_events.specs.declared.event.Stamped.{Stamped}
use Rattle.pt_children.specs.declared.children.Child.{Child}
use Rattle.pt_supervisor.specs.declared.supervisor.Supervisor.{Supervisor}
use Rattle.pt_children.specs.Children.{NoneLives}
use Rattle.pt_children.specs.Hearing.{Standing}
use Rattle.pt_supervisor.specs.Hearing.{standing}
use Rattle.pt_supervisor.specs.Keeping.{ActsAs, AllBegin, AnswerAs, HoldsAs, Keeps, SupervisorBegins}
use Rattle.pt_supervisor.proofs.Tending.{begins, upheld}
use Rattle.pt_scheduler.specs.Exits.{exit_in}
use Rattle.pt_scheduler.specs.declared.member.Member.{Member}
use Rattle.pt_scheduler.specs.declared.member.Job.{Job}
use Rattle.pt_children.specs.declared.spec.ChildSpec.{ChildSpec}
use Rattle.pt_scheduler.specs.declared.plan.Plan.{Plan}
use Rattle.pt_children.specs.declared.spec.SupervisorSpec.{SupervisorSpec}
use Rattle.pt_scheduler.specs.declared.scheduler.Scheduler.{Scheduler}
use Rattle.pt_children.specs.Specifying.{child_as}
use Rattle.pt_scheduler.specs.Members.{TellsBy, boss_part, member_answers}
use Rattle.pt_scheduler.specs.Scheduling.{AreLeftAlone, SameViews, SchedulerAttends, BecomesBoss, IsNewBoss, IsNoBoss, MemberView, NotesLost, SchedulerUpholds, member_view, member_views}
use Rattle.pt_scheduler.specs.Taken.{DropsLeft, IsAllNoted, KeepsExits, member_role_kept}
use Rattle.pt_scheduler.proofs.Coming.{told_answers}
use Rattle.pt_scheduler.proofs.Noting.{attends_dropped}

module _ (past : Past) where
  abbrev pub holds : Member → Next → Pid → ShardState → Type 0
  holds = Keeps past boss_part

  pub boss_upheld : IsUpheld member_answers (Keeps past boss_part)
  boss_upheld = upheld past boss_part member_answers (λ time b d me item next now e births h. h.0)

  -- so it is if the outside is told
  outside_as : (time : ℕ) (b : Member) (d : ShardState) (p : Pid) (item : Option Item) (now : Member) (e : ShardState) (births : List (Role Member)) (before : Next) (job : Job) (o : Option (Supervisor Plan))
      → b.boss ≡ o → TellsBy o p before item b (Some job) now → e ≡ d → births ≡ [] → AnswerAs boss_part time b d p item Running now e births
  outside_as time b d p item now e births before job (Some boss) is tells same bare = absurd (let bad = tells.0 in cc)
  outside_as time b d p item now e births before job None is tells same bare = (
    subst (λ (o : Option Standing). ActsAs o p item d Running (boss_part now) e) (sym (ap (option_map standing) is))
        (ap boss_part tells.1 ∙ ap (option_map standing) is, acts_is p d e same),
    subst (λ (bs : List (Role Member)). AllBegin boss_part bs) (sym bare) tt,
  )

  inside_as : (time : ℕ) (b : Member) (d : ShardState) (p : Pid) (item : Option Item) (next : Next) (now : Member) (e : ShardState) (births : List (Role Member)) (before : Next) (mid : Member) (o : Option (Supervisor Plan))
      → TellsBy o p before item b None mid → member_answers time mid d p item next now e births → AnswerAs boss_part time b d p item next now e births
  inside_as time b d p item next now e births before mid None tells h = absurd (let bad = tells.0 in cc)
  inside_as time b d p item next now e births before mid (Some boss) tells h = subst (λ (x : Member). AnswerAs boss_part time x d p item next now e births) tells.1 h.0

  told_as : (front : Option Next) (told : Option Job) (time : ℕ) (b : Member) (d : ShardState) (p : Pid) (item : Option Item) (next : Next) (now : Member) (e : ShardState) (births : List (Role Member))
      → told_answers front told time b d p item next now e births → AnswerAs boss_part time b d p item next now e births
  told_as front (Some job) time b d p item next now e births h =
      subst (λ (n : Next). AnswerAs boss_part time b d p item n now e births) (sym h.3) (outside_as time b d p item now e births h.0 job b.boss refl h.2 h.4 h.5)
  told_as front None time b d p item next now e births h = inside_as time b d p item next now e births h.0 h.1 b.boss h.3 h.4

  pub told_upheld : (front : Option Next) (told : Option Job) → IsUpheld (told_answers front told) (Keeps past boss_part)
  told_upheld front told = upheld past boss_part (told_answers front told) (told_as front told)

  -- of what is seen of a member
  abbrev pub HoldsSeen : MemberView → Pid → ShardState → Type 0
  HoldsSeen v q d = (is_unborn (phase_of d q) ≡ false) × HoldsAs past (option_map standing v.boss) v.next q d

  its_view : (o : Option (Member × Next)) (v : MemberView) → option_map member_view o ≡ Some v → (r : Member × Next) × (o ≡ Some r) × (member_view r ≡ v)
  its_view None v is = absurd (cc)
  its_view (Some r) v is = (r, refl, same_some (member_view r) v is)

  -- so it is of all, as they are seen
  abbrev pub AllSeen : Scheduler → ShardState → Type 0
  AllSeen t d = (q : Pid) (v : MemberView) → member_views t q ≡ Some v → HoldsSeen v q d

  pub to_seen : (t : Scheduler) (d : ShardState) → AllStand (Keeps past boss_part) (roles t.crew) d → AllSeen t d
  to_seen t d a q v is =
      let r = its_view (roles t.crew q) v is in subst (λ (x : MemberView). HoldsSeen x q d) r.2 (a q r.0 r.1)

  pub from_seen : (t : Scheduler) (d : ShardState) → AllSeen t d → AllStand (Keeps past boss_part) (roles t.crew) d
  from_seen t d a q r is = a q (member_view r) (ap (option_map member_view) is)

  pub seen_same : (old new : Scheduler) (d : ShardState) → SameViews old new → AllSeen old d → AllSeen new d
  seen_same old new d same a q v is = a q v (sym (same q) ∙ is)

  pub upholds_seen : (old new : Scheduler) (d : ShardState) → SameViews old new → waiting new.crew ≡ waiting old.crew → SchedulerUpholds past old d → SchedulerUpholds past new d
  upholds_seen old new d same waits u = record {
    members = from_seen new d (seen_same old new d same (to_seen old d u.members));
    waiting = subst (AllFirst (Keeps past boss_part)) (sym waits) u.waiting;
  }

  pub upholds_same : (old new : Scheduler) (d : ShardState) → AreSame (roles old.crew) (roles new.crew) → waiting new.crew ≡ waiting old.crew → SchedulerUpholds past old d → SchedulerUpholds past new d
  upholds_same old new d same waits u = upholds_seen old new d (λ q. ap (option_map member_view) (same q)) waits u

  pub upholds_is : (old new : Scheduler) (d : ShardState) → IsSame old.crew new.crew → SchedulerUpholds past old d → SchedulerUpholds past new d
  upholds_is old new d same u = upholds_same old new d (λ q. ap (option_map role) (same.members q)) same.rest.waiting u

  -- p is another one, of whom it holds
  pub stands_with : (old new : Roles Member) (d : ShardState) (p : Pid) (b : Member) (n : Next) → AreWith p (Some (b, n)) old new → (is_unborn (phase_of d p) ≡ false) × HoldsAs past (boss_part b) n p d → AllStand (Keeps past boss_part) old d → AllStand (Keeps past boss_part) new d
  stands_with old new d p b n now here a q r is = by_cases (same_pid p q)
      (λ same.
      let r_is : (b, n) ≡ r = same_some (b, n) r (sym (there old new p (Some (b, n)) now q same) ∙ is) in
      subst (λ (x : Pid). (is_unborn (phase_of d x) ≡ false) × HoldsAs past (boss_part r.0) r.1 x d) (same_pid_is p q same)
      (subst (λ (x : Member × Next). (is_unborn (phase_of d p) ≡ false) × HoldsAs past (boss_part x.0) x.1 p d) r_is here))
      (λ other. a q r (sym (elsewhere old new p (Some (b, n)) now q other) ∙ is))

  -- one that is running is no supervisor
  running_none : (o : Option Standing) (p : Pid) (d : ShardState) → HoldsAs past o Running p d → o ≡ None
  running_none None p d h = refl
  running_none (Some s) p d h = absurd h.1

  none_holds : (o : Option Standing) (n : Next) (p : Pid) (d : ShardState) → o ≡ None → HoldsAs past o n p d
  none_holds o n p d is = subst (λ (x : Option Standing). HoldsAs past x n p d) (sym is) tt

  pub answered_upholds : {E : Type 0} (old new : Scheduler) (d : ShardState) (p : Pid) (next : Next) (result : Result Bool E) → IfOk result (λ yes. MatchBool yes (IsAnswered p next old.crew new.crew) (IsSame old.crew new.crew))
      → OnErr result (IsSame old.crew new.crew) → SchedulerUpholds past old d → SchedulerUpholds past new d
  answered_upholds old new d p next (Ok true) done refused u =
      let was = u.members p (done.behaviour, Running) done.ran in
      record {
        members = stands_with (roles old.crew) (roles new.crew) d p done.behaviour next done.does (was.0, none_holds (boss_part done.behaviour) next p d (running_none (boss_part done.behaviour) p d was.1)) u.members;
        waiting = subst (AllFirst (Keeps past boss_part)) (sym done.rest.waiting) u.waiting;
      }
  answered_upholds old new d p next (Ok false) done refused u = upholds_is old new d done u
  answered_upholds old new d p next (Err x) done refused u = upholds_is old new d refused u

  -- a new supervisor begins -------------------------------------------------------------------------

  none_yet : (children : List ChildSpec) → NoneLives (map child_as children)
  none_yet children place c is = go (slice_get children place) (sym (slice_get-map child_as children place) ∙ is)
    where
      go : (o : Option ChildSpec) → option_map child_as o ≡ Some c → c.pid ≡ None
      go None is = absurd (cc)
      go (Some s) is = ap (λ (x : Child). x.pid) (sym (same_some (child_as s) c is))

  pub new_begins : (spec : SupervisorSpec) (children : List ChildSpec) (boss : Supervisor Plan) → IsNewBoss spec children boss → SupervisorBegins (Some (standing boss)) Proceed
  new_begins spec children boss is = subst (λ (s : Standing). SupervisorBegins (Some s) Proceed) (sym is.stands) (refl, none_yet children, refl)

  pub boss_upholds : (old new : Scheduler) (d : ShardState) (p : Pid) (spec : SupervisorSpec) (children : List ChildSpec) → BecomesBoss p spec children old new → SchedulerUpholds past old d → SchedulerUpholds past new d
  boss_upholds old new d p spec children b u =
      let was = u.members p (b.behaviour, Running) b.ran in
      record {
        members = stands_with (roles old.crew) (roles new.crew) d p (record (b.behaviour) { boss = Some b.boss }) Proceed b.does
            (was.0, begins past (Some (standing b.boss)) Proceed p d (new_begins spec children b.boss b.is_new)) u.members;
        waiting = subst (AllFirst (Keeps past boss_part)) (sym b.rest.waiting) u.waiting;
      }

  -- one enters ---------------------------------------------------------------------------------------

  pub spawn_upholds : (b : Member) (first : Next) (old new : Scheduler) (d e : ShardState) (result : Result Pid Fault) → Enters b first old.crew d result new.crew e → SupervisorBegins (boss_part b) first → SchedulerUpholds past old d → SchedulerUpholds past new e
  spawn_upholds b first old new d e result h begin u =
      enter_upholds member_answers (Keeps past boss_part) boss_upheld b first old.crew new.crew d e result h (λ p f. begins past (boss_part b) first p f begin) u

  child_none : (parent : Pid) (linked : Bool) (f : Fault) (d e : ShardState) → BearsChild parent linked d (Err f) e ⊎ ((f ≡ Memory) × (e ≡ d)) → e ≡ d
  child_none parent linked f d e (inr h) = h.1
  child_none parent linked Gone d e (inl h) = h.1
  child_none parent linked Worn d e (inl h) = h.2
  child_none parent linked Full d e (inl h) = h.3
  child_none parent linked Memory d e (inl h) = h.3
  child_none parent linked Myself d e (inl h) = absurd h
  child_none parent linked NoProc d e (inl h) = absurd h

  -- a child of one that is no supervisor
  pub child_upholds : (parent : Pid) (linked : Bool) (b : Member) (first : Next) (old new : Scheduler) (d e : ShardState) (result : Result Pid Fault) → EntersChild parent linked b first old.crew d result new.crew e
      → IfOk result (λ p. is_unborn (phase_of e p) ≡ false) → SupervisorBegins (boss_part b) first → IsNoBoss old parent → SchedulerUpholds past old d → SchedulerUpholds past new e
  child_upholds parent linked b first old new d e (Err f) h born begin free u =
      let is = child_none parent linked f d e h.0 in
      subst (λ (x : ShardState). SchedulerUpholds past new x) (sym is) (upholds_is old new d h.1 u)
  child_upholds parent linked b first old new d e (Ok p) h born begin free u = record {
    members = λ q r is. by_cases (same_pid p q)
        (λ same.
        let r_is : (b, first) ≡ r = same_some (b, first) r (sym (there (roles old.crew) (roles new.crew) p (Some (b, first)) h.1 q same) ∙ is) in
        subst (λ (x : Pid). (is_unborn (phase_of e x) ≡ false) × HoldsAs past (boss_part r.0) r.1 x e) (same_pid_is p q same)
        (subst (λ (x : Member × Next). (is_unborn (phase_of e p) ≡ false) × HoldsAs past (boss_part x.0) x.1 p e) r_is (born, begins past (boss_part b) first p e begin)))
        (λ other.
        let here : roles old.crew q ≡ Some r = sym (elsewhere (roles old.crew) (roles new.crew) p (Some (b, first)) h.1 q other) ∙ is in
        let was = u.members q r here in (
          born_then d e onward q was.0,
          by_cases (same_pid q parent)
              (λ it. none_holds (boss_part r.0) r.1 q e (ap (option_map standing) (free r.0 r.1 (ap (roles old.crew) (sym (same_pid_is q parent it)) ∙ here))))
              (λ away. boss_upheld.others r.0 r.1 q d e was.1 was.0 onward (alone q other away)),
        ));
    waiting = subst (AllFirst (Keeps past boss_part)) (sym h.4.waiting) u.waiting;
  }
    where
      link : Option LinkId
      link = birth_link linked d

      g : ShardState
      g = shard_after (Born p (Some parent) link) d

      is_g : e ≡ record g { vacant = e.vacant }
      is_g = h.0.1.2

      onward : IsLater d e
      onward = later_then d g e (later_after (Born p (Some parent) link) d) (later_same g e (ap (λ (x : ShardState). x.start) is_g) (ap (λ (x : ShardState). x.journal) is_g))

      alone : (q : Pid) → same_pid p q ≡ false → same_pid q parent ≡ false → IsLeftAlone q d e
      alone q other away = alone_then q d g e
          (alone_event (Born p (Some parent) link) d q (λ i. (same_pid_sym p q other i) || away i) (ap (λ (c : Bool). cond c (p ∷ []) []) away))
          (alone_same g e (ap (λ (x : ShardState). x.start) is_g) (ap (λ (x : ShardState). x.journal) is_g) q)

  -- a step ends --------------------------------------------------------------------------------------

  pub ended_upholds : (old new : Scheduler) (d : ShardState) → EndsStep old.crew d new.crew → SchedulerUpholds past old d → SchedulerUpholds past new d
  ended_upholds old new d s u =
      let born : AllFirst (Keeps past boss_part) (s.entered ++ waiting new.crew) = subst (AllFirst (Keeps past boss_part)) s.born u.waiting in
      record {
        members = all_enter member_answers (Keeps past boss_part) boss_upheld d s.entered (roles old.crew, left old.crew) (roles new.crew, left new.crew) s.enters
            (first_front (Keeps past boss_part) s.entered (waiting new.crew) born) u.members;
        waiting = first_back (Keeps past boss_part) s.entered (waiting new.crew) born;
      }

  -- one is come to -----------------------------------------------------------------------------------

  pub served_upholds : (front : Option Next) (told : Option Job) (ps : List Pid) (old new : Crew Member) (d e : ShardState) → left old ≡ [] → Serves (told_answers front told) ps old d new e → Upholds (Keeps past boss_part) old d → Upholds (Keeps past boss_part) new e
  served_upholds front told [] old new d e bare s u =
      subst (λ (x : ShardState). Upholds (Keeps past boss_part) new x) (sym s.1) (record {
        members = λ q r is. u.members q r (sym (ap (option_map role) (s.0.members q)) ∙ is);
        waiting = subst (AllFirst (Keeps past boss_part)) (sym s.0.rest.waiting) u.waiting;
      })
  served_upholds front told (p ∷ ps) old new d e bare s u =
      let f = one_upholds (told_answers front told) (Keeps past boss_part) (told_upheld front told) p (scene [] old d) (scene s.0 new e) s.1
      (record { members = u.members; waiting = u.waiting; left = nobody (left old) bare }) in
      record { members = f.members; waiting = f.waiting }
    where
      open_gone : List (Role Member) → Type 0
      open_gone rs = AreGone (told_answers front told) (Keeps past boss_part) (told_upheld front told) (roles old) rs d

      nobody : (rs : List (Role Member)) → rs ≡ [] → open_gone rs
      nobody rs is = subst open_gone (sym is) tt

  -- a loss is noted
  lost_seen : (b : Bool) (r : Reason) (o : Option MemberView) (v : MemberView) (q : Pid) (d : ShardState) → cond b (option_map (λ (x : MemberView). record x { lost = Some r }) o) o ≡ Some v → ((x : MemberView) → o ≡ Some x → HoldsSeen x q d) → HoldsSeen v q d
  lost_seen true r None v q d is a = absurd (cc)
  lost_seen true r (Some x) v q d is a = subst (λ (y : MemberView). HoldsSeen y q d) (same_some (record x { lost = Some r }) v is) (a x refl)
  lost_seen false r o v q d is a = a v is

  pub lost_upholds : (old new : Scheduler) (d : ShardState) (p : Pid) (r : Reason) → NotesLost p r old new → SchedulerUpholds past old d → SchedulerUpholds past new d
  lost_upholds old new d p r l u = record {
    members = from_seen new d (λ q v is. lost_seen (same_pid p q) r (member_views old q) v q d (sym (l.views q) ∙ is) (to_seen old d u.members q));
    waiting = subst (AllFirst (Keeps past boss_part)) (sym l.rest.waiting) u.waiting;
  }

  -- so it is after the calls of a pull
  pub pulled_upholds : (front : Option Next) (told : Option Job) (old dropped noted now : Scheduler) (run : Crew Member) (d e : ShardState) → SchedulerAttends old d → DropsLeft old dropped → (SchedulerAttends dropped d → IsAllNoted dropped d noted)
      → Serves (told_answers front told) (queue noted.crew) noted.crew d run e → AreSame (roles run) (roles now.crew) → waiting now.crew ≡ waiting run → SchedulerUpholds past old d → SchedulerUpholds past now e
  pulled_upholds front told old dropped noted now run d e a drops notes serves same waits u =
      let n = notes (attends_dropped old dropped d a drops) in
      let seen = upholds_seen dropped noted d n.views n.rest.waiting (upholds_same old dropped d drops.roles drops.waiting u) in
      upholds_same (record now { crew = run }) now e same waits (served_upholds front told (queue noted.crew) noted.crew run d e (n.rest.left ∙ drops.left) serves seen)

  -- a turn of the desk
  pub turned_upholds : (t : Scheduler) (budget : ℕ) (d e : DeskState) (turned : Turned) → Turns budget d turned e → SchedulerUpholds past t d.shard → SchedulerUpholds past t e.shard
  turned_upholds t budget d e turned h u = record { members = turn_upholds member_answers (Keeps past boss_part) boss_upheld (roles t.crew) budget d turned e h u.members; waiting = u.waiting }

  -- what was done outside
  alone_holds : (b : Member) (n : Next) (p : Pid) (d e : ShardState) (o : Option (Supervisor Plan)) → b.boss ≡ o → ((boss : Supervisor Plan) → b.boss ≡ Some boss → IsLeftAlone p d e) → is_unborn (phase_of d p) ≡ false → IsLater d e
      → HoldsAs past (boss_part b) n p d → HoldsAs past (boss_part b) n p e
  alone_holds b n p d e None is alone born later h = none_holds (boss_part b) n p e (ap (option_map standing) is)
  alone_holds b n p d e (Some boss) is alone born later h = boss_upheld.others b n p d e h born later (alone boss is)

  pub outside_upholds : (t : Scheduler) (d e : ShardState) → IsLater d e → AreLeftAlone t d e → SchedulerUpholds past t d → SchedulerUpholds past t e
  outside_upholds t d e later alone u = record {
    members = λ q r is.
        let was = u.members q r is in
        (born_then d e later q was.0, alone_holds r.0 r.1 q d e r.0.boss refl (λ boss b. alone q r.0 r.1 boss is b) was.0 later was.1);
    waiting = u.waiting;
  }

  -- the exits of a history are kept
  kept_stands : (ended : Option Reason) (o : Option (Member × Next)) (r : Member × Next) (q : Pid) (d : ShardState) → option_map (member_role_kept ended) o ≡ Some r → ((x : Member × Next) → o ≡ Some x → (is_unborn (phase_of d q) ≡ false) × HoldsAs past (boss_part x.0) x.1 q d)
      → (is_unborn (phase_of d q) ≡ false) × HoldsAs past (boss_part r.0) r.1 q d
  kept_stands ended None r q d is a = absurd (cc)
  kept_stands (Some why) (Some x) r q d is a = subst (λ (y : Member × Next). (is_unborn (phase_of d q) ≡ false) × HoldsAs past (boss_part y.0) y.1 q d) (same_some (member_role_kept (Some why) x) r is) (a x refl)
  kept_stands None (Some x) r q d is a = subst (λ (y : Member × Next). (is_unborn (phase_of d q) ≡ false) × HoldsAs past (boss_part y.0) y.1 q d) (same_some (member_role_kept None x) r is) (a x refl)

  pub kept_upholds : (old new : Scheduler) (d : ShardState) (history : List Stamped) → KeepsExits history old new → SchedulerUpholds past old d → SchedulerUpholds past new d
  kept_upholds old new d history k u = record {
    members = λ q r is. kept_stands (exit_in q history) (roles old.crew q) r q d (sym (k.members q) ∙ is) (λ x at. u.members q x at);
    waiting = subst (AllFirst (Keeps past boss_part)) (sym k.rest.waiting) u.waiting;
  }
