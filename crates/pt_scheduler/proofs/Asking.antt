-- What a supervisor of a scheduler makes of a question about its children, and what stays.
use Rattle.std.proofs.Common.{◌≡◌, inl, inr, ℕ, Bool, true, false, cond, List, [], ◌++◌, append-nil, Option, Some, None, Result, Ok, Err, refl, sym, ap, subst, ◌∙◌}
use Rattle.std.specs.Prelude.{MatchBool, OnErr, is_ok, is_some}
use Rattle.std.specs.Option.{option_map}
use Rattle.pt_signal.specs.declared.pid.Pid.{Pid}
use Rattle.pt_signal.proofs.Same.{same_pid_refl}
use Rattle.pt_events.specs.History.{Past}
use Rattle.pt_shard.specs.ShardState.{ShardState}
use Rattle.pt_desk.proofs.Turning.{extends}
use Rattle.pt_behaviour.specs.declared.behaviour.Next.{Next}
use Rattle.pt_crew.specs.Visiting.{AreWith}
use Rattle.pt_crew.specs.Crews.{Attends, IsSame, KeepsRest, queue, roles, waiting}
use Rattle.pt_crew.specs.Redirecting.{IsRedirected}
use Rattle.pt_behaviour.specs.Upholding.{AllFirst}
use Rattle.pt_crew.proofs.Visiting.{rest_then}
use Rattle.pt_behaviour.proofs.Cases.{same_some}
use Rattle.pt_crew.proofs.Waking.{there}
use Rattle.pt_children.specs.declared.child_fault.ChildFault.{ChildFault}
use Rattle.pt_supervisor.specs.declared.supervisor.Supervisor.{Supervisor}
use Rattle.pt_children.specs.Calling.{place_of_id}
use Rattle.pt_supervisor.specs.Changed.{RemembersWhere, next_due}
use Rattle.pt_children.specs.Hearing.{Standing}
use Rattle.pt_supervisor.specs.Hearing.{standing}
use Rattle.pt_supervisor.specs.Keeping.{HoldsAs, HoldsWhere, Keeps}
use Rattle.pt_children.proofs.Refusing.{adds_err}
use Rattle.pt_supervisor.proofs.Due.{asked_holds}
use Rattle.pt_scheduler.specs.declared.member.Member.{Member}
use Rattle.pt_children.specs.declared.spec.ChildSpec.{ChildSpec}
use Rattle.pt_scheduler.specs.declared.plan.Plan.{Plan}
use Rattle.pt_scheduler.specs.declared.scheduler.Scheduler.{Scheduler}
use Rattle.pt_children.specs.Specifying.{child_as}
use Rattle.pt_scheduler.specs.Members.{boss_part}
use Rattle.pt_scheduler.specs.Scheduling.{SchedulerAttends, SchedulerUpholds, new_member}
use Rattle.pt_scheduler.specs.Taken.{SetsMember, StaysElse}
use Rattle.pt_scheduler.specs.Asking.{AddsOrNot, AsksBoss, BossIsAsked}
use Rattle.pt_scheduler.specs.Out.{IsOut, PutsBoss}
use Rattle.pt_scheduler.proofs.Becoming.{both}
use Rattle.pt_scheduler.proofs.Noting.{attends_then, changed_comes, fresh_is}
use Rattle.pt_scheduler.proofs.Upheld.{stands_with}

pub starts_err : (spec : ChildSpec) (s : Standing) (result : Result ℕ ChildFault) (t : Standing) → AddsOrNot spec s result t → OnErr result (t ≡ s)
starts_err spec s (Ok place) t h = tt
starts_err spec s (Err f) t (inl h) = adds_err (place_of_id (child_as spec).id s.children) (child_as spec) s f t h
starts_err spec s (Err f) t (inr h) = h.1

-- it is taken out, asked, and put back -------------------------------------------------------------

module _ (p : Pid) (boss later : Supervisor Plan) (rest : Member) (old mid new : Scheduler) (out : IsOut p boss rest old mid) (taken : Bool) (puts : PutsBoss p later rest taken mid new) where
  abbrev its_next : Next
  its_next = cond taken (next_due (standing later)) out.before

  asked_now : AreWith p (Some (record (out.behaviour) { boss = Some later }, its_next)) (roles old.crew) (roles new.crew)
  asked_now = both (roles old.crew) (roles mid.crew) (roles new.crew) p (new_member 0 None, out.before) (record (out.behaviour) { boss = Some later }, its_next) out.now
      (subst (λ (m : Member). AreWith p (Some (record m { boss = Some later }, its_next)) (roles mid.crew) (roles new.crew)) out.without
      (puts.set (new_member 0 None) out.before (there (roles old.crew) (roles mid.crew) p (Some (new_member 0 None, out.before)) out.now p (same_pid_refl p))))

  asked_rest : KeepsRest old.crew new.crew
  asked_rest = rest_then old.crew mid.crew new.crew out.other.rest puts.rest

  was_asked : (does : Supervisor Plan → Supervisor Plan → Type 0) (next : Next → Supervisor Plan → Next) → does boss later → its_next ≡ next out.before later → BossIsAsked p does next old new
  was_asked does next h is = record {
    behaviour = out.behaviour;
    before = out.before;
    was = out.was;
    boss = boss;
    inside = out.inside;
    later = later;
    does = h;
    now = subst (λ (n : Next). AreWith p (Some (record (out.behaviour) { boss = Some later }, n)) (roles old.crew) (roles new.crew)) is asked_now;
    longer = (puts.longer.0, puts.longer.1 ∙ ap (λ (q : List Pid). q ++ puts.longer.0) out.other.queue);
    rest = asked_rest;
  }

  pub asks : {A : Type 0} (does : Result A ChildFault → Supervisor Plan → Supervisor Plan → Type 0) (result : Result A ChildFault) → taken ≡ is_ok result → does result boss later → AsksBoss p does (Some result) old new
  asks does (Ok a) is h = was_asked (does (Ok a)) (λ before x. next_due (standing x)) h (ap (λ (b : Bool). cond b (next_due (standing later)) out.before) is)
  asks does (Err f) is h =
      (was_asked (does (Err f)) (λ before x. before) h (ap (λ (b : Bool). cond b (next_due (standing later)) out.before) is), puts.stays is ∙ out.other.queue)

  pub asked_attends : (d : ShardState) → SchedulerAttends old d → SchedulerAttends new d
  asked_attends d a = attends_then old new d d a (extends d) (puts.attends d (out.other.attends d a.crew)) (fresh_is (waiting old.crew) (waiting new.crew) asked_rest.waiting a.fresh)
      (puts.read ∙ out.other.read)
      (changed_comes old new d p out.behaviour (record (out.behaviour) { boss = Some later }) out.before its_next a out.was asked_now refl)

  pub asked_upholds : {A : Type 0} (result : Result A ChildFault) → taken ≡ is_ok result → HoldsWhere (standing boss) (standing later) → RemembersWhere (standing boss) (standing later) → OnErr result (standing later ≡ standing boss)
      → (past : Past) (d : ShardState) → SchedulerUpholds past old d → SchedulerUpholds past new d
  asked_upholds result is holds remembers same past d u =
      let was = u.members p (out.behaviour, out.before) out.was in
      record {
        members = stands_with past (roles old.crew) (roles new.crew) d p (record (out.behaviour) { boss = Some later }) its_next asked_now (
          was.0,
          asked_holds past (standing boss) (standing later) out.before p d result taken is holds remembers same was.0
              (subst (λ (o : Option (Supervisor Plan)). HoldsAs past (option_map standing o) out.before p d) out.inside was.1),
        ) u.members;
        waiting = subst (AllFirst (Keeps past boss_part)) (sym asked_rest.waiting) u.waiting;
      }

-- it is put back --------------------------------------------------------------------------------

module _ (p : Pid) (boss : Supervisor Plan) (member put : Member) (old mid : Scheduler) (put_is : put ≡ record member { boss = Some boss }) (sets : SetsMember p put old mid) (other : StaysElse old mid) where
  -- where it stands then
  put_role : (was : Member) (n : Next) → roles old.crew p ≡ Some (was, n) → roles mid.crew p ≡ Some (put, n)
  put_role was n here = there (roles old.crew) (roles mid.crew) p (Some (put, n)) (sets.set was n here) p (same_pid_refl p)

  module _ (new : Scheduler) (next : Next) (due : next ≡ next_due (standing boss)) (read : new.read ≡ mid.read) (desk : new.desk ≡ mid.desk) (attends : (d : ShardState) → Attends mid.crew d → Attends new.crew d) where
    led : IsRedirected p next mid.crew new.crew → (was : Member) (n : Next) → roles old.crew p ≡ Some (was, n) → AreWith p (Some (record member { boss = Some boss }, next_due (standing boss))) (roles old.crew) (roles new.crew)
    led r was n here =
        let same : ◌≡◌ {A = Member × Next} (r.behaviour, r.before) (put, n) = same_some (r.behaviour, r.before) (put, n) (sym r.was ∙ put_role was n here) in
        let b : r.behaviour ≡ record member { boss = Some boss } = ap (λ (x : Member × Next). x.0) same ∙ put_is in
        both (roles old.crew) (roles mid.crew) (roles new.crew) p (put, n) (record member { boss = Some boss }, next_due (standing boss)) (sets.set was n here)
        (subst (λ (x : Member). AreWith p (Some (x, next_due (standing boss))) (roles mid.crew) (roles new.crew)) b (subst (λ (x : Next). AreWith p (Some (r.behaviour, x)) (roles mid.crew) (roles new.crew)) due r.does))

    -- one that was changed does what is due next
    pub puts_on : (yes : Bool) → yes ≡ is_some (roles mid.crew p) → MatchBool yes (IsRedirected p next mid.crew new.crew) (IsSame mid.crew new.crew) → PutsBoss p boss member true old new
    puts_on true is r = record {
      set = led r;
      longer = (r.longer.0, r.longer.1 ∙ ap (λ (q : List Pid). q ++ r.longer.0) other.queue);
      stays = λ e. absurd (cc);
      read = read ∙ other.read;
      desk = desk ∙ other.desk;
      rest = rest_then old.crew mid.crew new.crew other.rest r.rest;
      attends = λ d a. attends d (other.attends d a);
    }
    puts_on false is same = record {
      set = λ was n here. absurd (let bad : false ≡ true = is ∙ ap is_some (put_role was n here) in cc);
      longer = ([], same.queue ∙ other.queue ∙ sym (append-nil (queue old.crew)));
      stays = λ e. same.queue ∙ other.queue;
      read = read ∙ other.read;
      desk = desk ∙ other.desk;
      rest = rest_then old.crew mid.crew new.crew other.rest same.rest;
      attends = λ d a. attends d (other.attends d a);
    }
