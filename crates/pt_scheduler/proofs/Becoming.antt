-- A running process becomes a supervisor.
use Rattle.std.proofs.Common.{◌≡◌, Some, refl, sym, ap, ◌∙◌}
use Rattle.pt_signal.specs.declared.pid.Pid.{Pid}
use Rattle.pt_signal.specs.Values.{same_pid}
use Rattle.pt_signal.proofs.Same.{same_pid_refl}
use Rattle.std.specs.Prelude.{Bool, true, false, cond, MatchBool, List}
use Rattle.pt_shard.specs.ShardState.{ShardState}
use Rattle.pt_desk.proofs.Turning.{extends}
use Rattle.pt_behaviour.specs.declared.behaviour.Next.{Next}
use Rattle.pt_behaviour.specs.declared.behaviour.Next.TheVariants.{Proceed}
use Rattle.pt_crew.specs.Visiting.{AreWith, Roles}
use Rattle.pt_crew.specs.Crews.{IsSame, roles, waiting}
use Rattle.pt_crew.specs.Stepping.{IsAnswered}
use Rattle.pt_crew.proofs.Visiting.{rest_then}
use Rattle.pt_behaviour.proofs.Cases.{by_cases}
use Rattle.pt_crew.proofs.Waking.{elsewhere, there}
use Rattle.pt_supervisor.specs.declared.supervisor.Supervisor.{Supervisor}
use Rattle.pt_scheduler.specs.declared.member.Member.{Member}
use Rattle.pt_children.specs.declared.spec.ChildSpec.{ChildSpec}
use Rattle.pt_scheduler.specs.declared.plan.Plan.{Plan}
use Rattle.pt_children.specs.declared.spec.SupervisorSpec.{SupervisorSpec}
use Rattle.pt_scheduler.specs.declared.scheduler.Scheduler.{Scheduler}
use Rattle.pt_scheduler.specs.Scheduling.{SchedulerAttends, BecomesBoss, IsNewBoss}
use Rattle.pt_scheduler.specs.Taken.{SetsBoss, StaysElse}
use Rattle.pt_scheduler.proofs.Noting.{attends_then, changed_comes, fresh_is}

pub both : (old mid new : Roles Member) (p : Pid) (x y : Member × Next) → AreWith p (Some x) old mid → AreWith p (Some y) mid new → AreWith p (Some y) old new
both old mid new p x y first second q = by_cases (same_pid p q)
    (λ same. there mid new p (Some y) second q same ∙ sym (ap (λ (c : Bool). cond c (Some y) (old q)) same))
    (λ other. elsewhere mid new p (Some y) second q other ∙ elsewhere old mid p (Some x) first q other ∙ sym (ap (λ (c : Bool). cond c (Some y) (old q)) other))

module _ (p : Pid) (spec : SupervisorSpec) (children : List ChildSpec) (boss : Supervisor Plan) (is_new : IsNewBoss spec children boss) (old mid new : Scheduler) (answered : IsAnswered p Proceed old.crew mid.crew) (sets : SetsBoss p boss mid new) (rest : StaysElse mid new) where
  pub becomes : BecomesBoss p spec children old new
  becomes = record {
    behaviour = answered.behaviour;
    ran = answered.ran;
    boss = boss;
    is_new = is_new;
    does = both (roles old.crew) (roles mid.crew) (roles new.crew) p (answered.behaviour, Proceed) (record (answered.behaviour) { boss = Some boss }, Proceed) answered.does
        (sets.set answered.behaviour Proceed (there (roles old.crew) (roles mid.crew) p (Some (answered.behaviour, Proceed)) answered.does p (same_pid_refl p)));
    longer = (answered.longer.0, rest.queue ∙ answered.longer.1);
    rest = rest_then old.crew mid.crew new.crew answered.rest rest.rest;
  }

  pub attends_became : (d : ShardState) → SchedulerAttends mid d → SchedulerAttends new d
  attends_became d a =
      let here = there (roles old.crew) (roles mid.crew) p (Some (answered.behaviour, Proceed)) answered.does p (same_pid_refl p) in
      attends_then mid new d d a (extends d) (rest.attends d a.crew) (fresh_is (waiting mid.crew) (waiting new.crew) rest.rest.waiting a.fresh) rest.read
      (changed_comes mid new d p answered.behaviour (record (answered.behaviour) { boss = Some boss }) Proceed Proceed a here (sets.set answered.behaviour Proceed here) refl)

-- the answer was taken
pub was_answered : (p : Pid) (old mid : Scheduler) (yes : Bool) → yes ≡ true → MatchBool yes (IsAnswered p Proceed old.crew mid.crew) (IsSame old.crew mid.crew) → IsAnswered p Proceed old.crew mid.crew
was_answered p old mid true is h = h
was_answered p old mid false is h = absurd (cc)
