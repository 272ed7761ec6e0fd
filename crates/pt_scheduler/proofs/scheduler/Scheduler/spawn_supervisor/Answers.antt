-- `Scheduler::spawn_supervisor`: its clauses `does` and `upholds`, and what its call of `enter` asks.
use Rattle.std.proofs.Common.{List, Some, Result, Ok, Err, ℕ, ap, subst, sym}
use Rattle.pt_signal.specs.declared.pid.Pid.{Pid}
use Rattle.pt_shard.specs.ShardState.{ShardState}
use Rattle.pt_shard.specs.declared.fault.Fault.{Fault}
use Rattle.pt_behaviour.specs.declared.behaviour.Next.TheVariants.{Proceed}
use Rattle.pt_supervisor.specs.declared.supervisor.Supervisor.{Supervisor}
use Rattle.pt_supervisor.specs.Keeping.{SupervisorBegins}
use Rattle.pt_crew.specs.declared.crew.Crew.{Crew}
use Rattle.pt_crew.specs.Crews.{Enters}
use Rattle.pt_scheduler.specs.declared.member.Member.{Member}
use Rattle.pt_children.specs.declared.spec.ChildSpec.{ChildSpec}
use Rattle.pt_scheduler.specs.declared.plan.Plan.{Plan}
use Rattle.pt_children.specs.declared.spec.SupervisorSpec.{SupervisorSpec}
use Rattle.pt_scheduler.specs.Members.{boss_part}
use Rattle.pt_scheduler.specs.Scheduling.{IsNewBoss, SpawnsBoss, new_member}
use Rattle.pt_scheduler.proofs.Upheld.{new_begins}
use Rattle.pt_scheduler.proofs.scheduler.Scheduler.spawn_supervisor.Goals as goal

-- a member that is the new supervisor enters
spawns : (tag : ℕ) (spec : SupervisorSpec) (children : List ChildSpec) (boss : Supervisor Plan) → IsNewBoss spec children boss → (old new : Crew Member) (d e : ShardState) (result : Result Pid Fault)
    → Enters (new_member tag (Some boss)) Proceed old d result new e → SpawnsBoss tag spec children old d result new e
spawns tag spec children boss is old new d e (Ok p) enters = (boss, is, enters)
spawns tag spec children boss is old new d e (Err f) enters = enters

pub enter-requires : goal.enter-requires
enter-requires c = ap (λ (b : Member). b.notes.ended) c.new.ensures

pub returns-clause-does : goal.returns-clause-does
returns-clause-does c =
    spawns c.args.tag c.args.spec c.args.children.now c.in_ok-boss.boss (record { stands = c.in_ok-boss.ensures.standing; posts = c.in_ok-boss.ensures.posts }) c.args.self.now.crew c.enter.new.self.crew c.args.desk.now.shard c.enter.new.desk.shard c.enter.result
    (subst (λ (b : Member). Enters b Proceed c.args.self.now.crew c.args.desk.now.shard c.enter.result c.enter.new.self.crew c.enter.new.desk.shard) c.new.ensures c.enter.ensures.does)

pub returns-clause-upholds : goal.returns-clause-upholds
returns-clause-upholds c = λ past u.
    c.enter.ensures.upholds past
    (subst (λ (b : Member). SupervisorBegins (boss_part b) Proceed) (sym c.new.ensures) (new_begins past c.args.spec c.args.children.now c.in_ok-boss.boss (record { stands = c.in_ok-boss.ensures.standing; posts = c.in_ok-boss.ensures.posts }))) u
