-- `Scheduler::spawn`: its clauses `does` and `upholds`, and what its call of `enter` asks.
use Rattle.std.proofs.Common.{ap, subst, sym}
use Rattle.pt_crew.specs.Crews.{Enters}
use Rattle.pt_scheduler.specs.declared.member.Member.{Member}
use Rattle.pt_scheduler.specs.Members.{boss_part}
use Rattle.pt_supervisor.specs.Keeping.{SupervisorBegins}
use Rattle.pt_scheduler.proofs.scheduler.Scheduler.spawn.Goals as goal

pub enter-requires : goal.enter-requires
enter-requires c = ap (λ (b : Member). b.notes.ended) c.new.ensures

pub returns-clause-does : goal.returns-clause-does
returns-clause-does c =
    subst (λ (b : Member). Enters b c.args.first c.args.self.now.crew c.args.desk.now.shard c.enter.result c.enter.new.self.crew c.enter.new.desk.shard) c.new.ensures c.enter.ensures.does

pub returns-clause-upholds : goal.returns-clause-upholds
returns-clause-upholds c = λ past u.
    c.enter.ensures.upholds past (subst (λ (b : Member). SupervisorBegins (boss_part b) c.args.first) (sym c.new.ensures) tt) u
