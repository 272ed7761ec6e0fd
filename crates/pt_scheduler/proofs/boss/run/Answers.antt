-- `run`: its clauses `handles` and `tends`.
use Rattle.std.proofs.Common.{List, refl, subst}
use Rattle.pt_behaviour.specs.declared.births.Role.{Role}
use Rattle.pt_behaviour.specs.Births.{bore, born, time_told}
use Rattle.pt_children.specs.Hearing.{Standing}
use Rattle.pt_supervisor.specs.Hearing.{program_of, standing}
use Rattle.pt_supervisor.specs.Supervising.{SupervisorHandles}
use Rattle.pt_supervisor.specs.Keeping.{Tends}
use Rattle.pt_scheduler.specs.declared.member.Member.{Member}
use Rattle.pt_scheduler.specs.Planning.{starts_post}
use Rattle.pt_scheduler.proofs.Begins.{bore_behind}
use Rattle.pt_scheduler.proofs.boss.run.Goals as goal

pub returns-clause-handles : goal.returns-clause-handles
returns-clause-handles c =
    let me = c.args.me in
    let item = c.args.item in
    let d = c.args.desk.now in
    let e = c.handle.new.desk in
    let was = c.args.boss.now in
    let heard = c.heed.new.boss in
    let new = c.handle.new.self in
    let h = c.handle.ensures in
    let waited = born c.args.births.now in
    let waits = born c.handle.new.births in
    let births = bore waited waits in
    record {
      plan = program_of heard;
      heard = c.heed.ensures.posts;
      desk = d;
      later = e;
      before = refl;
      after = refl;
      waited = waited;
      handles = subst (λ (b : List (Role Member)). SupervisorHandles starts_post me (time_told c.args.births.now) item
          (record { start = program_of heard; standing = standing was; desk = d; born = waited }) c.handle.result
          (record { start = program_of new; standing = standing new; desk = e; born = b })) (bore_behind waited waits h.bears.0 h.bears.1)
          (subst (λ (s : Standing). SupervisorHandles starts_post me (time_told c.args.births.now) item
          (record { start = program_of heard; standing = s; desk = d; born = waited }) c.handle.result
          (record { start = program_of new; standing = standing new; desk = e; born = waits })) c.heed.ensures.standing h.does);
    }

pub returns-clause-tends : goal.returns-clause-tends
returns-clause-tends c =
    subst (λ (s : Standing). Tends c.args.me c.args.item s c.args.desk.now.shard c.handle.result (standing c.handle.new.self) c.handle.new.desk.shard)
    c.heed.ensures.standing c.handle.ensures.tends
