-- `MemberBehaviour::handle`: its clause `answers`.
use Rattle.std.proofs.Common.{List, Option, Some, refl, sym, subst}
use Rattle.std.specs.Option.{option_map}
use Rattle.pt_behaviour.specs.declared.behaviour.Next.TheVariants.{Running}
use Rattle.pt_behaviour.specs.declared.births.Role.{Role}
use Rattle.pt_behaviour.specs.Births.{bore, born, time_told}
use Rattle.pt_behaviour.proofs.Upholding.{acts_is}
use Rattle.pt_supervisor.specs.declared.supervisor.Supervisor.{Supervisor}
use Rattle.pt_supervisor.specs.Hearing.{standing}
use Rattle.pt_supervisor.specs.Keeping.{ActsAs, AllBegin}
use Rattle.pt_supervisor.proofs.Bearing.{bore_begin}
use Rattle.pt_scheduler.specs.declared.member.Member.{Member}
use Rattle.pt_scheduler.specs.declared.plan.Plan.{Plan}
use Rattle.pt_scheduler.specs.Planning.{starts_post}
use Rattle.pt_scheduler.specs.Members.{AnswersBy, boss_part}
use Rattle.pt_scheduler.proofs.Begins.{begins_outside, bore_same}
use Rattle.pt_scheduler.proofs.member.MemberBehaviour.handle.Goals as goal

pub returns-in-Some-clause-answers : goal.returns-in-Some-clause-answers
returns-in-Some-clause-answers c =
    let me = c.args.me in
    let item = c.args.item in
    let d = c.args.desk.now in
    let e = c.handle.new.desk in
    let new = c.handle.new.self in
    let h = c.handle.ensures in
    let waited = born c.args.births.now in
    let waits = born c.handle.new.births in
    let births = bore waited waits in (
      (
        subst (λ (o : Option (Supervisor Plan)). ActsAs (option_map standing o) me item d.shard c.handle.result (Some (standing new)) e.shard) (sym c.in-Some.is) (standing new, refl, h.tends),
        bore_begin starts_post me boss_part (begins_outside me) waited waits h.bears,
      ),
      subst (λ (o : Option (Supervisor Plan)). AnswersBy o (time_told c.args.births.now) c.args.self.now d.shard me item c.handle.result (record c.args.self.now { boss = Some new }) e.shard births) (sym c.in-Some.is) (new, refl, h.handles),
    )

pub returns-in-None-clause-answers : goal.returns-in-None-clause-answers
returns-in-None-clause-answers c =
    let me = c.args.me in
    let item = c.args.item in
    let d = c.args.desk.now.shard in
    let waited = born c.args.births.now in (
      (
        subst (λ (o : Option (Supervisor Plan)). ActsAs (option_map standing o) me item d Running (option_map standing o) d) (sym c.in-None.is) (refl, acts_is me d d refl),
        subst (λ (bs : List (Role Member)). AllBegin boss_part bs) (sym (bore_same waited)) tt,
      ),
      subst (λ (o : Option (Supervisor Plan)). AnswersBy o (time_told c.args.births.now) c.args.self.now d me item Running c.args.self.now d (bore waited waited)) (sym c.in-None.is) (refl, refl, refl, bore_same waited),
    )
