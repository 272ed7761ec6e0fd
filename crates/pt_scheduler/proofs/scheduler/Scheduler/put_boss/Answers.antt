-- `Scheduler::put_boss`: its contract, where the supervisor has taken in what it was asked.
use Rattle.std.proofs.Common.{Bool, refl, sym, subst}
use Rattle.pt_scheduler.specs.Out.{PutsBoss}
use Rattle.pt_scheduler.proofs.Asking.{puts_on}
use Rattle.pt_scheduler.proofs.scheduler.Scheduler.put_boss.Goals as goal

pub returns-then-is_taken : goal.returns-then-is_taken
returns-then-is_taken c =
    let new = record c.put_back.new.self { crew = c.redirect.new.self } in
    let r = c.redirect.ensures in
    subst (λ (b : Bool). PutsBoss c.args.p c.args.boss c.args.member b c.args.self.now new) (sym c.if-is_taken.true)
    (puts_on c.args.p c.args.boss c.args.member c.with_boss.result c.args.self.now c.put_back.new.self c.with_boss.ensures c.put_back.ensures.sets c.put_back.ensures.rest new c.due-next.result c.due-next.ensures.due refl refl r.attends c.redirect.result r.is r.redirected)
