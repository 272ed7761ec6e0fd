-- `carry`: its contract.
use Rattle.std.proofs.Common.{OnOk, sym, subst}
use Rattle.pt_judge.specs.Judging.{judge_sends}
use Rattle.pt_auditor.specs.Foreigners.{IsCarried}
use Rattle.pt_auditor.proofs.Carried.{said_carried}
use Rattle.pt_auditor.proofs.desks.carry.Goals as goal

pub returns-in-Said : goal.returns-in-Said
returns-in-Said c =
    let s = c.args.stamped in
    let new = c.push.new.self in
    subst (λ e. OnOk c.push.result (IsCarried s.stamp e (judge_sends c.args.state.now.lives c.args.lived e) c.args.lanes.now new)) (sym c.in-Said.is)
    (said_carried s.stamp c.in-Said.from c.in-Said.to c.in-Said.signal c.push.result c.args.lanes.now new c.push.ensures)
