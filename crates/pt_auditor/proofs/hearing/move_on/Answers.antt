-- `move_on`: its contract.
use Rattle.std.proofs.Common.{subst}
use Rattle.pt_judge.specs.Judging.{lived}
use Rattle.pt_auditor.specs.Foreigners.{IsMovedOn}
use Rattle.pt_auditor.proofs.hearing.move_on.Goals as goal

pub returns-in-Ok : goal.returns-in-Ok
returns-in-Ok c =
    let s = c.args.stamped in
    let new = c.in_ok-state.state in
    let old = c.args.node in
    let node = c.in-Ok.node in record {
      step = c.in_ok-state.ensures.step;
      node = λ z.
          subst (λ b. IsMovedOn new (lived c.args.state.lives s.event) b s old node) c.may_begin-begun.ensures
          (subst (λ a. IsMovedOn new a c.may_begin-begun.result s old node) c.lived-lived.ensures c.in-Ok.ensures);
    }
