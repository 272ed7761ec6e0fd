-- `list_all`: its contract, and its loop.
use Rattle.std.proofs.Common.{sym, subst, ◌∙◌}
use Rattle.pt_auditor.proofs.Resting.{IsLeftToList, left_begin, left_less, left_none, shrinks}
use Rattle.pt_auditor.proofs.rest.list_all.Goals as goal

pub loop-pid-preserved : goal.loop-pid-preserved
loop-pid-preserved c =
    left_less c.args.state c.loop-pid.state c.in_ok-state.state c.loop-pid.pids.items c.pop_front.new.self.items c.in-Some.pid c.loop-pid.residents.items c.list.new.residents.items c.loop-pid.invariant
    c.in-Some.ensures.items c.in_ok-state.ensures

pub loop-pid-init : goal.loop-pid-init
loop-pid-init c =
    let s = c.args.state in
    let pids = c.args.pids.now.items in
    subst (λ r. IsLeftToList s s pids r) (sym c.requires.none) (left_begin s pids c.requires.still c.requires.all)

pub returns : goal.returns
returns c =
    left_none c.args.state c.loop-pid.state c.loop-pid.pids.items c.loop-pid.residents.items c.loop-pid.invariant (shrinks c.loop-pid.pids.items (c.in_default.ensures.items ∙ c.in_default.ensures.rest))
