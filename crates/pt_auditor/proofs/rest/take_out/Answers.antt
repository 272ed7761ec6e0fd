-- `take_out`: its contract.
use Rattle.std.proofs.Common.{ap, ◌∙◌}
use Rattle.pt_signal.specs.Process.{ProcessState}
use Rattle.pt_auditor.proofs.Resting.{taken_out}
use Rattle.pt_auditor.proofs.rest.take_out.Goals as goal

pub returns : goal.returns
returns c =
    taken_out c.args.pid c.args.state c.in_ok-state.state c.in_ok-state-2.state c.held.result c.in_ok-state-2.estate c.requires.still c.requires.living c.in_ok-state.ensures.step c.in_ok-state-2.ensures
    (ap (λ (z : ProcessState). z.waiting) c.held.ensures ∙ c.in-Ok.ensures)
    (ap (λ (z : ProcessState). z.traps) c.held.ensures ∙ c.traps-traps.ensures)
    (ap (λ (z : ProcessState). z.links) c.held.ensures)
    (ap (λ (z : ProcessState). z.kept) c.held.ensures)
    (ap (λ (z : ProcessState). z.watching) c.held.ensures)
