-- `add_end`: its contract.
use Rattle.std.proofs.Common.{ap, sym, ◌∙◌}
use Rattle.pt_auditor.specs.Rests.{lives_in}
use Rattle.pt_auditor.proofs.Resting.{end_joined}
use Rattle.pt_auditor.proofs.rest.add_end.Goals as goal

pub returns-in_ok-put-in-Some-run_with : goal.returns-in_ok-put-in-Some-run_with
returns-in_ok-put-in-Some-run_with c =
    ap lives_in c.in_ok-put-in-Some-run_with.ensures
    ∙ end_joined c.args.residents.now.items c.pop_back.new.self.items c.in-Some.last c.in-Some-run_with.run' c.args.pid c.args.reason
    c.in-Some.ensures.items (sym c.in-Some-run_with.ensures)
