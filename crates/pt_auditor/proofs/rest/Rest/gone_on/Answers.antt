-- `Rest::gone_on`: its contract.
use Rattle.std.proofs.Common.{ℕ, refl, ap, ◌∙◌, []}
use Rattle.pt_auditor.specs.declared.desks.Desks.{Desks}
use Rattle.pt_auditor.proofs.Resting.{heard_over}
use Rattle.pt_auditor.proofs.rest.Rest.gone_on.Goals as goal

pub returns : goal.returns
returns c past k =
    let r = c.args.self in
    let node_of : ℕ → Desks = λ n. record { lanes = []; clocks = r.clocks; seen = r.seen; left = (0, 0); newest = n; begun = r.begun } in
    heard_over past r _ c.in_ok-state.state c.over.result k c.in_ok-state.ensures (c.over.ensures ∙ ap node_of c.newest_of.ensures) refl
