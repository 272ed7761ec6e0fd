-- `Supervisor::to_try`: its clause `within`.
use Rattle.std.proofs.Common.{◌≡◌, length, Some, sym, ◌∙◌, arith}
use Rattle.pt_children.specs.Trying.{first_failed}
use Rattle.pt_supervisor.proofs.Starting.{failed_within}
use Rattle.pt_supervisor.proofs.supervisor.Supervisor.to_try.Goals as goal

pub returns-in-Some-clause-within : goal.returns-in-Some-clause-within
returns-in-Some-clause-within g c =
    let items = c.args.self.now.children in
    let first : first_failed items (length items) ≡ Some (c.in-Some.place, c.in-Some._at) = sym c.first_failed.ensures ∙ c.in-Some.is in
    (failed_within items (length items) (c.in-Some.place, c.in-Some._at) first, omega (arith, c.if-place-self.true))
