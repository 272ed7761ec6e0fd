-- `Flights::front`: its contract.
use Rattle.std.proofs.Common.{Some, slice_get, ap, ◌∙◌}
use Rattle.pt_judge.proofs.Filed.{first_value}
use Rattle.pt_judge.proofs.judging.flights.Flights.front.Goals as goal

pub returns-in-Some : goal.returns-in-Some
returns-in-Some c =
    ap (λ s. Some s) c.parts.ensures
    ∙ first_value c.self.inside.letters.entries c.in-Some.field-0-0.now c.in-Some.flight.now c.in-Some.ensures.first
    ∙ ap (λ z. slice_get z 0) c.self.view_is
