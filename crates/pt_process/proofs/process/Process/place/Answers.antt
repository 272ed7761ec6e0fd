-- `Process::place`: its contract.
use Rattle.std.proofs.Common.{sym, subst}
use Rattle.pt_signal.specs.Values.{fits}
use Rattle.pt_process.specs.Places.{IsFirstPlace}
use Rattle.pt_process.proofs.PlaceLemmas.{first_place}
use Rattle.pt_process.proofs.process.Process.place.Goals as goal

pub returns-then-head_fits : goal.returns-then-head_fits
returns-then-head_fits c =
    let test = fits c.args.pick in
    rw (← c.self.view_is) (subst (IsFirstPlace test c.self.inside.waiting) (c.head_fits.ensures c.if-head_fits.true) (first_place test c.self.inside.waiting))

pub returns : goal.returns
returns c =
    subst (λ p. IsFirstPlace (fits c.args.pick) p.state.waiting c.position.result) c.self.view_is
    (subst (IsFirstPlace (fits c.args.pick) c.self.inside.waiting) (sym c.position.ensures) (first_place (fits c.args.pick) c.self.inside.waiting))
