-- `last_is`: whether the last run is of a reason.
use Rattle.std.proofs.Common.{◌≡◌, ◌-◌, length, slice_get, sym, ◌∙◌, Some}
use Rattle.pt_accounts.proofs.Ends.{ends_is}
use Rattle.pt_accounts.proofs.reasons.last_is.Goals as goal

pub returns-in-Some : goal.returns-in-Some
returns-in-Some c =
    let runs = c.args.runs.now in
    let last : slice_get runs (length runs - 1) ≡ Some c.in-Some.run'.now = sym c.in-Some.ensures.value in
    c.eq.ensures ∙ ends_is c.args.reason runs c.in-Some.run'.now last
