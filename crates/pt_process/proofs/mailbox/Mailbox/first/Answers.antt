-- `Mailbox::first`: its contract.
use Rattle.std.proofs.Common.{sym, ◌∙◌}
use Rattle.std.proofs.lemmas.Option.{slice_get-get_or}
use Rattle.pt_signal.specs.Values.{fits}
use Rattle.pt_process.proofs.PlaceLemmas.{IsFirst-place, IsFirst-none, within_from_position}
use Rattle.pt_process.proofs.mailbox.Mailbox.first.Goals as goal

pub returns-in-Some : goal.returns-in-Some
returns-in-Some c =
    let at = sym c.position.ensures ∙ c.in-Some.is in
    IsFirst-place (fits c.args.pick) _ _ _ at (rw c.as_slice.ensures (slice_get-get_or _ _ _ (within_from_position (fits c.args.pick) _ _ at)))

pub returns-in-None : goal.returns-in-None
returns-in-None c = IsFirst-none (fits c.args.pick) _ (sym c.position.ensures ∙ c.in-None.is)
