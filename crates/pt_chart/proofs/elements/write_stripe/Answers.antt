-- `write_stripe`: its contract.
use Rattle.std.proofs.Common.{append_assoc}
use Rattle.pt_chart.specs.Text.{stripe_text}
use Rattle.pt_chart.proofs.Writing.{reads_as}
use Rattle.pt_chart.proofs.elements.write_stripe.Goals as goal

pub returns : goal.returns
unfolding stripe_text
returns c = reads_as _ _ _ _ (stripe_text c.args.parity c.args.x c.args.height) c.write.ensures.bytes (simp append_assoc)
