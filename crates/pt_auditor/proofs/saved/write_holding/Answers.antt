-- `write_holding`: its contract.
use Rattle.pt_auditor.specs.Rests.{holds_so}
use Rattle.pt_auditor.proofs.Reread.{held_written}
use Rattle.pt_auditor.proofs.saved.write_holding.Goals as goal

pub returns : goal.returns
returns c =
    held_written (holds_so c.args.holding.now) _ _ _ _ _ _ _ _ _ c.as_slice.ensures.value c.as_slice-2.ensures.value c.as_slice-3.ensures.value c.as_slice-4.ensures.value
    c.in_ok-write_waiting.ensures c.in_ok-write_links.ensures c.in_ok-write_watching.ensures c.in_ok-write_kept.ensures
