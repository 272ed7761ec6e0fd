-- `no_two_print_alike`: its contract.
use Rattle.std.proofs.Common.{refl}
use Rattle.pt_texts.proofs.Parsed.{apart}
use Rattle.pt_texts.proofs.Printed.{pid_reads, ref_reads, link_id_reads, ids_reads, reason_reads, body_reads, item_reads, pick_reads, signal_reads, letter_reads}
use Rattle.pt_texts.proofs.Told.{event_reads, stamped_reads, left_over_reads}
use Rattle.pt_texts.proofs.Recorded.{record_reads}
use Rattle.pt_texts.proofs.laws.no_two_print_alike.Goals as goal

pub returns : goal.returns
returns c = record {
  pids = apart _ _ _ _ pid_reads tt;
  refs = apart _ _ _ _ ref_reads tt;
  link_ids = apart _ _ _ _ link_id_reads tt;
  ids = apart _ _ _ _ ids_reads tt;
  reasons = apart _ _ _ _ reason_reads tt;
  bodies = apart _ _ _ _ body_reads (tt, refl);
  items = apart _ _ _ _ item_reads (tt, refl);
  picks = apart _ _ _ _ pick_reads tt;
  signals = apart _ _ _ _ signal_reads (tt, refl);
  letters = apart _ _ _ _ letter_reads tt;
  events = apart _ _ _ _ event_reads tt;
  lines = apart _ _ _ _ stamped_reads tt;
  left_overs = apart _ _ _ _ left_over_reads tt;
  records = apart _ _ _ _ record_reads tt;
}
