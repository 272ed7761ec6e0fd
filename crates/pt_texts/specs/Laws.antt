-- No two values print alike.
use Rattle.std.specs.Prelude.{◌≡◌, ℕ, List}
use Rattle.pt_signal.specs.Text.{pid_text, ref_text, link_id_text, ids_text, body_text, reason_text, item_text, left_over_text}
use Rattle.pt_signal.specs.Text.{pick_text, signal_text, letter_text}
use Rattle.pt_events.specs.Text.{event_text, stamped_text}
use Rattle.pt_texts.specs.Text.{record_text}
use Rattle.pt_texts.specs.Fits.{FitsPid, FitsRef, FitsLinkId, FitsIds, FitsBody, FitsReason, FitsItem, FitsPick}
use Rattle.pt_texts.specs.Fits.{FitsSignal, FitsLetter, FitsEvent, FitsStamped, FitsLeftOver, FitsRecord}

-- values whose texts are the same are the same
abbrev pub PrintsApart : {A : Type 0} → (A → Type 0) → (A → List ℕ) → Type 0
PrintsApart {A} Fits print = (v w : A) → Fits v → Fits w → print v ≡ print w → v ≡ w

pub record AllPrintApart : Type 0 where
  pub pids : PrintsApart FitsPid pid_text
  pub refs : PrintsApart FitsRef ref_text
  pub link_ids : PrintsApart FitsLinkId link_id_text
  pub ids : PrintsApart FitsIds ids_text
  pub reasons : PrintsApart FitsReason reason_text
  pub bodies : PrintsApart FitsBody body_text
  pub items : PrintsApart FitsItem item_text
  pub picks : PrintsApart FitsPick pick_text
  pub signals : PrintsApart FitsSignal signal_text
  pub letters : PrintsApart FitsLetter letter_text
  pub events : PrintsApart FitsEvent event_text
  pub lines : PrintsApart FitsStamped stamped_text
  pub left_overs : PrintsApart FitsLeftOver left_over_text
  pub records : PrintsApart FitsRecord record_text
