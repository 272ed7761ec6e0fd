-- How long the lines of a history are.
use Rattle.std.specs.Prelude.{◌≡◌, ◌<◌, length}
use Rattle.pt_events.specs.declared.event.Stamped.{Stamped}
use Rattle.pt_events.specs.Text.{stamped_text}
use Rattle.pt_signal.specs.declared.letter.LeftOver.{LeftOver}
use Rattle.pt_signal.specs.Text.{left_over_text}
use Rattle.pt_texts.specs.Fits.{FitsStamped, FitsLeftOver}
use Rattle.pt_auditor.specs.declared.fault.TheConstants.{MOST_LINE}

-- the most bytes of a line are 1024, and no event and no letter left over prints as many
abbrev pub LinesAreShort : Type 0
LinesAreShort =
    (MOST_LINE ≡ 1024)
    × ((s : Stamped) → FitsStamped s → length (stamped_text s) < MOST_LINE)
    × ((l : LeftOver) → FitsLeftOver l → length (left_over_text l) < MOST_LINE)
