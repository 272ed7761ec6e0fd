-- The printed text of a line of a state.
use Rattle.std.specs.Prelude.{ℕ, List, [], ◌∷◌, ◌++◌, codes, decimal}
use Rattle.pt_signal.specs.Text.{pid_text, ref_text, ids_text, reason_text, yes_or_no_text, item_text}
use Rattle.pt_events.specs.Text.{stamped_text}
use Rattle.pt_texts.specs.declared.records.Record.{Record}
use Rattle.pt_texts.specs.declared.records.Record.TheVariants.{Head, Last, Clock, Seen, Lives, Waits, Linked, Watches}
use Rattle.pt_texts.specs.declared.records.Record.TheVariants.{Watched, Ended, End}

-- a line of a state, without its line feed
unfoldable pub record_text : Record → List ℕ
record_text (Head events desks begun) =
    codes "state of "
    ++ decimal events
    ++ codes " events on "
    ++ decimal desks
    ++ codes " desks begun "
    ++ yes_or_no_text begun
record_text (Last s) = codes "last " ++ stamped_text s
record_text (Clock desk stamp) = codes "clock " ++ decimal desk ++ codes " " ++ decimal stamp
record_text (Seen desk p) = codes "seen " ++ decimal desk ++ codes " " ++ pid_text p
record_text (Lives p traps) = codes "lives " ++ pid_text p ++ codes " traps " ++ yes_or_no_text traps
record_text (Waits i) = codes "waits " ++ item_text i
record_text (Linked p ids) = codes "linked " ++ pid_text p ++ codes " " ++ ids_text ids
record_text (Watches m p) = codes "watches " ++ ref_text m ++ codes " " ++ pid_text p
record_text (Watched m p) = codes "watched " ++ ref_text m ++ codes " " ++ pid_text p
record_text (Ended p last r) = codes "ended " ++ pid_text p ++ codes " to " ++ decimal last ++ codes " " ++ reason_text r
record_text (End sum) = codes "end " ++ decimal sum

abbrev pub record_line : Record → List ℕ
record_line r = record_text r ++ 10 ∷ []
