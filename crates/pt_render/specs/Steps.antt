-- An event with what it changed as JSON, as a list of characters. Ids are the texts that they print.
use Rattle.std.specs.Prelude.{ℕ, List, [], ◌∷◌, ◌++◌, true, false, codes, decimal}
use Rattle.std.specs.List.{flat_map}
use Rattle.pt_signal.specs.declared.pid.Pid.{Pid}
use Rattle.pt_signal.specs.declared.ids.Ref.{Ref}
use Rattle.pt_signal.specs.Text.{pid_text, ref_text, reason_text}
use Rattle.pt_events.specs.declared.event.Stamped.{Stamped}
use Rattle.pt_auditor.specs.declared.change.Change.{Change}
use Rattle.pt_auditor.specs.declared.change.Did.{Did}
use Rattle.pt_render.specs.Json.{links_member, signal_members, item_members, event_members}

unfoldable pub watch_members : Ref → Pid → List ℕ
watch_members m p = codes "\"ref\":\"" ++ ref_text m ++ codes "\",\"peer\":\"" ++ pid_text p ++ codes "\""

-- of a change of links or monitors, or of a signal that was sent; of no other change
unfoldable pub peer_members : Change → List ℕ
peer_members (Change.Link p ids) =
    codes "\"did\":\"link\",\"peer\":\"" ++ pid_text p ++ codes "\"," ++ links_member ids
peer_members (Change.Unlink p) = codes "\"did\":\"unlink\",\"peer\":\"" ++ pid_text p ++ codes "\""
peer_members (Change.Watch m p) = codes "\"did\":\"watch\"," ++ watch_members m p
peer_members (Change.Unwatch m p) = codes "\"did\":\"unwatch\"," ++ watch_members m p
peer_members (Change.Watched m p) = codes "\"did\":\"watched\"," ++ watch_members m p
peer_members (Change.Unwatched m p) = codes "\"did\":\"unwatched\"," ++ watch_members m p
peer_members (Change.Send to x) = codes "\"did\":\"send\",\"to\":\"" ++ pid_text to ++ codes "\"," ++ signal_members x
peer_members _ = codes ""

unfoldable pub change_members : Change → List ℕ
change_members Change.Born = codes "\"did\":\"born\""
change_members (Change.End r) = codes "\"did\":\"end\",\"reason\":\"" ++ reason_text r ++ codes "\""
change_members (Change.Trap true) = codes "\"did\":\"trap\""
change_members (Change.Trap false) = codes "\"did\":\"untrap\""
change_members (Change.Queue item) = codes "\"did\":\"queue\"," ++ item_members item
change_members (Change.Take n) = codes "\"did\":\"take\",\"place\":" ++ decimal n
change_members c = peer_members c

unfoldable pub did_json : Did → List ℕ
did_json d = codes "{\"of\":\"" ++ pid_text d.of ++ codes "\"," ++ change_members d.change ++ codes "}"

-- each behind a comma
abbrev pub more_dids : List Did → List ℕ
more_dids ds = flat_map (λ d. codes "," ++ did_json d) ds

abbrev pub dids_json : List Did → List ℕ
dids_json [] = codes ""
dids_json (d ∷ ds) = did_json d ++ more_dids ds

-- an event, and what it changed, in order
unfoldable pub step_json : Stamped → List Did → List ℕ
step_json s ds =
    codes "{\"stamp\":" ++ decimal s.stamp ++ codes ",\"desk\":" ++ decimal s.desk ++ codes "," ++ event_members s.event
    ++ codes ",\"then\":[" ++ dids_json ds ++ codes "]}"
