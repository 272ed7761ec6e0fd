-- Worked histories, the newest event first.
use Rattle.std.specs.Prelude.{◌≡◌, ℕ, true, [], ◌∷◌, Some, None, pos}
use Rattle.pt_signal.specs.declared.pid.Pid.{Pid}
use Rattle.pt_signal.specs.declared.item.Body.{Body}
use Rattle.pt_signal.specs.declared.ids.LinkId.{LinkId}
use Rattle.pt_signal.specs.declared.item.Pick.{Pick}
use Rattle.pt_signal.specs.declared.item.Item.{Item}
use Rattle.pt_signal.specs.declared.item.Item.TheVariants.{User}
use Rattle.pt_signal.specs.declared.reason.Reason.TheVariants.{Normal, Noproc, Other}
use Rattle.pt_signal.specs.declared.signal.Signal.TheVariants.{Message, Link, LinkExit}
use Rattle.pt_events.specs.declared.event.Event.TheVariants.{Born, Said, Came, Took, Flag, Left}
use Rattle.pt_signal.specs.Process.{one_id, held}
use Rattle.pt_events.specs.History.{Past, IsLegal, alive, state}
use Rattle.pt_laws.specs.Load.{IsQuiet}

abbrev pub pid : ℕ → Pid
pid n = record { shard = 0; slot = n; version = 1 }

abbrev pub body : ℕ → ℕ → Body
body k n = record { kind = k; num = pos n; who = None }

abbrev pub link_numbered : ℕ → LinkId
link_numbered n = record { desk = 0; number = n }

-- two processes send each other a message, take it and exit
abbrev pub ten_lines : Past
ten_lines =
    Left (pid 0) Normal
    ∷ Left (pid 1) Normal
    ∷ Took (pid 0) (Pick.Kind 2) (User (pid 1) (body 2 8))
    ∷ Came (pid 1) (pid 0) (Message (body 2 8))
    ∷ Said (pid 1) (pid 0) (Message (body 2 8))
    ∷ Took (pid 1) (Pick.Kind 1) (User (pid 0) (body 1 7))
    ∷ Came (pid 0) (pid 1) (Message (body 1 7))
    ∷ Said (pid 0) (pid 1) (Message (body 1 7))
    ∷ Born (pid 1) None None
    ∷ Born (pid 0) None None
    ∷ []

abbrev pub TenLines : Type 0
TenLines = IsLegal [] ten_lines × IsQuiet [] ten_lines

-- a chain of five links; the first process ends, the second with it, and the third traps the exit
abbrev pub cascade : Past
cascade =
    Came (pid 1) (pid 2) (LinkExit (one_id (link_numbered 7)) (Other 7))
    ∷ Came (pid 0) (pid 1) (LinkExit (one_id (link_numbered 6)) (Other 7))
    ∷ Left (pid 0) (Other 7)
    ∷ Came (pid 3) (pid 4) (Link (link_numbered 9))
    ∷ Came (pid 2) (pid 3) (Link (link_numbered 8))
    ∷ Came (pid 1) (pid 2) (Link (link_numbered 7))
    ∷ Came (pid 0) (pid 1) (Link (link_numbered 6))
    ∷ Flag (pid 2) true
    ∷ Said (pid 3) (pid 4) (Link (link_numbered 9))
    ∷ Said (pid 2) (pid 3) (Link (link_numbered 8))
    ∷ Said (pid 1) (pid 2) (Link (link_numbered 7))
    ∷ Said (pid 0) (pid 1) (Link (link_numbered 6))
    ∷ Born (pid 4) None None
    ∷ Born (pid 3) None None
    ∷ Born (pid 2) None None
    ∷ Born (pid 1) None None
    ∷ Born (pid 0) None None
    ∷ []

abbrev pub Cascade : Type 0
Cascade = IsLegal [] cascade × IsQuiet [] cascade
    × ((state [] cascade (pid 2)).waiting ≡ Item.Exit (pid 1) (Other 7) ∷ [])

-- a parent that linked to its child's pid before the birth, which no desk's journal allows: each event may come, the
-- history is quiet, and the two hold different ids
abbrev pub early : Past
early =
    Came (pid 1) (pid 0) (LinkExit (one_id (link_numbered 3)) Noproc)
    ∷ Born (pid 1) (Some (pid 0)) (Some (link_numbered 5))
    ∷ Came (pid 0) (pid 1) (Link (link_numbered 3))
    ∷ Said (pid 0) (pid 1) (Link (link_numbered 3))
    ∷ Flag (pid 0) true
    ∷ Born (pid 0) None None
    ∷ []

abbrev pub EarlyLink : Type 0
EarlyLink =
    IsLegal [] early × IsQuiet [] early
    × (alive [] early (pid 0) ≡ true) × (alive [] early (pid 1) ≡ true)
    × (held (state [] early (pid 1)).links (pid 0) ≡ Some (one_id (link_numbered 5)))
    × (held (state [] early (pid 0)).links (pid 1) ≡ None)
