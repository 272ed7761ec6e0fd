-- What an explained summary says of a process that ended: why it did. No public clause cites this module.
use Rattle.std.specs.Prelude.{ℕ, ◌+◌, ◌==◌, ◌&&◌, Bool, false, true, cond, is_some, not, List, [], ◌∷◌, ◌++◌, codes, decimal}
use Rattle.std.specs.Prelude.{Option, Some, None}
use Rattle.std.specs.List.{list_any}
use Rattle.indexmap.specs.IndexMap.{get}
use Rattle.pt_signal.specs.declared.pid.Pid.{Pid}
use Rattle.pt_signal.specs.declared.reason.Reason.{Reason}
use Rattle.pt_signal.specs.declared.reason.Reason.TheVariants.{Other, Kill as KillReason}
use Rattle.pt_signal.specs.declared.signal.Signal.{Signal}
use Rattle.pt_signal.specs.declared.signal.Signal.TheVariants.{Exit as ExitSignal, LinkExit}
use Rattle.pt_signal.specs.Values.{same_pid}
use Rattle.pt_script.specs.Plans.{Plan}
use Rattle.pt_script.specs.declared.values.Operation.{Operation}
use Rattle.pt_script.specs.declared.values.Operation.TheVariants.{Monitor, Exit as ExitOp, If, Spawn}
use Rattle.pt_runner.specs.declared.runner.Runner.{Runner}
use Rattle.pt_runner.specs.Acting.{pid_numbered, plan_at, table}
use Rattle.pt_report.specs.declared.ending.Ending.{Ending}
use Rattle.pt_report.specs.declared.ending.Ending.TheVariants.{Kill, Exit, Link, Unseen}
use Rattle.pt_report.specs.declared.ending.Endings.{Endings}
use Rattle.pt_report.specs.declared.notes.Sources.{Sources}

-- what the sources have ---------------------------------------------------------------------

abbrev pub operations_in : List Plan → ℕ → List Operation
operations_in plans process = (plan_at plans process).operations

abbrev pub has_pid : ℕ → Runner → Bool
has_pid process r = is_some (pid_numbered (table r).pids process)

-- a process of the script was born
abbrev pub is_born_on : List Runner → ℕ → Bool
is_born_on runners process = list_any (has_pid process) runners

abbrev pub or_unseen : Option Ending → Ending
or_unseen None = Unseen
or_unseen (Some ending) = ending

-- what it is to be ended by this signal
abbrev pub ending_by : Pid → Signal → Ending
ending_by from (ExitSignal KillReason) = Kill from
ending_by from (LinkExit ids reason) = Link from
ending_by from _ = Exit from

-- by what a process ended, as it was played
abbrev pub ending_of : Endings → Pid → Ending
ending_of e p = or_unseen (get same_pid e.ended p)

-- a list can go on at several places behind the operation
abbrev pub is_branch : Operation → Bool
is_branch (If pattern) = true
is_branch _ = false

-- why it ended ------------------------------------------------------------------------------

abbrev pub is_other_reason : ℕ → Reason → Bool
is_other_reason n (Other m) = m == n
is_other_reason n _ = false

-- by what an operation ends its process, if it is one that ends with this reason
abbrev pub ends_by : Sources → ℕ → Reason → Operation → Option (List ℕ)
ends_by s process reason (ExitOp r) = Some (codes "exit")
ends_by s process reason (Spawn child linked) =
    cond (is_other_reason 1 reason && not (is_born_on s.runners.now child)) (Some (codes "spawn refused as full")) None
ends_by s process reason (Monitor to tag) =
    cond (is_other_reason 5 reason && (to == process)) (Some (codes "monitor refused as myself")) None
ends_by s process reason _ = None

abbrev pub first_end : ℕ → Option (List ℕ) → List ℕ → List ℕ
first_end op (Some how) later = codes " ended at op " ++ decimal op ++ codes ": " ++ how
first_end op None later = later

-- the first operation of its list that ends it; the first of these has this number
abbrev pub own_text : Sources → ℕ → Reason → ℕ → List Operation → List ℕ
own_text s process reason op [] = codes " ended behind its last op"
own_text s process reason op (operation ∷ operations) =
    first_end op (ends_by s process reason operation) (own_text s process reason (op + 1) operations)

-- the operation that ended it, by its number, and how
abbrev pub own_end_text : Option (ℕ × List ℕ) → List ℕ
own_end_text None = codes " ended behind its last op"
own_end_text (Some end) = codes " ended at op " ++ decimal end.0 ++ codes ": " ++ end.1
