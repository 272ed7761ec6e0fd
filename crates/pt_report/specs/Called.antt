-- What the processes of a script are called: the pids of its runners, each with a name.
use Rattle.std.specs.Prelude.{ℕ, ◌==◌, cond, List, [], ◌∷◌, slice_index_or, Option, Some, None}
use Rattle.pt_signal.specs.declared.pid.Pid.{Pid}
use Rattle.pt_chart.specs.Drawing.{each_numbered}
use Rattle.pt_runner.specs.declared.runner.Runner.{Runner}
use Rattle.pt_runner.specs.Acting.{table}

-- the pid of the process with this number, if it was born and is of desk d, and its name
abbrev pub called_one : List (List ℕ) → ℕ → ℕ → Option Pid → List (Pid × List ℕ)
called_one names d process None = []
called_one names d process (Some p) = cond (p.shard == d) ((p, slice_index_or names process []) ∷ []) []

-- those of desk d, whose runner this is
abbrev pub called_on : List (List ℕ) → ℕ → Runner → List (Pid × List ℕ)
called_on names d r = each_numbered (called_one names d) (table r).pids

-- the pids of a script's processes, each with the name that stands at its process's number
abbrev pub called_by : List (List ℕ) → List Runner → List (Pid × List ℕ)
called_by names runners = each_numbered (called_on names) runners
