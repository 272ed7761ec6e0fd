-- Whom an end concerns.
use Rattle.std.specs.Prelude.{List, ◌++◌, map}
use Rattle.pt_signal.specs.declared.pid.Pid.{Pid}
use Rattle.pt_signal.specs.Process.{ProcessState}

-- to whom a process owes something at its end, in the order of what it owes: each linked process, each watcher, each
-- process that it watches
abbrev pub peers_held : ProcessState → List Pid
peers_held s = map (λ e. e.0) s.links ++ map (λ k. k.1) s.kept ++ map (λ m. m.1) s.watching
