-- The parts of a supervisor: what it knows of its children, and what its program says of them.
use Rattle.pt_children.specs.Hearing.{Standing}
use Rattle.pt_supervisor.specs.declared.supervisor.Supervisor.{Supervisor}

abbrev pub standing : {S : Type 0} → Supervisor S → Standing
standing s = record {
  children = s.children;
  strategy = s.strategy;
  parent = s.parent;
  times = s.limit.times.items;
  most = s.limit.most;
  span = s.limit.span;
  timed = s.limit.timed;
  ending = s.ending;
  stopping = s.stopping;
  asked = s.asked;
  started = s.started;
  gave_up = s.gave_up;
}

-- what its program says of its children
abbrev pub program_of : {S : Type 0} → Supervisor S → S
program_of s = s.start
