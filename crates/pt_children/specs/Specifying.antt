-- A supervisor and its children as they begin.
use Rattle.std.specs.Prelude.{true, cond, List, [], map, None, length}
use Rattle.pt_children.specs.declared.children.Child.{Child}
use Rattle.pt_children.specs.declared.home.Home.TheVariants.{Here, Elsewhere}
use Rattle.pt_children.specs.declared.spec.ChildSpec.{ChildSpec}
use Rattle.pt_children.specs.declared.spec.SupervisorSpec.{SupervisorSpec}
use Rattle.pt_children.specs.declared.trial.Trial.TheVariants.{First}
use Rattle.pt_children.specs.Hearing.{Standing}

-- a child that was not started
abbrev pub child_as : ChildSpec → Child
child_as spec = record {
  pid = None;
  restart = spec.restart;
  shutdown = spec.shutdown;
  wanted = true;
  id = spec.tag;
  trial = First;
  home = cond spec.elsewhere Elsewhere Here;
}

-- a new supervisor
abbrev pub begun_as : SupervisorSpec → List ChildSpec → Standing
begun_as spec children = record {
  children = map child_as children;
  strategy = spec.strategy;
  parent = spec.parent;
  times = [];
  most = spec.most;
  span = spec.span;
  timed = spec.timed;
  ending = length (map child_as children);
  stopping = None;
  asked = None;
  started = 0;
  gave_up = None;
}
