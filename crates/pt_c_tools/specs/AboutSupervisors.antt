-- What the library says of supervisors: their codes, the sizes of what crosses, and a sample of each struct, whose
-- fields have the numbers 1, 2, 3 and so on in order, a bool being true.
use Rattle.std.specs.Prelude.{true}
use Rattle.pt_c_values.specs.declared.types.PtChild.{PtChild}
use Rattle.pt_c_values.specs.declared.types.PtChildCounts.{PtChildCounts}
use Rattle.pt_c_values.specs.declared.types.PtChildSpec.{PtChildSpec}
use Rattle.pt_c_values.specs.declared.types.PtGaveUp.{PtGaveUp}
use Rattle.pt_c_values.specs.declared.types.PtSupervisorSpec.{PtSupervisorSpec}
use Rattle.pt_c_tools.specs.declared.about_supervisors.PtSupervisorCodes.{PtSupervisorCodes}
use Rattle.pt_c_values.specs.Samples.{sample_pid}

abbrev pub all_supervisor_codes : PtSupervisorCodes
all_supervisor_codes = record {
  one_for_one = 0;
  one_for_all = 1;
  rest_for_one = 2;
  permanent = 0;
  transient = 1;
  temporary = 2;
  infinity = 0;
  after = 1;
  brutal_kill = 2;
  supervisor_spec = 40;
  child_spec = 32;
  child = 32;
  child_running = 23;
  child_restarting = 24;
  child_present = 25;
  child_counts = 24;
  gave_up = 48;
}

abbrev pub sample_supervisor_spec : PtSupervisorSpec
sample_supervisor_spec = record {
  strategy = 1;
  timed = true;
  has_parent = true;
  parent = sample_pid 4;
  most = 7;
  span = 8;
}

abbrev pub sample_child_spec : PtChildSpec
sample_child_spec = record { tag = 1; restart = 2; shutdown = 3; time = 4; elsewhere = true }

abbrev pub sample_child : PtChild
sample_child = record { has_pid = true; wanted = true; pid = sample_pid 3; restart = 6; shutdown = 7; time = 8 }

abbrev pub sample_child_counts : PtChildCounts
sample_child_counts = record { specs = 1; active = 2; restarting = 3 }

abbrev pub sample_gave_up : PtGaveUp
sample_gave_up = record {
  tag = 1;
  place = 2;
  reason = record { code = 3; number = 4 };
  restarts = 5;
  span = 6;
  timed = true;
}
