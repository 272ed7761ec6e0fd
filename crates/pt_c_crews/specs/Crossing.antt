-- What a supervisor is made of, and what is told of a crew, as C has it. A field that the code gives no meaning to is zero.
use Rattle.std.specs.Prelude.{ℕ, false, true, Option, Some, None}
use Rattle.pt_scheduler.specs.declared.member.What.{What}
use Rattle.pt_scheduler.specs.declared.member.What.TheVariants.{Start, Proceed, Item, Timeout, Exit}
use Rattle.pt_scheduler.specs.declared.member.Job.{Job}
use Rattle.pt_scheduler.specs.declared.plan.Origin.{Origin}
use Rattle.pt_c_values.specs.Crossing.{item_out, no_item, no_pid, no_reason, pid_out, reason_out}
use Rattle.pt_c_tools.specs.Nexts.{next_out, no_next}
use Rattle.pt_c_values.specs.declared.types.PtJob.{PtJob}

-- a job with its code, its process and its tag only
abbrev pub job_of : Job → ℕ → PtJob
job_of j code = record {
  code = code;
  pid = pid_out j.pid;
  tag = j.tag;
  item = no_item;
  reason = no_reason;
  was = no_next;
  has_supervisor = false;
  again = false;
  supervisor = no_pid;
}

-- one that begins, which this supervisor started, if one did
abbrev pub start_out : Job → Option Origin → PtJob
start_out j None = job_of j 0
start_out j (Some o) = record (job_of j 0) { has_supervisor = true; again = o.again; supervisor = pid_out o.supervisor }

abbrev pub job_told : Job → What → PtJob
job_told j (Start origin) = start_out j origin
job_told j Proceed = job_of j 1
job_told j (Item i) = record (job_of j 2) { item = item_out i }
job_told j Timeout = job_of j 3
job_told j (Exit r was) = record (job_of j 4) { reason = reason_out r; was = next_out was }

abbrev pub job_out : Job → PtJob
job_out j = job_told j j.what
