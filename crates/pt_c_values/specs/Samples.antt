-- Samples of the structs of values: their fields have the numbers 1, 2, 3 and so on in order, a bool being true.
use Rattle.std.specs.Prelude.{ℕ, ◌+◌, true, pos}
use Rattle.pt_c_values.specs.declared.types.PtPid.{PtPid}
use Rattle.pt_c_values.specs.declared.types.PtRef.{PtRef}
use Rattle.pt_c_values.specs.declared.types.PtReason.{PtReason}
use Rattle.pt_c_values.specs.declared.types.PtIds.{PtIds}
use Rattle.pt_c_values.specs.declared.types.PtBody.{PtBody}
use Rattle.pt_c_values.specs.declared.types.PtPick.{PtPick}
use Rattle.pt_c_values.specs.declared.types.PtItem.{PtItem}
use Rattle.pt_c_values.specs.declared.types.PtSignal.{PtSignal}
use Rattle.pt_c_values.specs.declared.types.PtEvent.{PtEvent}
use Rattle.pt_c_values.specs.declared.types.PtLeftOver.{PtLeftOver}
use Rattle.pt_c_values.specs.declared.types.PtTurned.{PtTurned}
use Rattle.pt_c_values.specs.declared.types.PtAccount.{PtAccount}
use Rattle.pt_c_values.specs.declared.types.PtLoss.{PtLoss}
use Rattle.pt_c_values.specs.declared.types.PtConfig.{PtConfig}
use Rattle.pt_c_values.specs.declared.types.PtNext.{PtNext}
use Rattle.pt_c_values.specs.declared.types.PtJob.{PtJob}
use Rattle.pt_c_values.specs.declared.types.PtAnswer.{PtAnswer}

-- a value whose fields have the numbers from this one on
abbrev pub sample_pid : ℕ → PtPid
sample_pid n = record { shard = n; slot = n + 1; version = n + 2 }

abbrev pub sample_ref : ℕ → PtRef
sample_ref n = record { desk = n; number = n + 1 }

abbrev pub sample_reason : ℕ → PtReason
sample_reason n = record { code = n; number = n + 1 }

abbrev pub sample_ids : ℕ → PtIds
sample_ids n = record { one = sample_ref n; has_two = true; two = sample_ref (n + 3) }

abbrev pub sample_body : ℕ → PtBody
sample_body n = record { kind = n; num = pos (n + 1); has_who = true; who = sample_pid (n + 3) }

abbrev pub sample_pick : ℕ → PtPick
sample_pick n = record { code = n; kind = n + 1; pid = sample_pid (n + 2); reference = sample_ref (n + 5) }

abbrev pub sample_item : ℕ → PtItem
sample_item n = record {
  code = n;
  alive = true;
  pid = sample_pid (n + 2);
  reference = sample_ref (n + 5);
  reason = sample_reason (n + 7);
  body = sample_body (n + 9);
}

abbrev pub sample_signal : ℕ → PtSignal
sample_signal n = record {
  code = n;
  alive = true;
  reason = sample_reason (n + 2);
  reference = sample_ref (n + 4);
  ids = sample_ids (n + 6);
  body = sample_body (n + 11);
}

abbrev pub sample_next : ℕ → PtNext
sample_next n = record { code = n; reason = sample_reason (n + 1); until = n + 3; pick = sample_pick (n + 4) }

abbrev pub sample_event : PtEvent
sample_event = record {
  stamp = 1;
  desk = 2;
  has_peer = true;
  has_link = true;
  on = true;
  code = 6;
  pid = sample_pid 7;
  peer = sample_pid 10;
  link = sample_ref 13;
  reason = sample_reason 15;
  pick = sample_pick 17;
  item = sample_item 24;
  signal = sample_signal 39;
}

abbrev pub sample_left_over : PtLeftOver
sample_left_over = record {
  from_desk = 1;
  to_desk = 2;
  from = sample_pid 3;
  to = sample_pid 6;
  stamp = 9;
  signal = sample_signal 10;
}

abbrev pub sample_job : PtJob
sample_job = record {
  code = 1;
  pid = sample_pid 2;
  tag = 5;
  item = sample_item 6;
  reason = sample_reason 21;
  was = sample_next 23;
  has_supervisor = true;
  again = true;
  supervisor = sample_pid 36;
}

abbrev pub sample_answer : PtAnswer
sample_answer = record {
  pid = sample_pid 1;
  next = sample_next 4;
}

abbrev pub sample_turned : PtTurned
sample_turned = record {
  posted = 1;
  handled = 2;
  stopped = 3;
}

abbrev pub sample_account : PtAccount
sample_account = record {
  has_ended = true;
  ended = record {
    code = 2;
    number = 3;
  };
  arrived = 4;
  taken = 5;
  waiting = 6;
}

abbrev pub sample_loss : PtLoss
sample_loss = record {
  has_exited = true;
  pid = sample_pid 2;
  reason = sample_reason 5;
  items = 7;
}

abbrev pub sample_config : PtConfig
sample_config = record {
  slots = 1;
  top_version = 2;
  lane = 3;
  start = 4;
}
