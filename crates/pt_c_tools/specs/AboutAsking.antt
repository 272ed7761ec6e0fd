-- What the library reports of the structs of calls.
use Rattle.std.specs.Prelude.{pos, true}
use Rattle.pt_c_tools.specs.declared.about_asking.PtAskingAbout.{PtAskingAbout}
use Rattle.pt_c_tools.specs.declared.types.PtCall.{PtCall}
use Rattle.pt_c_tools.specs.declared.types.PtHeard.{PtHeard}
use Rattle.pt_c_tools.specs.declared.types.PtRequest.{PtRequest}

-- the fields have the numbers 1, 2, 3 and so on, in order
abbrev pub sample_call : PtCall
sample_call = record {
  client = record { shard = 1; slot = 2; version = 3 };
  server = record { shard = 4; slot = 5; version = 6 };
  monitor = record { desk = 7; number = 8 };
  has_deadline = true;
  waits = true;
  left_open = true;
  deadline = 12;
}

abbrev pub sample_request : PtRequest
sample_request = record { from = record { shard = 1; slot = 2; version = 3 }; asks = 4; number = pos 5 }

abbrev pub sample_heard : PtHeard
sample_heard = record { code = 1; answer = 2; reason = record { code = 3; number = 4 } }

abbrev pub asking_about : PtAskingAbout
asking_about = record {
  call = sample_call;
  request = sample_request;
  heard = sample_heard;
  call_size = 56;
  request_size = 24;
  heard_size = 16;
}
