-- What C passes and gets, as the table's own values. A field that the code gives no meaning to is zero.
use Rattle.std.specs.Prelude.{ℕ, ℤ, pos, ◌==◌, Bool, true, false, cond, Option, Some, None, is_some, slice_get}
use Rattle.pt_signal.specs.declared.pid.Pid.{Pid}
use Rattle.pt_signal.specs.declared.ids.Ref.{Ref}
use Rattle.pt_signal.specs.declared.ids.LinkId.{LinkId}
use Rattle.pt_signal.specs.declared.ids.Ids.{Ids}
use Rattle.pt_signal.specs.Process.{one_id}
use Rattle.pt_signal.specs.declared.reason.Reason.{Reason}
use Rattle.pt_signal.specs.declared.reason.Reason.TheVariants.{Normal, Kill, Killed, Noproc, Shutdown, Other}
use Rattle.pt_signal.specs.declared.item.Body.{Body}
use Rattle.pt_signal.specs.declared.item.Item.{Item}
use Rattle.pt_signal.specs.declared.item.Item.TheVariants.{User, Exit, Down, Alive}
use Rattle.pt_signal.specs.declared.item.Pick.{Pick}
use Rattle.pt_signal.specs.declared.item.Pick.TheVariants.{Any, Kind, From, ExitOf, DownOf, AliveOf}
use Rattle.pt_signal.specs.declared.signal.Signal.{Signal}
use Rattle.pt_signal.specs.declared.signal.Signal.TheVariants.{Message, Link, Unlink, LinkExit, Monitor, Demonitor}
use Rattle.pt_signal.specs.declared.signal.Signal.TheVariants.{AliveAsk, AliveSay}
use Rattle.pt_events.specs.declared.event.Event.{Event}
use Rattle.pt_events.specs.declared.event.Event.TheVariants.{Born, Said, Came, Took, Flag, Left, Refused}
use Rattle.pt_events.specs.declared.event.Stamped.{Stamped}
use Rattle.pt_signal.specs.declared.letter.LeftOver.{LeftOver}
use Rattle.pt_accounts.specs.declared.account.Account.{Account}
use Rattle.pt_signal.specs.declared.config.Config.{Config}
use Rattle.pt_shard.specs.declared.loss.Loss.{Loss}
use Rattle.pt_desk.specs.declared.turned.Turned.{Turned}
use Rattle.pt_desk.specs.DeskState.{DeskState}
use Rattle.pt_c_values.specs.declared.types.PtPid.{PtPid}
use Rattle.pt_c_values.specs.declared.types.PtRef.{PtRef}
use Rattle.pt_c_values.specs.declared.types.PtIds.{PtIds}
use Rattle.pt_c_values.specs.declared.types.PtReason.{PtReason}
use Rattle.pt_c_values.specs.declared.types.PtBody.{PtBody}
use Rattle.pt_c_values.specs.declared.types.PtItem.{PtItem}
use Rattle.pt_c_values.specs.declared.types.PtPick.{PtPick}
use Rattle.pt_c_values.specs.declared.types.PtSignal.{PtSignal}
use Rattle.pt_c_values.specs.declared.types.PtEvent.{PtEvent}
use Rattle.pt_c_values.specs.declared.types.PtLeftOver.{PtLeftOver}
use Rattle.pt_c_values.specs.declared.types.PtAccount.{PtAccount}
use Rattle.pt_c_values.specs.declared.types.PtConfig.{PtConfig}
use Rattle.pt_c_values.specs.declared.types.PtTurned.{PtTurned}
use Rattle.pt_c_values.specs.Codes.{stop_code}

-- nothing ----------------------------------------------------------------------------

abbrev pub no_pid : PtPid
no_pid = record { shard = 0; slot = 0; version = 0 }

abbrev pub no_ref : PtRef
no_ref = record { desk = 0; number = 0 }

abbrev pub no_ids : PtIds
no_ids = record { one = no_ref; has_two = false; two = no_ref }

abbrev pub no_reason : PtReason
no_reason = record { code = 0; number = 0 }

abbrev pub no_body : PtBody
no_body = record { kind = 0; num = pos 0; has_who = false; who = no_pid }

abbrev pub no_pick : PtPick
no_pick = record { code = 0; kind = 0; pid = no_pid; reference = no_ref }

abbrev pub no_item : PtItem
no_item = record { code = 0; alive = false; pid = no_pid; reference = no_ref; reason = no_reason; body = no_body }

abbrev pub no_signal : PtSignal
no_signal = record {
  code = 0;
  alive = false;
  reason = no_reason;
  reference = no_ref;
  ids = no_ids;
  body = no_body;
}

abbrev pub blank : ℕ → ℕ → PtEvent
blank stamp desk = record {
  stamp = stamp;
  desk = desk;
  has_peer = false;
  has_link = false;
  on = false;
  code = 0;
  pid = no_pid;
  peer = no_pid;
  link = no_ref;
  reason = no_reason;
  pick = no_pick;
  item = no_item;
  signal = no_signal;
}

-- names and reasons ------------------------------------------------------------------

abbrev pub pid_crossed : PtPid → Pid
pid_crossed p = record { shard = p.shard; slot = p.slot; version = p.version }

abbrev pub pid_out : Pid → PtPid
pid_out p = record { shard = p.shard; slot = p.slot; version = p.version }

abbrev pub ref_in : PtRef → Ref
ref_in m = record { desk = m.desk; number = m.number }

abbrev pub ref_out : Ref → PtRef
ref_out m = record { desk = m.desk; number = m.number }

abbrev pub link_out : LinkId → PtRef
link_out i = record { desk = i.desk; number = i.number }

abbrev pub ids_in_c : LinkId → Option LinkId → PtIds
ids_in_c one (Some two) = record { one = link_out one; has_two = true; two = link_out two }
ids_in_c one None = record { one = link_out one; has_two = false; two = no_ref }

abbrev pub ids_out : Ids → PtIds
ids_out ids = ids_in_c ids.one ids.two

abbrev pub reason_in_c : ℕ → ℕ → Option Reason
reason_in_c code n =
    cond (code == 0) (Some Normal) (cond (code == 1) (Some Kill) (cond (code == 2) (Some Killed)
    (cond (code == 3) (Some Noproc) (cond (code == 4) (Some Shutdown) (cond (code == 5) (Some (Other n)) None)))))

-- none, where the code is that of no reason
abbrev pub reason_in : PtReason → Option Reason
reason_in r = reason_in_c r.code r.number

abbrev pub reason_out : Reason → PtReason
reason_out Normal = record { code = 0; number = 0 }
reason_out Kill = record { code = 1; number = 0 }
reason_out Killed = record { code = 2; number = 0 }
reason_out Noproc = record { code = 3; number = 0 }
reason_out Shutdown = record { code = 4; number = 0 }
reason_out (Other n) = record { code = 5; number = n }

-- messages, items and picks ------------------------------------------------------------

abbrev pub who_in : Bool → PtPid → Option Pid
who_in true p = Some (pid_crossed p)
who_in false p = None

abbrev pub body_in : PtBody → Body
body_in b = record { kind = b.kind; num = b.num; who = who_in b.has_who b.who }

abbrev pub body_in_c : ℕ → ℤ → Option Pid → PtBody
body_in_c kind num (Some p) = record { kind = kind; num = num; has_who = true; who = pid_out p }
body_in_c kind num None = record { kind = kind; num = num; has_who = false; who = no_pid }

abbrev pub body_out : Body → PtBody
body_out b = body_in_c b.kind b.num b.who

abbrev pub pick_in_c : ℕ → PtPick → Option Pick
pick_in_c code k =
    cond (code == 0) (Some (Kind k.kind)) (cond (code == 1) (Some (From (pid_crossed k.pid)))
    (cond (code == 2) (Some (ExitOf (pid_crossed k.pid))) (cond (code == 3) (Some (DownOf (ref_in k.reference)))
    (cond (code == 4) (Some (AliveOf (ref_in k.reference))) (cond (code == 5) (Some Any) None)))))

-- none, where the code is that of no pick
abbrev pub pick_in : PtPick → Option Pick
pick_in k = pick_in_c k.code k

abbrev pub pick_out : Pick → PtPick
pick_out (Kind n) = record no_pick { code = 0; kind = n }
pick_out (From p) = record no_pick { code = 1; pid = pid_out p }
pick_out (ExitOf p) = record no_pick { code = 2; pid = pid_out p }
pick_out (DownOf m) = record no_pick { code = 3; reference = ref_out m }
pick_out (AliveOf m) = record no_pick { code = 4; reference = ref_out m }
pick_out Any = record no_pick { code = 5 }

abbrev pub item_out : Item → PtItem
item_out (User p b) = record no_item { code = 0; pid = pid_out p; body = body_out b }
item_out (Exit p r) = record no_item { code = 1; pid = pid_out p; reason = reason_out r }
item_out (Down m p r) = record no_item { code = 2; pid = pid_out p; reference = ref_out m; reason = reason_out r }
item_out (Alive m p x) = record no_item { code = 3; alive = x; pid = pid_out p; reference = ref_out m }

-- signals, events and letters ----------------------------------------------------------

abbrev pub signal_out : Signal → PtSignal
signal_out (Message b) = record no_signal { code = 0; body = body_out b }
signal_out (Link i) = record no_signal { code = 1; ids = ids_out (one_id i) }
signal_out (Unlink ids) = record no_signal { code = 2; ids = ids_out ids }
signal_out (Signal.Exit r) = record no_signal { code = 3; reason = reason_out r }
signal_out (LinkExit ids r) = record no_signal { code = 4; reason = reason_out r; ids = ids_out ids }
signal_out (Monitor m) = record no_signal { code = 5; reference = ref_out m }
signal_out (Demonitor m) = record no_signal { code = 6; reference = ref_out m }
signal_out (Signal.Down m r) = record no_signal { code = 7; reason = reason_out r; reference = ref_out m }
signal_out (AliveAsk m) = record no_signal { code = 8; reference = ref_out m }
signal_out (AliveSay m x) = record no_signal { code = 9; alive = x; reference = ref_out m }

abbrev pub pid_or_none : Option Pid → PtPid
pid_or_none (Some p) = pid_out p
pid_or_none None = no_pid

abbrev pub link_or_none : Option LinkId → PtRef
link_or_none (Some i) = link_out i
link_or_none None = no_ref

abbrev pub told_in_c : Event → PtEvent → PtEvent
told_in_c (Born p parent link) b = record b {
  has_peer = is_some parent;
  has_link = is_some link;
  code = 0;
  pid = pid_out p;
  peer = pid_or_none parent;
  link = link_or_none link;
}
told_in_c (Said p q x) b =
    record b { has_peer = true; code = 1; pid = pid_out p; peer = pid_out q; signal = signal_out x }
told_in_c (Came p q x) b =
    record b { has_peer = true; code = 2; pid = pid_out q; peer = pid_out p; signal = signal_out x }
told_in_c (Took p k i) b = record b { code = 3; pid = pid_out p; pick = pick_out k; item = item_out i }
told_in_c (Flag p on) b = record b { on = on; code = 4; pid = pid_out p }
told_in_c (Left p r) b = record b { code = 5; pid = pid_out p; reason = reason_out r }
told_in_c (Refused p q) b = record b { has_peer = true; code = 6; pid = pid_out p; peer = pid_out q }

abbrev pub event_out : Stamped → PtEvent
event_out s = told_in_c s.event (blank s.stamp s.desk)

abbrev pub left_out : LeftOver → PtLeftOver
left_out l = record {
  from_desk = l.from_desk;
  to_desk = l.to_desk;
  from = pid_out l.letter.from;
  to = pid_out l.letter.to;
  stamp = l.letter.stamp;
  signal = signal_out l.letter.signal;
}

-- turns and losses -----------------------------------------------------------------------

abbrev pub turned_out : Turned → PtTurned
turned_out t = record { posted = t.posted; handled = t.handled; stopped = stop_code t.stopped }

-- the loss with this number among those that the desk keeps, the oldest first
abbrev pub loss_numbered : DeskState → ℕ → Option Loss
loss_numbered d place = slice_get d.shard.lost place

-- settings and accounts ------------------------------------------------------------------

abbrev pub reason_or_none : Option Reason → PtReason
reason_or_none (Some r) = reason_out r
reason_or_none None = no_reason

abbrev pub account_out : Account → PtAccount
account_out a = record {
  has_ended = is_some a.ended;
  ended = reason_or_none a.ended;
  arrived = a.arrived;
  taken = a.taken;
  waiting = a.waiting;
}

abbrev pub config_in : ℕ → PtConfig → Config
config_in desks c = record {
  desks = desks;
  slots = c.slots;
  top_version = c.top_version;
  lane = c.lane;
  start = c.start;
}
