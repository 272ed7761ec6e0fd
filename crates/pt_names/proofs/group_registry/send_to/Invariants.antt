-- `send_to`: what holds in its loop over `member`.
use Rattle.std.proofs.Common.{◌≡◌, ◌+◌, None}
use Rattle.pt_desk.specs.DeskState.{GoesOn}
use Rattle.pt_behaviour.specs.Behaving.{takes}
use Rattle.pt_names.proofs.Sending.{Leads}
use Rattle.pt_names.proofs.group_registry.send_to.Given as goal

abbrev pub invariant-loop-member : goal.invariant-loop-member
invariant-loop-member l = record {
  count : l.done.sent + l.done.exited ≡ l.member-index;
  runs : l.done.stopped ≡ None;
  leads : Leads l.from l.body l.members l.initial.desk l.member-index l.done l.desk;
  taken : takes l.desk.shard.journal ≡ takes l.initial.desk.shard.journal;
  goes_on : GoesOn l.initial.desk l.desk;
}
