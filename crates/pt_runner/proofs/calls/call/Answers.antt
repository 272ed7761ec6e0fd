-- `call`: its clause `performs`.
use Rattle.std.proofs.Common.{subst, refl}
use Rattle.pt_script.specs.declared.values.Operation.TheVariants as operation
use Rattle.std.proofs.Common.{w64, rules}
use mir.Val.{SFits}
use Rattle.std.specs.Prelude.{ℤ}
use Rattle.std.proofs.lemmas.Int.{to_z-of_z}
use Rattle.pt_runner.specs.Acting.{Sends}
use Rattle.pt_runner.proofs.Acting.{performs_as, performs_nothing}
use Rattle.pt_runner.proofs.calls.call.Goals as goal

pub returns-in-Check-clause-performs : goal.returns-in-Check-clause-performs
returns-in-Check-clause-performs c = performs_as c.args.pids.now c.args.p c.args.operation (operation.Check c.in-Check.pattern) c.args.desk.now.shard c.args.references.now.items c.take.result c.take.new.desk.shard c.args.references.now.items c.in-Check.is (c.take.ensures.does, refl)

pub returns-in-ReceiveAfter-clause-performs : goal.returns-in-ReceiveAfter-clause-performs
returns-in-ReceiveAfter-clause-performs c = performs_as c.args.pids.now c.args.p c.args.operation (operation.ReceiveAfter c.in-ReceiveAfter.pattern _) c.args.desk.now.shard c.args.references.now.items c.take-in-ReceiveAfter.result c.take-in-ReceiveAfter.new.desk.shard c.args.references.now.items c.in-ReceiveAfter.is (c.take-in-ReceiveAfter.ensures.does, refl)

pub returns-in-Link-clause-performs : goal.returns-in-Link-clause-performs
returns-in-Link-clause-performs c = performs_as c.args.pids.now c.args.p c.args.operation (operation.Link c.in-Link.to) c.args.desk.now.shard c.args.references.now.items c.link.result c.link.new.desk.shard c.args.references.now.items c.in-Link.is (c.link.ensures.does, refl)

pub returns-in-Unlink-clause-performs : goal.returns-in-Unlink-clause-performs
returns-in-Unlink-clause-performs c = performs_as c.args.pids.now c.args.p c.args.operation (operation.Unlink c.in-Unlink.to) c.args.desk.now.shard c.args.references.now.items c.unlink.result c.unlink.new.desk.shard c.args.references.now.items c.in-Unlink.is (c.unlink.ensures.does, refl)

pub returns-in-Monitor-clause-performs : goal.returns-in-Monitor-clause-performs
returns-in-Monitor-clause-performs c = performs_as c.args.pids.now c.args.p c.args.operation (operation.Monitor c.in-Monitor.to c.in-Monitor.tag) c.args.desk.now.shard c.args.references.now.items c.monitor.result c.monitor.new.desk.shard c.monitor.new.references.items c.in-Monitor.is c.monitor.ensures.does

pub returns-in-Demonitor-clause-performs : goal.returns-in-Demonitor-clause-performs
returns-in-Demonitor-clause-performs c = performs_as c.args.pids.now c.args.p c.args.operation (operation.Demonitor c.in-Demonitor.tag c.in-Demonitor.flush) c.args.desk.now.shard c.args.references.now.items c.demonitor.result c.demonitor.new.desk.shard c.args.references.now.items c.in-Demonitor.is (c.demonitor.ensures.does, refl)

pub returns-in-Alive-clause-performs : goal.returns-in-Alive-clause-performs
returns-in-Alive-clause-performs c = performs_as c.args.pids.now c.args.p c.args.operation (operation.Alive c.in-Alive.to c.in-Alive.tag) c.args.desk.now.shard c.args.references.now.items c.ask_alive.result c.ask_alive.new.desk.shard c.ask_alive.new.references.items c.in-Alive.is c.ask_alive.ensures.does

pub returns-in-Trap-clause-performs : goal.returns-in-Trap-clause-performs
returns-in-Trap-clause-performs c = performs_as c.args.pids.now c.args.p c.args.operation (operation.Trap c.in-Trap.on) c.args.desk.now.shard c.args.references.now.items c.progress_of.result c.trap.new.self.shard c.args.references.now.items c.in-Trap.is ((c.trap.result, c.trap.ensures.does, c.progress_of.ensures), refl)

pub returns-in-Exit-clause-performs : goal.returns-in-Exit-clause-performs
returns-in-Exit-clause-performs c = performs_as c.args.pids.now c.args.p c.args.operation (operation.Exit c.in-Exit.reason) c.args.desk.now.shard c.args.references.now.items c.progress_of-in-Exit.result c.exit.new.self.shard c.args.references.now.items c.in-Exit.is ((c.exit.result, c.exit.ensures.does, c.progress_of-in-Exit.ensures), refl)

pub returns-in-Signal-clause-performs : goal.returns-in-Signal-clause-performs
returns-in-Signal-clause-performs c = performs_as c.args.pids.now c.args.p c.args.operation (operation.Signal c.in-Signal.to c.in-Signal.reason) c.args.desk.now.shard c.args.references.now.items c.exit_signal.result c.exit_signal.new.desk.shard c.args.references.now.items c.in-Signal.is (c.exit_signal.ensures.does, refl)

pub returns-in-Pass-clause-performs : goal.returns-in-Pass-clause-performs
returns-in-Pass-clause-performs c = performs_nothing c.args.pids.now c.args.p c.args.operation c.args.desk.now.shard c.args.references.now.items c.in-Pass.is

pub returns-in-Send-clause-performs : goal.returns-in-Send-clause-performs
returns-in-Send-clause-performs c =
    let fits : SFits w64 c.in-Send.num = search rules in
    performs_as c.args.pids.now c.args.p c.args.operation (operation.Send c.in-Send.to c.in-Send.kind c.in-Send.num c.in-Send.who) c.args.desk.now.shard c.args.references.now.items c.send.result c.send.new.desk.shard c.args.references.now.items c.in-Send.is
    (subst (λ (n : ℤ). Sends c.args.pids.now c.args.p c.in-Send.to c.in-Send.kind n c.in-Send.who c.args.desk.now.shard c.send.result c.send.new.desk.shard) (to_z-of_z w64 c.in-Send.num fits) c.send.ensures.does, refl)
