-- `Names::register`: its contract, and the invariant of `self`.
use Rattle.std.proofs.Common.{sym}
use Rattle.pt_names.specs.State.{state}
use Rattle.pt_names.proofs.Sound.{added, registers, on_ok, on_is_ok}
use Rattle.pt_names.proofs.names.Names.register.Goals as goal

pub invariant_of-self-2 : goal.invariant_of-self-2
invariant_of-self-2 c =
    added (state c.self.inside.holders c.self.inside.names) (state c.insert.new.self c.insert-2.new.self) c.self.invariant
    c.args.name c.args.pid c.args.monitor (rw (← c.self.view_is) at c.in_ok-check.ensures)
    (registers c.self.inside.holders c.insert.new.self c.self.inside.names c.reserve.new.self c.insert-2.new.self
    c.args.name c.args.pid c.args.monitor
    (on_ok _ c.insert.result (sym c.if-is_err-2.ensures.value) c.insert.ensures.updates).0 c.reserve.ensures.entries
    (on_is_ok _ c.insert-2.result
    (c.insert-2.ensures.succeeds (on_ok _ c.reserve.result (sym c.if-is_err.ensures.value) c.reserve.ensures.ok))
    c.insert-2.ensures.updates).0)

pub returns : goal.returns
returns c = (
  c.in_ok-check.ensures,
  rw (← c.self.view_is)
      (registers c.self.inside.holders c.insert.new.self c.self.inside.names c.reserve.new.self c.insert-2.new.self
      c.args.name c.args.pid c.args.monitor
      (on_ok _ c.insert.result (sym c.if-is_err-2.ensures.value) c.insert.ensures.updates).0 c.reserve.ensures.entries
      (on_is_ok _ c.insert-2.result
      (c.insert-2.ensures.succeeds (on_ok _ c.reserve.result (sym c.if-is_err.ensures.value) c.reserve.ensures.ok))
      c.insert-2.ensures.updates).0),
)
