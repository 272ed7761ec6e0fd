-- `Directory::probe`: its clause `read`.
use Rattle.pt_directory.proofs.Words.{probed}
use Rattle.std.proofs.Common.{◌∙◌, arith}
use Rattle.pt_directory.proofs.directory.Directory.probe.Goals as goal

pub returns-clause-read : goal.returns-clause-read
returns-clause-read c = (
  c.load_version-version.result,
  probed c.seat.inside.inner.me c.load_version-version.new.seat.me c.load_death.new.seat.me c.seat.inside.inner.table_id c.load_death.new.seat.table_id c.args.seat.now c.args.pid.shard c.args.pid.slot c.load_version-version.result c.load_death.result
      c.seat.view_is (c.load_death.ensures.same.0 ∙ c.load_version-version.ensures.same.0) c.load_version-version.ensures.read.0 c.load_death.ensures.stamped,
  omega (arith, c.if-version-from.false, c.from.ensures),
)
