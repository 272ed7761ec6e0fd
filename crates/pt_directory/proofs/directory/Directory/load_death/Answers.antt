-- `Directory::load_death`: what its call of `load` asks.
use Rattle.std.proofs.Common.{◌∙◌, arith}
use Rattle.pt_directory.proofs.Words.{word_at, loads_death_as}
use Rattle.pt_directory.proofs.directory.Directory.load_death.Goals as goal

pub load-requires : goal.load-requires
load-requires c =
    let at = word_at c.self.inside.table.shared.key (record { name = c.self.inside.table.shared.table_id; desks = c.self.inside.desks; slots = c.self.inside.slots }) c.args.self.now c.args.pid c.word.result c.self.view_is c.self.invariant c.requires.pid c.word.ensures in (
      c.requires.seat ∙ at.named,
      omega arith,
      loads_death_as c.self.inside.table.shared.key c.self.inside.table.shared.table_id.slots c.args.seat.now.id c.args.seat.now.me c.args.pid.shard c.args.pid.slot _ _ c.word.result at.desks at.slots c.requires.pid.0 c.requires.pid.1 c.word.ensures c.args.version c.requires.read,
    )
