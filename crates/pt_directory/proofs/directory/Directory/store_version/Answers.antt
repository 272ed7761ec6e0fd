-- `Directory::store_version`: what its call of `store` asks.
use Rattle.std.proofs.Common.{ℕ, sym, ◌∙◌, subst, arith}
use Rattle.atomic_table.specs.Table.{step, Allows}
use mathlib.Core.Option.{none}
use Rattle.pt_directory.specs.Rule.{Ruled, VersionStored}
use Rattle.pt_directory.proofs.Words.{word_at, begun_death, stores_version_as}
use Rattle.pt_directory.proofs.directory.Directory.store_version.Goals as goal

pub store-requires : goal.store-requires
store-requires c =
    let begun = begun_death c.args.pid c.args.seat.now.me.0.begun c.requires.begun in
    let at = word_at c.self.inside.table.shared.key (record { name = c.self.inside.table.shared.table_id; desks = c.self.inside.desks; slots = c.self.inside.slots }) c.args.self.now c.args.pid c.word.result c.self.view_is c.self.invariant c.requires.pid c.word.ensures in (
      c.requires.seat ∙ at.named,
      omega arith,
      subst (λ (v : ℕ). Allows (Ruled c.self.inside.table.shared.key) c.self.inside.table.shared.table_id.slots c.args.seat.now.id c.args.seat.now.me c.word.result (λ _. v) (λ _. VersionStored (step c.self.inside.table.shared.table_id.slots c.word.result v 0 none) c.args.seat.now.me v)) (sym c.from.ensures)
          (stores_version_as c.self.inside.table.shared.key c.self.inside.table.shared.table_id.slots c.args.seat.now.id c.args.seat.now.me c.args.pid.shard c.args.pid.slot _ _ c.word.result at.desks at.slots c.requires.pid.0 c.requires.pid.1 c.word.ensures c.args.pid.version begun.0 begun.1),
    )
