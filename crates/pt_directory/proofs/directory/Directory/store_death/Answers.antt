-- `Directory::store_death`: what its call of `store` asks.
use Rattle.std.proofs.Common.{ℕ, ◌+◌, sym, ◌∙◌, subst, arith}
use Rattle.atomic_table.specs.Table.{step, Allows}
use mathlib.Core.Option.{none}
use Rattle.pt_directory.specs.Rule.{Ruled, DeathStored}
use Rattle.pt_directory.proofs.Words.{word_at, stores_death_as}
use Rattle.pt_directory.proofs.directory.Directory.store_death.Goals as goal

pub store-requires : goal.store-requires
store-requires g c =
    let at = word_at c.self.inside.table.shared.key (record { name = c.self.inside.table.shared.table_id; desks = c.self.inside.desks; slots = c.self.inside.slots }) c.args.self.now c.args.pid c.word.result c.self.view_is c.self.invariant c.requires.pid c.word.ensures in (
      c.requires.seat ∙ at.named,
      omega arith,
      subst (λ (z : ℕ × ℕ × ℕ). Allows (Ruled c.self.inside.table.shared.key) c.self.inside.table.shared.table_id.slots c.args.seat.now.id c.args.seat.now.me (c.word.result + 1) (λ _. c.args.stamp) (λ _. DeathStored z.0 z.1 z.2 (step c.self.inside.table.shared.table_id.slots (c.word.result + 1) c.args.stamp 0 none) c.args.seat.now.me c.args.stamp))
          (λ i. (sym c.requires.numbers.0 i, sym c.requires.numbers.1 i, sym c.requires.numbers.2 i))
          (stores_death_as c.self.inside.table.shared.key c.self.inside.table.shared.table_id.slots c.args.seat.now.id c.args.seat.now.me c.args.pid.shard c.args.pid.slot _ _ c.word.result at.desks at.slots c.requires.pid.0 c.requires.pid.1 c.word.ensures c.args.pid.version c.args.stamp c.requires.home.0 c.requires.home.1 c.requires.version c.requires.stamp),
    )
