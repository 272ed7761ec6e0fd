-- `Directory::load_told`: its contract, and what its call of `load` asks.
use Rattle.std.proofs.Common.{ℕ, sym, ◌∙◌, subst, arith}
use mathlib.Core.Option.{none}
use Rattle.atomic_table.specs.Table.{step, Allows}
use Rattle.pt_directory.specs.Rule.{Ruled, ToldLoaded}
use Rattle.pt_directory.proofs.Words.{word_at, loads_told_as}
use Rattle.pt_directory.proofs.directory.Directory.load_told.Goals as goal

pub load-requires : goal.load-requires
load-requires g c =
    let at = word_at c.self.inside.table.shared.key (record { name = c.self.inside.table.shared.table_id; desks = c.self.inside.desks; slots = c.self.inside.slots }) c.args.self.now c.args.pid c.word.result c.self.view_is c.self.invariant c.requires.pid c.word.ensures in (
      c.requires.seat ∙ at.named,
      omega arith,
      subst (λ (z : ℕ × ℕ). Allows (Ruled c.self.inside.table.shared.key) c.self.inside.table.shared.table_id.slots c.args.seat.now.id c.args.seat.now.me c.word.result (λ x. x) (ToldLoaded z.0 z.1 (step c.self.inside.table.shared.table_id.slots c.word.result 0 0 none) c.args.seat.now.me)) (λ i. (sym c.requires.numbers.0 i, sym c.requires.numbers.1 i))
          (loads_told_as c.self.inside.table.shared.key c.self.inside.table.shared.table_id.slots c.args.seat.now.id c.args.seat.now.me c.args.pid.shard c.args.pid.slot _ _ c.word.result at.desks at.slots c.requires.pid.0 c.requires.pid.1 c.word.ensures),
    )
