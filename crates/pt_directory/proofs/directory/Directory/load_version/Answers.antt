-- `Directory::load_version`: its contract, and what its call of `load` asks.
use Rattle.std.proofs.Common.{ℕ, sym, ◌∙◌, subst, arith}
use Rattle.atomic_table.specs.Table.{Allows}
use Rattle.pt_directory.specs.Rule.{Ruled, LoadsVersion}
use Rattle.pt_directory.proofs.Words.{word_at, loads_version_as}
use Rattle.pt_directory.proofs.directory.Directory.load_version.Goals as goal

pub load-requires : goal.load-requires
load-requires g c =
    let at = word_at c.self.inside.table.shared.key (record { name = c.self.inside.table.shared.table_id; desks = c.self.inside.desks; slots = c.self.inside.slots }) c.args.self.now c.args.pid c.word.result c.self.view_is c.self.invariant c.requires.pid c.word.ensures in (
      c.requires.seat ∙ at.named,
      omega arith,
      subst (λ (z : ℕ × ℕ). Allows (Ruled c.self.inside.table.shared.key) c.self.inside.table.shared.table_id.slots c.args.seat.now.id c.args.seat.now.me c.word.result (λ x. x) (LoadsVersion z.0 z.1 c.args.seat.now.me)) (λ i. (sym c.requires.numbers.0 i, sym c.requires.numbers.1 i))
          (loads_version_as c.self.inside.table.shared.key c.self.inside.table.shared.table_id.slots c.args.seat.now.id c.args.seat.now.me c.args.pid.shard c.args.pid.slot _ _ c.word.result at.desks at.slots c.requires.pid.0 c.requires.pid.1 c.word.ensures),
    )

pub returns : goal.returns
returns g c = record {
  same = (c.load.ensures.0, c.load.ensures.1);
  read = subst (λ (z : ℕ × ℕ). LoadsVersion z.0 z.1 c.args.seat.now.me c.load.result c.load.new.seat.me) (λ i. (c.requires.numbers.0 i, c.requires.numbers.1 i)) c.load.ensures.2;
}
