-- `Directory::had_ended`: what its call of `load` asks.
use Rattle.std.proofs.Common.{◌*◌, ◌<◌, sym, ap, ◌∙◌, arith, mul-pos}
use Rattle.pt_directory.proofs.Loads.{marks}
use Rattle.pt_directory.proofs.directory.Directory.had_ended.Goals as goal

pub load-requires : goal.load-requires
load-requires c =
    let inv = c.self.invariant in
    let pos : 0 < c.self.inside.desks * c.self.inside.slots = mul-pos inv.3 inv.4 in
    let seat = c.store_version.new.seat in (
      c.store_version.ensures.same.0 ∙ c.store_death.ensures.same.0 ∙ ap (λ s. s.name) c.seat.view_is ∙ c.requires.seat.0 ∙ sym (ap (λ n. n.name) c.self.view_is),
      omega (arith, inv.2),
      marks c.self.inside.table.shared.key c.self.inside.table.shared.table_id.slots seat.id seat.me 0,
    )
