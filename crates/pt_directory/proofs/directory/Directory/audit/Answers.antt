-- `Directory::audit`: what its call of `load` asks.
use Rattle.std.proofs.Common.{◌*◌, ◌<◌, sym, ap, ◌∙◌, arith, mul-pos}
use Rattle.pt_directory.proofs.Loads.{audits}
use Rattle.pt_directory.proofs.directory.Directory.audit.Goals as goal

pub load-requires : goal.load-requires
load-requires c =
    let inv = c.self.invariant in
    let pos : 0 < c.self.inside.desks * c.self.inside.slots = mul-pos inv.3 inv.4 in (
      ap (λ s. s.name) c.seat.view_is ∙ c.requires ∙ sym (ap (λ n. n.name) c.self.view_is),
      omega (arith, inv.2),
      audits c.self.inside.table.shared.key c.self.inside.table.shared.table_id.slots c.seat.inside.inner.id c.seat.inside.inner.me 0,
    )
