-- `Directory::join`: what its call of `join_seat` asks.
use Rattle.std.proofs.Common.{◌*◌, ◌<◌, sym, ap, ◌∙◌, arith, mul-pos}
use Rattle.pt_directory.proofs.SeatSteps.{joins}
use Rattle.pt_directory.proofs.directory.Directory.join.Goals as goal

pub join_seat-requires : goal.join_seat-requires
join_seat-requires c =
    let inv = c.self.invariant in
    let pos : 0 < c.self.inside.desks * c.self.inside.slots = mul-pos inv.3 inv.4 in (
      ap (λ s. s.name) c.seat.view_is ∙ c.requires.0 ∙ sym (ap (λ n. n.name) c.self.view_is),
      ap (λ s. s.name) c.other.view_is ∙ c.requires.1 ∙ sym (ap (λ n. n.name) c.self.view_is),
      c.other.invariant.0,
      omega (arith, inv.2),
      joins c.self.inside.table.shared.key c.seat.inside.inner.id c.seat.inside.inner.me.0 c.other.inside.inner.id c.other.inside.inner.me.0,
    )
