-- `Directory::renew`: what its call of `split_seat` asks.
use Rattle.std.proofs.Common.{◌≡◌, ℕ, ◌*◌, ◌<◌, List, length, sym, ap, ◌∙◌, subst, arith, mul-pos}
use Rattle.pt_directory.specs.Seats.{SeatState}
use Rattle.pt_directory.proofs.SeatSteps.{renews, first_of}
use Rattle.pt_directory.proofs.directory.Directory.renew.Goals as goal

pub split_seat-inner-requires : goal.split_seat-inner-requires
split_seat-inner-requires c =
    let inv = c.self.invariant in
    let me = c.seat.inside.inner.me.0 in
    let homes : me.homes ≡ c.args.seat.now.homes = ap (λ (s : SeatState). s.homes) c.seat.view_is in
    let pos : 0 < c.self.inside.desks * c.self.inside.slots = mul-pos inv.3 inv.4 in
    let some_home : 0 < length me.homes = subst (λ (l : List ℕ). 0 < length l) (sym homes) c.requires.home in
    let first = first_of me.homes some_home in (
      ap (λ s. s.name) c.seat.view_is ∙ c.requires.seat ∙ sym (ap (λ n. n.name) c.self.view_is),
      omega (arith, inv.2),
      renews c.self.inside.table.shared.key c.seat.inside.inner.id first.0 first.1 me first.2 c.seat.invariant.1,
    )
