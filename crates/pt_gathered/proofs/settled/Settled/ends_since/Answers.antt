-- `Settled::ends_since`: its clause `since`.
use Rattle.std.proofs.Common.{◌≡◌, length, sym, ap, ◌∙◌, subst, arith}
use Rattle.pt_gathered.specs.Late.{AreEndsSince, ends_below}
use Rattle.pt_gathered.specs.Quiet.{QuietState}
use Rattle.pt_gathered.proofs.Late.{are_ends_since}
use Rattle.pt_gathered.proofs.settled.Settled.ends_since.Goals as goal

pub returns-clause-since : goal.returns-clause-since
returns-clause-since c =
    let n = c.args.stamp in
    let places = c.args.places.now in
    let q : QuietState = record { gathered = c.self.inside.node; handled = c.self.inside.handled; lives = c.self.inside.lives } in
    let last : c.loop-which.which ≡ length q.gathered.shards = omega (arith, c.loop-which-test.false, c.loop-which.auto.which-end, ap length c.shards-which-end.ensures) in
    subst (λ (q : QuietState). AreEndsSince q.gathered places n c.loop-which.ends.items) c.self.view_is
    (subst (AreEndsSince q.gathered places n) (sym (c.loop-which.invariant ∙ ap (ends_below q places n) last)) (are_ends_since q c.desks-desks.ensures.gathered c.self.invariant.0 places n))
