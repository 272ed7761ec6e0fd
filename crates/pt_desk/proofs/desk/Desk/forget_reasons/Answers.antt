-- `Desk::forget_reasons`: its contract, the invariant of `self`, and what its call of `Shard::forget_reasons` asks.
use Rattle.std.proofs.Common.{◌≡◌, [], sym, subst}
use Rattle.std.specs.Arc.{arc_value}
use Rattle.pt_desk.specs.DeskState.{DeskState}
use Rattle.pt_desk.proofs.Seating.{sight_of}
use Rattle.pt_desk.proofs.Forgetful.{forgot_whole}
use Rattle.pt_desk.proofs.desk.Desk.forget_reasons.Goals as goal

pub invariant_of-self : goal.invariant_of-self
invariant_of-self c =
    let s = c.self.inside.shard in
    let none : s.journal ≡ [] = subst (λ (d : DeskState). d.shard.journal ≡ []) (sym c.self.view_is) c.requires.fresh in
    forgot_whole s c.self.inside.outs c.self.inside.ins (sight_of (arc_value c.self.inside.directory) c.self.inside.seat c.self.inside.before) c.self.inside.seat
    c.forget_reasons-2.new.self c.forget_reasons-2.ensures.forgets c.forget_reasons-2.ensures.bare none c.self.invariant
    c.forget_reasons.new.self c.forget_reasons.ensures.forgets c.forget_reasons.ensures.fit
