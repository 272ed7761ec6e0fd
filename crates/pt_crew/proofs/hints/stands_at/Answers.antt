-- `stands_at`: its contract.
use Rattle.std.proofs.Common.{sym, ap, ◌∙◌, slice_get}
use Rattle.pt_crew.proofs.Places.{stands}
use Rattle.pt_crew.proofs.hints.stands_at.Goals as goal

pub returns-in-Some : goal.returns-in-Some
returns-in-Some g c =
    let i = c.args.place in
    stands c.args.members.now c.args.p.now c.in-Some.key.now i c.in-Some._member.now c.eq.result c.as_slice.ensures.unique
    (sym (c.in-Some.ensures.entry ∙ ap (λ (es : _). slice_get es i) c.as_slice.ensures.entries)) c.eq.ensures
