-- `pop_gaps`: its loop over `places`.
use Rattle.std.proofs.Common.{◌∙◌, ap, sym, arith, Some}
use Rattle.pt_entries.proofs.GapLemmas.{present-pop}
use Rattle.pt_entries.proofs.many.pop_gaps.Goals as goal

pub loop-places-preserved : goal.loop-places-preserved
loop-places-preserved g c =
    let arm = c.in-Some-default-None in
    let at = sym arm.ensures.entry ∙ ap (λ v. Some (arm.field-0-0.now, v)) arm.field-0-1-is in
    record {
      entries = present-pop c.loop-places.places.entries _ _ arm.field-0-0.now c.pop.ensures.entries at ∙ c.loop-places.invariant.entries;
      distinct = c.pop.ensures.unique;
      room = omega (arith, c.pop.ensures.room.0, c.loop-places.invariant.room);
    }
