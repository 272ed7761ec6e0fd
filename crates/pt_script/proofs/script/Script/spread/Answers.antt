-- `spread`: the script is sound.
use Rattle.std.proofs.Common.{◌≡◌, ◌∙◌, ap, length, sym}
use Rattle.pt_script.specs.Plans.{Whole}
use Rattle.pt_script.specs.Spreading.{placed}
use Rattle.pt_script.proofs.Spreading.{length-placed, own_desks_sound, written_over}
use Rattle.pt_script.proofs.script.Script.spread.Goals as goal

pub invariant_of-self : goal.invariant_of-self
invariant_of-self c =
    let w : Whole = record { settings = c.self.inside.settings; tops = c.self.inside.tops.items; processes = c.self.inside.processes.items } in
    let same = c.as_mut_slice.ensures.value in
    let whole : c.self.inside.tops.len ≡ length w.tops = sym c.as_mut_slice.ensures.len ∙ ap length same in
    let is = c.place.ensures ∙ ap (placed 0) same in
    let size : length c.place.new.tops ≡ length w.tops = ap length is ∙ length-placed 0 w.tops in
    own_desks_sound w c.max.result c.len-count.result _ c.self.invariant (c.len-count.ensures ∙ whole) c.if-count-gt-MAX_DESKS.false c.max.ensures
    (written_over c.self.inside.tops.len w.tops c.place.new.tops whole size ∙ is)
