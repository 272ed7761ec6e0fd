-- `Script::unrolled`: the script is sound.
use Rattle.std.proofs.Common.{ap, sym, ◌∙◌}
use Rattle.pt_script.specs.Plans.{Whole}
use Rattle.pt_script.specs.Unrolling.{unrolled_plans}
use Rattle.pt_script.proofs.UnrolledScripts.{plans_written_sound}
use Rattle.pt_script.proofs.script.Script.unrolled.Goals as goal

pub invariant_of-self : goal.invariant_of-self
invariant_of-self c =
    let w : Whole = record { settings = c.self.inside.settings; tops = c.self.inside.tops.items; processes = c.self.inside.processes.items } in
    plans_written_sound w c.in_ok-self-inside.field-0.items c.self.invariant (ap (unrolled_plans 65536 0) (sym c.as_slice.ensures.value) ∙ c.in_ok-self-inside.ensures)
