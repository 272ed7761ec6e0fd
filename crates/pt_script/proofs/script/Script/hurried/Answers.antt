-- `Script::hurried`: the script is sound.
use Rattle.std.proofs.Common.{◌≡◌, length, map, ap, subst, sym, ◌∙◌}
use Rattle.std.proofs.lemmas.List.{length-map}
use Rattle.pt_script.specs.Plans.{Whole}
use Rattle.pt_script.specs.Sound.{IsSoundScript}
use Rattle.pt_script.specs.Unrolling.{hurried_plan}
use Rattle.pt_script.proofs.Hurrying.{all_written}
use Rattle.pt_script.proofs.UnrolledScripts.{hurried_sound}
use Rattle.pt_script.proofs.script.Script.hurried.Goals as goal

pub invariant_of-self : goal.invariant_of-self
invariant_of-self c =
    let w : Whole = record { settings = c.self.inside.settings; tops = c.self.inside.tops.items; processes = c.self.inside.processes.items } in
    let same = c.as_mut_slice.ensures.value in
    let whole : c.self.inside.processes.len ≡ length w.processes = sym c.as_mut_slice.ensures.len ∙ ap length same in
    let is = c.hurry_all.ensures ∙ ap (map hurried_plan) same in
    let size : length c.hurry_all.new.processes ≡ length w.processes = ap length is ∙ length-map w.processes hurried_plan in
    subst (λ ps. IsSoundScript (record w { processes = ps })) (sym (all_written c.self.inside.processes.len w.processes c.hurry_all.new.processes whole size ∙ is)) (hurried_sound w c.self.invariant)
