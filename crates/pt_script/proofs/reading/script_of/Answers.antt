-- `script_of`: what its call of `new` asks.
use Rattle.std.proofs.Common.{◌≡◌, Ok, map, rules, arith}
use Rattle.std.specs.Prelude.{codes}
use Rattle.std.proofs.lemmas.Grind.{common_steps}
use Rattle.serde_json.specs.Find.{get}
use Rattle.serde_json.specs.View.{view}
use Rattle.pt_script.specs.Members.{required, list}
use Rattle.pt_script.specs.Scripts.{settings, heads_view}
use Rattle.pt_script.proofs.SoundScripts.{parts_sound}
use Rattle.pt_script.proofs.reading.script_of.Goals as goal

pub new-requires : goal.new-requires
new-requires c =
    let d = view c.args.value.now in
    let s = c.in_ok-settings.settings in
    let said : settings d ≡ Ok s = first_of (search rules, grind (arith, common_steps)) in
    let given : required list (get (codes "processes") d) ≡ Ok (map view c.in_ok-values.values.now.items) = first_of (search rules, grind (arith, common_steps)) in
    let lists = c.in_ok-processes.ensures in
    rw c.into_tops.ensures (parts_sound d s (map view c.in_ok-values.values.now.items) (heads_view c.in_ok-heads.heads) (record { processes = c.in_ok-processes.processes.items; seen = lists.0 }) said given (rw c.deref.ensures.value at c.in_ok-heads.ensures) lists.1)
