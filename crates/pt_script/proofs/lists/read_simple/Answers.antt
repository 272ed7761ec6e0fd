-- `read_simple`: its clause `read`.
use Rattle.std.proofs.Common.{◌≡◌, Ok, true, false, sym, ◌∙◌, rules, arith}
use Rattle.std.specs.Prelude.{codes}
use Rattle.std.specs.Str.{bytes_eq}
use Rattle.std.proofs.lemmas.Grind.{common_steps}
use Rattle.serde_json.specs.Find.{get}
use Rattle.serde_json.specs.View.{view}
use Rattle.pt_script.specs.Members.{required, text}
use Rattle.pt_script.specs.Operations.{tagged}
use Rattle.pt_script.specs.Scopes.{scope_view}
use Rattle.pt_script.proofs.StepFacts.{simple_monitor, simple_ask}
use Rattle.pt_script.proofs.lists.read_simple.Goals as goal

pub returns-in_ok-add-clause-read : goal.returns-in_ok-add-clause-read
returns-in_ok-add-clause-read c =
    let s = scope_view c.args.scope.now in
    let d = view c.args.value.now in
    let said : required text (get (codes "op") d) ≡ Ok c.in_ok-op.op.now = first_of (search rules, grind (arith, common_steps)) in
    let read : tagged s d ≡ Ok (c.in_ok-to.to, c.in_ok-to.name.now) = first_of (search rules, grind (arith, common_steps)) in
    let is : bytes_eq c.in_ok-op.op.now (codes "monitor") ≡ true = search rules in
    simple_monitor s d c.in_ok-op.op.now c.in_ok-to.name.now c.in_ok-to.to _ said is read c.in_ok-add.ensures

pub returns-in_ok-add-2-clause-read : goal.returns-in_ok-add-2-clause-read
returns-in_ok-add-2-clause-read c =
    let s = scope_view c.args.scope.now in
    let d = view c.args.value.now in
    let said : required text (get (codes "op") d) ≡ Ok c.in_ok-op.op.now = first_of (search rules, grind (arith, common_steps)) in
    let read : tagged s d ≡ Ok (c.in_ok-to-2.to, c.in_ok-to-2.name.now) = first_of (search rules, grind (arith, common_steps)) in
    let no_monitor : bytes_eq c.in_ok-op.op.now (codes "monitor") ≡ false = search rules in
    let is : bytes_eq c.in_ok-op.op.now (codes "alive") ≡ true = search rules in
    simple_ask s d c.in_ok-op.op.now c.in_ok-to-2.name.now c.in_ok-to-2.to _ said no_monitor is (sym c.can_ask.ensures ∙ c.if-can_ask.true) read c.in_ok-add-2.ensures
