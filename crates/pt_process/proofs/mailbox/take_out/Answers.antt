-- `take_out`: its clause `waiting`.
use Rattle.std.proofs.Common.{◌≡◌, ◌+◌, ◌-◌, ◌<◌, ◌++◌, length, take, drop, ap, ◌∙◌, arith, length-drop, length-take, length-append}
use Rattle.std.specs.List.{remove}
use Rattle.std.proofs.lemmas.List.{with_items_is}
use Rattle.pt_process.proofs.PlaceLemmas.{drop-brought_front, drop-remove}
use Rattle.pt_process.proofs.mailbox.take_out.Goals as goal

pub returns-else-place-len-clause-waiting : goal.returns-else-place-len-clause-waiting
returns-else-place-len-clause-waiting c =
    let place = c.args.place in
    let head = c.args.head.now in
    let items = c.args.items.now in
    let seen = c.deref_mut.result.now in
    let turned = c.rotate_right.new.self in
    let k = head + place + 1 - head in
    let same = c.deref_mut.ensures.value in
    let within : head + place < length seen = omega (arith, c.requires, ap length same) in
    let len : length (take head seen ++ (turned ++ drop k (drop head seen))) ≡ items.len = omega (arith, within, length-append (take head seen) (turned ++ drop k (drop head seen)), length-append turned (drop k (drop head seen)), length-take head seen, length-take k (drop head seen), length-drop head seen, length-drop k (drop head seen), c.rotate_right.ensures.len, ap length same, items.ok.0) in
    ap (drop (head + 1)) (with_items_is items (take head seen ++ (turned ++ drop k (drop head seen))) len)
    ∙ drop-brought_front seen turned head place k within (omega arith) c.rotate_right.ensures.after
    ∙ ap (λ items. remove (drop head items) place) same

pub returns-then-place-len-clause-waiting : goal.returns-then-place-len-clause-waiting
returns-then-place-len-clause-waiting c =
    ap (drop c.args.head.now) c.remove.ensures.items ∙ drop-remove c.args.items.now.items c.args.head.now c.args.place c.requires
