-- `Mailbox::push`: that the mark stays true.
use Rattle.std.proofs.Common.{◌-◌, ◌*◌, ◌≤◌, ◌∷◌, [], length, drop, ap, sym, subst, ◌∙◌, arith, length-append, length-drop}
use Rattle.std.proofs.lemmas.List.{drop-append-le}
use Rattle.pt_process.specs.declared.mailbox.Mailbox.TheInside.{Inside}
use Rattle.pt_process.specs.Marks.{IsMarked}
use Rattle.pt_process.proofs.MarkLemmas.{IsMarked-noted}
use Rattle.pt_process.proofs.mailbox.Mailbox.push.Goals.{then-len-capacity+in_ok-reserve, else-len-capacity}
use Rattle.pt_process.proofs.mailbox.Mailbox.push.Goals as goal

abbrev IsKept : Inside → Type 0
IsKept m = (2 * m.head ≤ length m.items.items) × IsMarked m.top (m.mark - m.head) (drop m.head m.items.items)

pub invariant_of-self-2 : goal.invariant_of-self-2
invariant_of-self-2 c =
    let i = c.self.inside in
    let j = c.if-len-capacity.self-inside in
    let kept : IsKept j = elim c.if-len-capacity.branch [
      | then-len-capacity+in_ok-reserve w ↦ subst IsKept (sym w.self-inside-is)
          (subst (λ l. (2 * i.head ≤ length l) × IsMarked i.top (i.mark - i.head) (drop i.head l)) (sym w.reserve.ensures.items) c.self.invariant)
      | else-len-capacity w ↦ subst IsKept (sym w.self-inside-is) c.self.invariant
    ] in
    let all = c.push_reserved.ensures.items in
    let rest = ap (drop j.head) all ∙ drop-append-le j.head j.items.items (c.args.item ∷ []) (omega (arith, kept.0)) in (
      omega (arith, kept.0, ap length all, length-append j.items.items (c.args.item ∷ [])),
      rw (rest, c.note.ensures.top, c.note.ensures.mark)
          (IsMarked-noted _ j.top c.len-places.result j.mark j.head (drop j.head j.items.items) c.args.item (sym c.answer_number.ensures)
          (omega (arith, c.len-places.ensures, j.items.ok.0, length-drop j.head j.items.items)) kept.1),
    )
