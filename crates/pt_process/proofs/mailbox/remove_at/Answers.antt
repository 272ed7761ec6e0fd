-- `remove_at`: its clause `waiting`, if the oldest goes.
use Rattle.std.proofs.Common.{sym}
use Rattle.std.proofs.lemmas.List.{drop-drop}
use Rattle.pt_process.proofs.mailbox.remove_at.Goals as goal

pub returns-then-place-eq0-clause-waiting : goal.returns-then-place-eq0-clause-waiting
returns-then-place-eq0-clause-waiting c =
    rw c.if-place-eq0.true (sym (drop-drop 1 c.args.head.now c.args.items.now.items))
