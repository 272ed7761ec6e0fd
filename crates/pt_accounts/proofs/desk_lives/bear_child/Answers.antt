-- `bear_child`: its clause `observes`.
use Rattle.std.proofs.Common.{Result, Ok, Err}
use Rattle.std.specs.Prelude.{OnOk}
use Rattle.pt_accounts.proofs.Told.{observed_born}
use Rattle.pt_accounts.proofs.desk_lives.bear_child.Goals as goal

on_ok : {T E : Type 0} (P Q : Type 0) (r : Result T E) → (P → Q) → OnOk r P → OnOk r Q
on_ok P Q (Ok x) f h = f h
on_ok P Q (Err e) f h = h

pub returns-else-is_err-clause-observes : goal.returns-else-is_err-clause-observes
returns-else-is_err-clause-observes c =
    on_ok _ _ c.show-shown.result
    (observed_born c.args.slots.now.items c.bear.new.slots.items c.show-shown.new.slots.items c.args.pid c.args.parent c.args.link c.in-Some.maker c.in_ok-life.life c.in-Some.is c.in_ok-life.ensures c.in_ok-bear.ensures.puts)
    c.show-shown.ensures.changes
