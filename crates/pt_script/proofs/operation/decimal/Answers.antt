-- `decimal`: its contract.
use Rattle.std.proofs.Common.{sym, rules}
use Rattle.pt_script.proofs.NumberFacts.{number_accepted, number_refused}
use Rattle.pt_script.proofs.operation.decimal.Goals as goal

pub returns-in-Ok : goal.returns-in-Ok
returns-in-Ok c = sym (number_accepted c.args.digits.now c.in-Ok.number c.in-Ok.ensures.value.0 (search rules))

pub returns-in-Err : goal.returns-in-Err
returns-in-Err c = sym (number_refused c.args.digits.now c.in-Err.field-0 c.in-Err.ensures.value.0 (search rules))
