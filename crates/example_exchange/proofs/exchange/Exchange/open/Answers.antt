-- `open`: its contract.
use Rattle.pt_desk.proofs.Turning.{goes_on_then}
use Rattle.example_exchange.proofs.exchange.Exchange.open.Goals as goal

pub returns-in_err-supervisor : goal.returns-in_err-supervisor
returns-in_err-supervisor c =
    goes_on_then c.args.desk.now c.staff.new.desk c.enter.new.desk c.staff.ensures c.enter.ensures

pub returns : goal.returns
returns c = goes_on_then c.args.desk.now c.staff.new.desk c.enter.new.desk c.staff.ensures c.enter.ensures
