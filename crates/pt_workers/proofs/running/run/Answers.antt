-- `run`: its contract.
use Rattle.pt_workers.proofs.GoingOn.{still_desks, written}
use Rattle.pt_workers.proofs.running.run.Goals as goal

pub returns : goal.returns
returns g c =
    let old = c.args.desks.items in
    let new = c.work_all.new.desks in
    let continued = rw c.deref_mut.ensures.value at c.work_all.ensures.each in
    let worked = rw c.deref_mut.ensures.value at c.work_all.ensures.turns in
    rw (written old new c.args.desks.len continued.count c.args.desks.ok.0) (record {
      each = continued;
      turns = worked;
      desks = still_desks old new continued;
    })
