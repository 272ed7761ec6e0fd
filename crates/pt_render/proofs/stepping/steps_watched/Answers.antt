-- `steps_watched`: its contract, and its loop.
use Rattle.std.proofs.lemmas.List.{nil_from_length}
use Rattle.pt_judge.proofs.Trial.{begins}
use Rattle.pt_render.proofs.OneByOne.{begun, ended, goes_on, stopped}
use Rattle.pt_render.proofs.stepping.steps_watched.Goals as goal

pub loop-first-init : goal.loop-first-init
loop-first-init g c = begun c.args.events.now c.new-list.result.items c.new-state.result c.new-list.ensures.items (begins c.new-state.result c.new-state.ensures)

pub loop-first-preserved : goal.loop-first-preserved
loop-first-preserved g c =
    let k = c.loop-first.invariant in
    goes_on c.args.events.now c.loop-first.rest.now c.in-Some.more.now c.in-Some.first.now c.loop-first.list.items c.take_step.new.list.items c.loop-first.state c.in-Ok.next k c.in-Some.ensures.cases.0 (c.in-Ok.ensures.adds k.past k.after)

pub returns-clause-told : goal.returns-clause-told
returns-clause-told g c = ended c.args.events.now c.loop-first.rest.now c.loop-first.list.items c.loop-first.state c.loop-first.invariant (nil_from_length c.loop-first.rest.now c.in_default.ensures.cases)

pub returns-in-Err-clause-fails : goal.returns-in-Err-clause-fails
returns-in-Err-clause-fails g c =
    let k = c.loop-first.invariant in
    stopped c.args.events.now c.loop-first.rest.now c.in-Some.more.now c.in-Some.first.now c.loop-first.list.items c.loop-first.state c.in-Err.cause k c.in-Some.ensures.cases.0 (c.in-Err.ensures.fails k.past k.after)
