-- `Runner::enter`: its clause `knows`.
use Rattle.std.proofs.Common.{◌∷◌, ◌++◌, [], Vec, Global, ℕ, Some, set, ap}
use Rattle.pt_runner.specs.Acting.{PidTable}
use Rattle.pt_runner.proofs.Waiting.{knows_by, knows_listed}
use Rattle.pt_runner.proofs.runner.Runner.enter.Goals as goal

pub returns-in-Ok-clause-knows : goal.returns-in-Ok-clause-knows
returns-in-Ok-clause-knows c = λ d k.
    let first = c.args.self.now in
    let last = c.list.new.self in
    let i = c.args.process in
    let p = c.in-Ok.child in
    let child = c.list.ensures.actors in
    let plans = ap (λ (t : PidTable). t.plans) c.list.ensures.table in
    let pids = ap (λ (t : PidTable). t.pids) c.list.ensures.table in
    let came = ap (λ (v : Vec ℕ Global). v.items) c.list.ensures.rest.2 in
    knows_by first.script.now.processes last.script.now.processes (set first.pids.items i (Some p)) last.pids.items (first.actors.items ++ child.0 ∷ []) last.actors.items first.came.items last.came.items first.read last.read d
    plans pids child.2 came c.list.ensures.rest.1
    (knows_listed first.script.now.processes first.pids.items first.actors.items first.came.items first.read d i p child.0 k child.1 c.requires.free)
