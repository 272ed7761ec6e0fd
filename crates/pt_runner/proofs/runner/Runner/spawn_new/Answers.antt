-- `Runner::spawn_new`: its clauses `spawns` and `knows`.
use Rattle.std.proofs.Common.{◌≡◌, ◌<◌, inr, inl, List, length, get_or, set, ap, sym, subst, ◌∙◌, arith}
use Rattle.pt_signal.specs.declared.pid.Pid.{Pid}
use Rattle.pt_shard.specs.Calls.{BearsChild}
use Rattle.pt_script.specs.Plans.{Plan}
use Rattle.pt_runner.specs.declared.calls.Progress.{Progress}
use Rattle.pt_runner.specs.declared.runner.Actor.{Actor}
use Rattle.pt_runner.specs.Acting.{Acting, PidTable, GoesBehind, acting, came_of, table, with_born, set_acting}
use Rattle.pt_runner.proofs.Acting.{acting_within, acting_at, same_at, table_of, set_actor, child_behind, child_plans, behind_birth, with_child_same}
use Rattle.pt_runner.specs.Waiting.{KnowsOf}
use Rattle.pt_runner.proofs.Waiting.{knows_later, knows_set, unmarked_true}
use Rattle.pt_runner.proofs.runner.Runner.spawn_new.Goals as goal

pub returns-clause-spawns : goal.returns-clause-spawns
returns-clause-spawns c =
    let r = c.spawn_child-answer.result in
    let old = c.args.self.now in
    let first = old.actors.items in
    let plans = old.script.now.processes in
    let actors = c.enter.new.self.actors.items in
    let i = c.args.index in
    let mid = c.spawn_child-answer.new.self.shard in
    let last = c.conclude-2.new.desk.shard in
    let x = c.index.result.now in
    let a = c.index_mut-2.result.now in
    let b = c.conclude-2.new.self in
    let t = table old in
    let reserved : c.reserve.new.self.items ≡ first = c.reserve.ensures.items in
    let listed : table c.enter.new.self ≡ with_born c.args.process r t = c.enter.ensures.table ∙ with_child_same c.args.process r plans old.pids.items c.reserve.new.self.items first reserved in
    let more = c.as_slice-2.result.now in
    let kept : c.enter.new.self.script.now.processes ≡ plans = ap (λ (u : PidTable). u.plans) listed ∙ child_plans c.args.process r t in
    let behind = c.conclude-2.ensures.behind in
    let within : i < length first = omega (arith, c.requires.within, old.actors.ok.0) in
    let inside : i < length actors = omega (arith, within, ap length reserved, c.enter.ensures.len, c.reserve.new.self.ok.0, c.enter.new.self.actors.ok.0) in
    let is : get_or t.actors i (acting a) ≡ acting a =
    sym (child_behind c.args.process r t i (acting a) (acting_within first i within))
    ∙ ap (λ (u : PidTable). get_or u.actors i (acting a)) (sym listed)
    ∙ acting_at actors i a inside c.index_mut-2.ensures.value in
    let there : get_or t.actors i (acting x) ≡ acting x = acting_at first i x within (c.index.ensures ∙ ap (λ (xs : List Actor). get_or xs i x) reserved) in
    let mine : a.pid ≡ x.pid = ap (λ (z : Acting). z.pid) (same_at t.actors i (acting a) (acting x) (acting_within first i within) (sym is) (sym there)) in (
      acting a,
      is,
      inr (record {
        answer = r;
        between = c.spawn_child-answer.new.self.shard;
        b = acting b;
        bears = subst (λ (p : Pid). BearsChild p c.args.linked c.args.desk.now.shard r c.spawn_child-answer.new.self.shard) (sym mine) c.spawn_child-answer.ensures.does;
        behind = behind_birth plans t.pids more r (acting a) (acting b) mid last
            (subst (λ (ps : List Plan). GoesBehind ps more (came_of r) (acting a) mid (acting b) last) kept
            (subst (λ (x : Progress). GoesBehind c.enter.new.self.script.now.processes more x (acting a) mid (acting b) last) c.progress_of.ensures behind));
        table = set_actor c.enter.new.self.script.now.processes c.enter.new.self.pids.items actors i b ∙ ap (set_acting i (acting b)) listed;
      }),
    )

pub returns-then-is_err-clause-spawns : goal.returns-then-is_err-clause-spawns
returns-then-is_err-clause-spawns c =
    let old = c.args.self.now in
    let plans = old.script.now.processes in
    let pids = old.pids.items in
    let first = old.actors.items in
    let i = c.args.index in
    let a = c.index_mut.result.now in
    let b = c.conclude.new.self in
    let within : i < length first = omega (arith, c.requires.within, old.actors.ok.0) in
    let there : a ≡ get_or first i a = c.index_mut.ensures.value ∙ ap (λ (xs : List Actor). get_or xs i a) c.reserve.ensures.items in
    let off = c.conclude.ensures.behind in (
      acting a,
      acting_at first i a within there,
      inl (ap (λ (xs : List Actor). table_of plans pids (set xs i b)) c.reserve.ensures.items ∙ set_actor plans pids first i b ∙ ap (λ (x : Acting). set_acting i x (table_of plans pids first)) off.0, off.1),
    )

pub returns-then-is_err-clause-knows : goal.returns-then-is_err-clause-knows
returns-then-is_err-clause-knows c = λ k.
    let r = c.args.self.now in
    let plans = r.script.now.processes in
    let first = c.args.desk.now.shard in
    let last = c.conclude.new.desk.shard in
    let reserved : KnowsOf plans r.pids.items c.reserve.new.self.items r.came.items r.read first =
    subst (λ (xs : List Actor). KnowsOf plans r.pids.items xs r.came.items r.read first) (sym c.reserve.ensures.items) k in
    knows_set plans r.pids.items c.reserve.new.self.items r.came.items r.read last c.args.index c.conclude.new.self
    (knows_later plans r.pids.items c.reserve.new.self.items r.came.items r.read first last c.conclude.ensures.goes_on.shard reserved)
    (unmarked_true plans r.pids.items last c.conclude.new.self c.conclude.ensures.waits)

pub returns-clause-knows : goal.returns-clause-knows
returns-clause-knows c = λ k.
    let r = c.args.self.now in
    let e = c.enter.new.self in
    let first = c.args.desk.now.shard in
    let mid = c.spawn_child-answer.new.self.shard in
    let last = c.conclude-2.new.desk.shard in
    let plans = e.script.now.processes in
    let reserved : KnowsOf r.script.now.processes r.pids.items c.reserve.new.self.items r.came.items r.read first =
    subst (λ (xs : List Actor). KnowsOf r.script.now.processes r.pids.items xs r.came.items r.read first) (sym c.reserve.ensures.items) k in
    let born = knows_later r.script.now.processes r.pids.items c.reserve.new.self.items r.came.items r.read first mid c.spawn_child-answer.ensures.goes_on.shard reserved in
    let entered : KnowsOf plans e.pids.items e.actors.items e.came.items e.read mid = c.enter.ensures.knows mid born in
    knows_set plans e.pids.items e.actors.items e.came.items e.read last c.args.index c.conclude-2.new.self
    (knows_later plans e.pids.items e.actors.items e.came.items e.read mid last c.conclude-2.ensures.goes_on.shard entered)
    (unmarked_true plans e.pids.items last c.conclude-2.new.self c.conclude-2.ensures.waits)
