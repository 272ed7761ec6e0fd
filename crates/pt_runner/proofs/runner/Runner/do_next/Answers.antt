-- `Runner::do_next`: its clauses `acts` and `knows`.
use Rattle.std.proofs.Common.{◌≡◌, ◌<◌, List, Option, length, map, set, ap, sym, subst, ◌∙◌, arith}
use Rattle.pt_signal.specs.declared.pid.Pid.{Pid}
use Rattle.pt_script.specs.declared.values.Operation.{Operation}
use Rattle.pt_script.specs.declared.values.Operation.TheVariants.{Receive, Spawn}
use Rattle.pt_runner.specs.declared.runner.Actor.{Actor}
use Rattle.pt_runner.specs.Acting.{DoesOperation, Plays, acting, table, next_of}
use Rattle.pt_runner.specs.Waiting.{IsTrueOf}
use Rattle.pt_runner.proofs.Acting.{table_of, acts_plain, acting_within, acting_at, same_at, set_actor}
use Rattle.pt_runner.proofs.Waiting.{knows_later, knows_set, unmarked_true}
use Rattle.pt_runner.proofs.runner.Runner.do_next.Goals as goal
use Rattle.pt_runner.proofs.runner.Runner.do_next.Goals.{After-receive}

-- the actor is there, and the operation is its next one
its_next : (c : After-receive) → (c.args.index < length c.args.self.now.actors.items) × (c.next-operation.result ≡ next_of c.args.self.now.script.now.processes (acting c.index_mut.result.now))
its_next c =
    let within : c.args.index < length c.args.self.now.actors.items = omega (arith, c.requires, c.args.self.now.actors.ok.0) in
    let same = same_at c.args.self.now.actors.items c.args.index c.index.result.now c.index_mut.result.now within c.index.ensures c.index_mut.ensures.value in
    (within, c.next-operation.ensures ∙ ap (λ (x : Actor). next_of c.args.self.now.script.now.processes (acting x)) same)

pub returns-in-Receive-clause-acts : goal.returns-in-Receive-clause-acts
returns-in-Receive-clause-acts c =
    let next = its_next (goal.at.returns-in-Receive-clause-acts c).After-receive in
    let r = c.args.self.now in
    let plans = r.script.now.processes in
    let a = c.index_mut.result.now in
    let b = c.receive.new.self in
    let old = c.args.desk.now.shard in
    let new = c.receive.new.desk.shard in
    let u = table_of plans r.pids.items (set r.actors.items c.args.index b) in
    let plays = subst (λ (pids : List (Option Pid)). Plays plans pids (Receive c.in-Receive.pattern) (acting a) old (acting b) new) c.as_slice.ensures.value c.receive.ensures.plays in
    record {
      within = acting_within r.actors.items c.args.index next.0;
      a = acting a;
      is = acting_at r.actors.items c.args.index a next.0 c.index_mut.ensures.value;
      acts = subst (λ (o : Operation). DoesOperation o c.args.index (acting a) (table r) old u new) (sym c.in-Receive.is ∙ next.1) (acting b, plays, set_actor plans r.pids.items r.actors.items c.args.index b);
    }

pub returns-in-Receive-clause-knows : goal.returns-in-Receive-clause-knows
returns-in-Receive-clause-knows c = λ k.
    let r = c.args.self.now in
    let plans = r.script.now.processes in
    let new = c.receive.new.desk.shard in
    let next = its_next (goal.at.returns-in-Receive-clause-knows c).After-receive in
    knows_set plans r.pids.items r.actors.items r.came.items r.read new c.args.index c.receive.new.self
    (knows_later plans r.pids.items r.actors.items r.came.items r.read c.args.desk.now.shard new c.receive.ensures.goes_on.shard k)
    (subst (λ (pids : List (Option Pid)). IsTrueOf plans pids new c.receive.new.self) c.as_slice.ensures.value (c.receive.ensures.waits plans (sym next.1 ∙ c.in-Receive.is)))

pub returns-in_default : goal.returns-in_default
returns-in_default c =
    let r = c.args.self.now in
    let plans = r.script.now.processes in
    let actors = r.actors.items in
    let i = c.args.index in
    let a = c.index_mut-in_default.result.now in
    let b = c.perform.new.self in
    let o = c.next-operation.result in
    let old = c.args.desk.now.shard in
    let new = c.perform.new.desk.shard in
    let within : i < length actors = omega (arith, c.requires, r.actors.ok.0) in
    let same : c.index.result.now ≡ a = same_at actors i c.index.result.now a within c.index.ensures c.index_mut-in_default.ensures.value in
    let next : o ≡ next_of plans (acting a) = c.next-operation.ensures ∙ ap (λ (x : Actor). next_of plans (acting x)) same in
    let u = table_of plans r.pids.items (set actors i b) in
    let plays = subst (λ (pids : List (Option Pid)). Plays plans pids o (acting a) old (acting b) new) c.as_slice-in_default.ensures.value c.perform.ensures.plays in
    record {
      acts = record {
        within = acting_within actors i within;
        a = acting a;
        is = acting_at actors i a within c.index_mut-in_default.ensures.value;
        acts = subst (λ (x : Operation). DoesOperation x i (acting a) (table r) old u new) next
            (acts_plain o i (acting a) (acting b) (table r) u old new c.in_default.not-Spawn plays (set_actor plans r.pids.items actors i b));
      };
      knows = λ k. knows_set plans r.pids.items actors r.came.items r.read new i b (knows_later plans r.pids.items actors r.came.items r.read old new c.perform.ensures.goes_on.shard k)
          (unmarked_true plans r.pids.items new b c.perform.ensures.waits);
      len = omega arith;
      ends = c.perform.ensures.ends;
      goes_on = c.perform.ensures.goes_on;
    }

pub returns-in-Spawn-clause-acts : goal.returns-in-Spawn-clause-acts
returns-in-Spawn-clause-acts c =
    let r = c.args.self.now in
    let plans = r.script.now.processes in
    let actors = r.actors.items in
    let i = c.args.index in
    let x = c.index.result.now in
    let spawns = c.spawn.ensures.spawns in
    let within : i < length actors = omega (arith, c.requires, r.actors.ok.0) in
    let same : spawns.0 ≡ acting x = same_at (map acting actors) i spawns.0 (acting x) (acting_within actors i within) (sym spawns.1) (sym (acting_at actors i x within c.index.ensures)) in
    let next : next_of plans spawns.0 ≡ Spawn c.in-Spawn.process c.in-Spawn.linked = ap (next_of plans) same ∙ sym c.next-operation.ensures ∙ c.in-Spawn.is in
    record {
      within = acting_within actors i within;
      a = spawns.0;
      is = spawns.1;
      acts = subst (λ (o : Operation). DoesOperation o i spawns.0 (table r) c.args.desk.now.shard (table c.spawn.new.self) c.spawn.new.desk.shard) (sym next) spawns.2;
    }
