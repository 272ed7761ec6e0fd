-- `Runner::spawn`: its clauses `spawns` and `knows`, and what `spawn_new` requires.
use Rattle.std.proofs.Common.{◌≡◌, ◌<◌, List, Option, None, Some, length, set, ap, sym, subst, ◌∙◌, arith}
use Rattle.pt_signal.specs.declared.pid.Pid.{Pid}
use Rattle.pt_runner.specs.Acting.{Acting, SpawnsIfNew, acting, pid_numbered, set_acting, table}
use Rattle.pt_runner.proofs.Acting.{acting_at, set_actor, table_of}
use Rattle.pt_runner.proofs.Waiting.{knows_later, knows_set, unmarked_true}
use Rattle.pt_runner.proofs.runner.Runner.spawn.Goals as goal

pub returns-in-Some-clause-spawns : goal.returns-in-Some-clause-spawns
returns-in-Some-clause-spawns c =
    let r = c.args.self.now in
    let plans = r.script.now.processes in
    let pids = r.pids.items in
    let first = r.actors.items in
    let i = c.args.index in
    let a = c.index_mut.result.now in
    let b = c.conclude.new.self in
    let within : i < length first = omega (arith, c.requires, r.actors.ok.0) in
    let born : pid_numbered pids c.args.process ≡ Some c.in-Some._born = ap (λ (ps : List (Option Pid)). pid_numbered ps c.args.process) (sym c.as_slice.ensures.value) ∙ sym c.pid_of.ensures ∙ c.in-Some.is in
    let passed = c.conclude.ensures.behind in (
      acting a,
      acting_at first i a within c.index_mut.ensures.value,
      subst (λ (o : Option Pid). SpawnsIfNew o c.args.process c.args.linked i (acting a) (table r) c.args.desk.now.shard (table_of plans pids (set first i b)) c.conclude.new.desk.shard) (sym born)
          (set_actor plans pids first i b ∙ ap (λ (x : Acting). set_acting i x (table_of plans pids first)) passed.0, passed.1),
    )

pub returns-in-Some-clause-knows : goal.returns-in-Some-clause-knows
returns-in-Some-clause-knows c = λ k.
    let r = c.args.self.now in
    let plans = r.script.now.processes in
    let last = c.conclude.new.desk.shard in
    knows_set plans r.pids.items r.actors.items r.came.items r.read last c.args.index c.conclude.new.self
    (knows_later plans r.pids.items r.actors.items r.came.items r.read c.args.desk.now.shard last c.conclude.ensures.goes_on.shard k)
    (unmarked_true plans r.pids.items last c.conclude.new.self c.conclude.ensures.waits)

pub spawn_new-requires-clause-free : goal.spawn_new-requires-clause-free
spawn_new-requires-clause-free c = ap (λ (ps : List (Option Pid)). pid_numbered ps c.args.process) (sym c.as_slice.ensures.value) ∙ sym c.pid_of.ensures ∙ c.in-None.is

pub returns-in-None-clause-spawns : goal.returns-in-None-clause-spawns
returns-in-None-clause-spawns c =
    let new = c.spawn_new.ensures.spawns in
    let free : pid_numbered c.args.self.now.pids.items c.args.process ≡ None = ap (λ (ps : List (Option Pid)). pid_numbered ps c.args.process) (sym c.as_slice.ensures.value) ∙ sym c.pid_of.ensures ∙ c.in-None.is in (
      new.0,
      new.1,
      subst (λ (o : Option Pid). SpawnsIfNew o c.args.process c.args.linked c.args.index new.0 (table c.args.self.now) c.args.desk.now.shard (table c.spawn_new.new.self) c.spawn_new.new.desk.shard) (sym free) new.2,
    )
