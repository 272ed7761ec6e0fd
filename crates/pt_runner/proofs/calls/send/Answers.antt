-- `send`: its clause `does`.
use Rattle.std.proofs.Common.{Bool, Option, Some, sym, subst, ap, w64, ◌∙◌}
use Rattle.std.specs.Prelude.{ℤ}
use Rattle.std.proofs.lemmas.Int.{to_z-of_z}
use Rattle.pt_events.specs.declared.event.Event.{Event}
use Rattle.pt_shard.specs.ShardState.{lives}
use Rattle.pt_shard.specs.Calls.{Calls}
use Rattle.pt_desk.specs.Reaching.{Reaches}
use Rattle.pt_signal.specs.declared.pid.Pid.{Pid}
use Rattle.pt_signal.specs.declared.signal.Signal.TheVariants.{Message}
use Rattle.pt_events.specs.declared.event.Event.TheVariants.{Said}
use Rattle.pt_runner.specs.Acting.{pid_if}
use Rattle.pt_runner.proofs.Acting.{reach_passed, reach_at}
use Rattle.pt_runner.proofs.calls.send.Goals as goal

pub returns-in_default-clause-does : goal.returns-in_default-clause-does
returns-in_default-clause-does c = reach_passed _ c.args.p _ _ c.args.desk.now.shard (sym c.target.ensures.target ∙ c.in_default.is)

pub returns-clause-does : goal.returns-clause-does
returns-clause-does c =
    let p = c.args.p in
    let t = c.in-Some.to in
    let message : ℤ → Option Pid → Option Event = λ n w. Some (Said p t (Message (record { kind = c.args.kind; num = n; who = w }))) in
    let old = c.args.desk.now in
    let looks : Pid → Bool = λ q. lives old.shard p in
    let reaches = subst (λ (n : ℤ). Reaches (lives old.shard p) p t (Calls p (Some (Said p t (Message (record { kind = c.args.kind; num = n; who = c.pid_if-who.result })))) (tt {0}) old.shard c.send.result c.send.new.self.shard) old c.send.result c.send.new.self) (to_z-of_z w64 c.args.num c.ranges.num) c.send.ensures.does in
    reach_at _ t p looks (λ (q : Pid). Some (Said p q (Message (record { kind = c.args.kind; num = c.args.num; who = pid_if c.args.pids.now c.args.who })))) (message c.args.num c.pid_if-who.result) old c.send.new.self c.send.result c.progress_of.result
    (sym c.target.ensures.target ∙ c.in-Some.is) (ap (λ (w : Option Pid). message c.args.num w) c.pid_if-who.ensures) reaches c.progress_of.ensures
