-- `take_hits`: its clause `does`, and its loop over `turn`.
use Rattle.std.proofs.Common.{◌≡◌, ◌+◌, ◌-◌, ℤ, Bool, true, false, Ok, Err, rules, arith, subst}
use Rattle.pt_shard.specs.ShardState.{ShardState}
use Rattle.example_uses.specs.Games.{TakesHit}
use Rattle.example_uses.proofs.Doings.{repeats_more, repeats_last, repeats_refused, repeats_none}
use Rattle.example_uses.proofs.game.take_hits.Goals as goal

pub returns-in_err-take_hit-clause-does : goal.returns-in_err-take_hit-clause-does
returns-in_err-take_hit-clause-does c =
    let e : c.from_residual.result ≡ Err c.in_err-take_hit.field-0.0 = search rules in
    let left = c.args.budget - (c.loop-turn._turn + 1) in
    rw e
    (c.loop-turn.invariant.does (Err c.in_err-take_hit.field-0.0) (c.take_hit.new.desk.shard, c.take_hit.new.health)
    (repeats_refused (TakesHit c.args.me) (c.args.budget - c.loop-turn._turn) left (c.loop-turn.desk.shard, c.loop-turn.health) (c.take_hit.new.desk.shard, c.take_hit.new.health) c.in_err-take_hit.field-0.0 (omega arith) c.in_err-take_hit.ensures.does))

pub returns-then-not-branch-clause-does : goal.returns-then-not-branch-clause-does
returns-then-not-branch-clause-does c =
    let e : c.in_ok-take_hit.field-0 ≡ false = search rules in
    let old : ShardState × ℤ = (c.loop-turn.desk.shard, c.loop-turn.health) in
    let new : ShardState × ℤ = (c.take_hit.new.desk.shard, c.take_hit.new.health) in
    c.loop-turn.invariant.does (Ok (tt {0})) new
    (repeats_last (TakesHit c.args.me) (c.args.budget - c.loop-turn._turn) (c.args.budget - (c.loop-turn._turn + 1)) old new (omega arith)
    (subst (λ (b : Bool). TakesHit c.args.me old (Ok b) new) e c.in_ok-take_hit.ensures.does))

pub loop-turn-preserved : goal.loop-turn-preserved
loop-turn-preserved c =
    let e : c.in_ok-take_hit.field-0 ≡ true = search rules in
    let old : ShardState × ℤ = (c.loop-turn.desk.shard, c.loop-turn.health) in
    let mid : ShardState × ℤ = (c.take_hit.new.desk.shard, c.take_hit.new.health) in
    record {
      does = λ r new more.
          c.loop-turn.invariant.does r new
          (repeats_more (TakesHit c.args.me) (c.args.budget - c.loop-turn._turn) (c.args.budget - (c.loop-turn._turn + 1)) old mid new r (omega arith)
          (subst (λ (b : Bool). TakesHit c.args.me old (Ok b) mid) e c.in_ok-take_hit.ensures.does) more);
      still = search rules;
    }

pub returns-clause-does : goal.returns-clause-does
returns-clause-does c =
    let new : ShardState × ℤ = (c.loop-turn.desk.shard, c.loop-turn.health) in
    c.loop-turn.invariant.does (Ok (tt {0})) new (repeats_none (TakesHit c.args.me) (c.args.budget - c.loop-turn._turn) new (omega arith))
