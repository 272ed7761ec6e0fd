-- `one_turn`: its clauses `goes_on`, `takes` and `lets`.
use Rattle.std.proofs.Common.{rules}
use Rattle.pt_desk.proofs.Turning.{goes_on_then}
use Rattle.pt_workers.proofs.running.one_turn.Goals as goal

pub returns-clause-goes_on : goal.returns-clause-goes_on
returns-clause-goes_on g c = goes_on_then _ _ _ c.step.ensures.goes_on c.turn-turned.ensures.goes_on

pub returns-clause-takes : goal.returns-clause-takes
returns-clause-takes g c = record {
  stepped = c.step.new.desk;
  worked = c.step.new.self;
  step = c.step.ensures.does;
  goes_on = c.step.ensures.goes_on;
  turned = c.turn-turned.result;
  turn = c.turn-turned.ensures.turns;
  hears = c.turned.ensures;
}

pub returns-then-not-turn_begins-clause-lets : goal.returns-then-not-turn_begins-clause-lets
returns-then-not-turn_begins-clause-lets g c = search rules

pub returns-clause-lets : goal.returns-clause-lets
returns-clause-lets g c = search rules
