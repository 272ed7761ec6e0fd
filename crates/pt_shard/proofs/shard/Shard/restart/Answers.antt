-- `Shard::restart`: its clauses `processes`, `known` and `fit`, and the invariant of `result`.
use Rattle.std.proofs.Common.{◌≤◌, sym, subst}
use Rattle.pt_shard.specs.ShardState.{ShardState}
use Rattle.pt_shard.specs.Whole.{Parts, parts_of, IsWhole}
use Rattle.pt_shard.proofs.Restarting.{restarted_whole, next_phases, next_known}
use Rattle.pt_shard.proofs.shard.Shard.restart.Goals as goal

abbrev before : goal.After-restart → Parts
before c = parts_of c.self.inside.config c.self.inside.ledger.book c.self.inside.processes

later : (c : goal.After-restart) → (before c).book.clock ≤ c.args.start
later c = subst (λ (d : ShardState). d.clock ≤ c.args.start) (sym c.self.view_is) c.requires.later

whole : (c : goal.After-restart) → IsWhole (parts_of (record c.self.inside.config { start = c.args.start }) c.restart.new.self.book c.self.inside.processes)
whole c = restarted_whole (before c) c.self.invariant c.args.start (later c) c.requires.within c.restart.new.self.book c.restart.ensures

pub invariant_of-result : goal.invariant_of-result
invariant_of-result c = whole c

pub returns-clause-processes : goal.returns-clause-processes
returns-clause-processes c =
    next_phases (before c) c.self.invariant c.args.start (later c) c.requires.within c.args.self c.self.view_is c.restart.new.self.book c.restart.ensures

pub returns-clause-known : goal.returns-clause-known
returns-clause-known c =
    next_known (before c) c.self.invariant c.args.start (later c) c.requires.within c.args.self c.self.view_is c.restart.new.self.book c.restart.ensures

pub returns-clause-fit : goal.returns-clause-fit
returns-clause-fit c = (whole c).sound.fit
