-- `link`: its clause `does`.
use Rattle.std.proofs.Common.{refl, sym, ◌∙◌}
use Rattle.pt_shard.specs.Calls.{link_event}
use Rattle.pt_desk.specs.Reaching.{has_link_to_make}
use Rattle.pt_runner.proofs.Acting.{reach_passed, reach_at}
use Rattle.pt_runner.proofs.calls.link.Goals as goal

pub returns-in-None-clause-does : goal.returns-in-None-clause-does
returns-in-None-clause-does c = reach_passed _ c.args.p _ _ c.args.desk.now.shard (sym c.target.ensures.target ∙ c.in-None.is)

pub returns-in-Some-clause-does : goal.returns-in-Some-clause-does
returns-in-Some-clause-does c =
    reach_at _ c.in-Some.to c.args.p (has_link_to_make c.args.desk.now.shard c.args.p) (link_event c.args.desk.now.shard c.args.p) _ c.args.desk.now c.link.new.self c.link.result c.progress_of.result
    (sym c.target.ensures.target ∙ c.in-Some.is) refl c.link.ensures.does c.progress_of.ensures
