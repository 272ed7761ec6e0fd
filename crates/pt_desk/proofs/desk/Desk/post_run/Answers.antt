-- `Desk::post_run`: its clauses `names`, `to` and `some`, and the invariant of `self`, and what its call of `post_run` asks.
use Rattle.std.proofs.Common.{◌<◌, [], length, take, get_or, sym, ap, ◌∙◌, subst, arith}
use Rattle.std.specs.Arc.{arc_value}
use Rattle.pt_carrier.specs.Lanes.{AllGo}
use Rattle.pt_carrier.specs.Ends.{more_of}
use Rattle.pt_desk.specs.DeskState.{DeskState}
use Rattle.pt_desk.specs.Posting.{PostsTo, PostsSome}
use Rattle.pt_desk.proofs.Letters.{all_go}
use Rattle.pt_desk.proofs.Accounts.{accounted_posted}
use Rattle.pt_desk.proofs.Posted.{of_parts, posts_some}
use Rattle.pt_desk.proofs.Seating.{sight_of, posted_whole}
use Rattle.pt_desk.proofs.desk.Desk.post_run.Goals as goal

pub post_run-posted-requires-clause-names : goal.post_run-posted-requires-clause-names
post_run-posted-requires-clause-names c =
    let i = c.self.inside in
    let whole = c.self.invariant.0 in
    let waiting = get_or i.shard.outbox c.args.to [] in
    subst (λ ls. AllGo i.outs.place.number c.args.to ls) (sym c.letters_for.ensures)
    (subst (λ d. AllGo d c.args.to waiting) (sym whole.accounts.out_number) (all_go i.shard.number c.args.to waiting (whole.fit.boxed c.args.to)))

pub invariant_of-self : goal.invariant_of-self
invariant_of-self c =
    let i = c.self.inside in
    let to_in : c.args.to < i.shard.config.desks = omega (arith, c.requires, ap (λ (d : DeskState). d.shard.config.desks) c.self.view_is) in
    let more = c.post_run-posted.ensures.posted ∙ ap (λ ls. more_of i.outs.posted c.args.to (take c.post_run-posted.result ls)) c.letters_for.ensures in
    posted_whole i.shard c.pass_out.new.self i.outs c.post_run-posted.new.self i.ins (sight_of (arc_value i.directory) i.seat i.before) i.seat c.args.to c.post_run-posted.result c.pass_out.ensures.rest c.pass_out.ensures.fit
    (accounted_posted i.shard c.pass_out.new.self i.outs c.post_run-posted.new.self i.ins c.args.to c.post_run-posted.result to_in c.self.invariant.0.fit c.self.invariant.0.accounts c.pass_out.ensures.rest more c.post_run-posted.ensures.same.0)
    c.self.invariant

pub returns-clause-to : goal.returns-clause-to
returns-clause-to c =
    let i = c.self.inside in
    let v = sight_of (arc_value i.directory) i.seat i.before in
    let to_in : c.args.to < i.shard.config.desks = omega (arith, c.requires, ap (λ (d : DeskState). d.shard.config.desks) c.self.view_is) in
    let all = ap length c.letters_for.ensures in
    let more = c.post_run-posted.ensures.posted ∙ ap (λ ls. more_of i.outs.posted c.args.to (take c.post_run-posted.result ls)) c.letters_for.ensures in
    subst (λ d. PostsTo c.args.to d (of_parts c.pass_out.new.self c.post_run-posted.new.self i.ins v)) c.self.view_is
    (posts_some i.shard c.pass_out.new.self i.outs c.post_run-posted.new.self i.ins v c.args.to c.post_run-posted.result to_in c.self.invariant.0.fit c.self.invariant.0.accounts
    (omega (arith, c.post_run-posted.ensures.within, all)) (λ short. c.post_run-posted.ensures.full (omega (arith, short, all))) c.pass_out.ensures.rest more c.post_run-posted.ensures.same.0 c.post_run-posted.ensures.same.1 c.post_run-posted.ensures.looks).0

pub returns-clause-some : goal.returns-clause-some
returns-clause-some c =
    let i = c.self.inside in
    let v = sight_of (arc_value i.directory) i.seat i.before in
    let to_in : c.args.to < i.shard.config.desks = omega (arith, c.requires, ap (λ (d : DeskState). d.shard.config.desks) c.self.view_is) in
    let all = ap length c.letters_for.ensures in
    let more = c.post_run-posted.ensures.posted ∙ ap (λ ls. more_of i.outs.posted c.args.to (take c.post_run-posted.result ls)) c.letters_for.ensures in
    subst (λ d. PostsSome c.args.to c.post_run-posted.result d (of_parts c.pass_out.new.self c.post_run-posted.new.self i.ins v)) c.self.view_is
    (posts_some i.shard c.pass_out.new.self i.outs c.post_run-posted.new.self i.ins v c.args.to c.post_run-posted.result to_in c.self.invariant.0.fit c.self.invariant.0.accounts
    (omega (arith, c.post_run-posted.ensures.within, all)) (λ short. c.post_run-posted.ensures.full (omega (arith, short, all))) c.pass_out.ensures.rest more c.post_run-posted.ensures.same.0 c.post_run-posted.ensures.same.1 c.post_run-posted.ensures.looks).1
