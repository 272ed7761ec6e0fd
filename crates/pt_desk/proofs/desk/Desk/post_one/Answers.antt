-- `Desk::post_one`: its clauses `from_here`, `to_there`, `to` and `some`, and the invariant of `self`, and what its call of `post_reserved` asks.
use Rattle.std.proofs.Common.{◌≡◌, ◌<◌, [], length, take, get_or, sym, ap, ◌∙◌, subst, arith}
use Rattle.std.specs.Arc.{arc_value}
use Rattle.pt_carrier.specs.Lanes.{AllGo}
use Rattle.pt_carrier.specs.Ends.{more_of}
use Rattle.pt_desk.specs.DeskState.{DeskState, waits_for}
use Rattle.pt_desk.specs.Posting.{PostsTo, PostsSome}
use Rattle.pt_desk.proofs.Letters.{one_first, all_go}
use Rattle.pt_desk.proofs.Accounts.{accounted_posted}
use Rattle.pt_desk.proofs.Posted.{of_parts, posts_some, looked_then}
use Rattle.pt_desk.proofs.Seating.{sight_of, posted_whole}
use Rattle.pt_desk.proofs.desk.Desk.post_one.Goals as goal
use Rattle.pt_desk.proofs.desk.Desk.post_one.Goals.{After-pass_out}

pub post_reserved-requires-clause-from_here : goal.post_reserved-requires-clause-from_here
post_reserved-requires-clause-from_here c =
    let i = c.self.inside in
    let waiting = get_or i.shard.outbox c.args.to [] in
    let some : 0 < length c.letters_for.result.now = omega (arith, c.requires.one, ap (λ (d : DeskState). length (waits_for d c.args.to)) c.self.view_is, ap length c.letters_for.ensures) in
    let names = subst (λ ls. AllGo i.shard.number c.args.to ls) (sym c.letters_for.ensures) (all_go i.shard.number c.args.to waiting (c.self.invariant.0.fit.boxed c.args.to)) in
    (names 0 _ some).0 ∙ sym (ap (λ p. p.number) c.is_full.ensures.same.0 ∙ c.self.invariant.0.accounts.out_number)

pub post_reserved-requires-clause-to_there : goal.post_reserved-requires-clause-to_there
post_reserved-requires-clause-to_there c =
    let i = c.self.inside in
    let waiting = get_or i.shard.outbox c.args.to [] in
    let some : 0 < length c.letters_for.result.now = omega (arith, c.requires.one, ap (λ (d : DeskState). length (waits_for d c.args.to)) c.self.view_is, ap length c.letters_for.ensures) in
    let names = subst (λ ls. AllGo i.shard.number c.args.to ls) (sym c.letters_for.ensures) (all_go i.shard.number c.args.to waiting (c.self.invariant.0.fit.boxed c.args.to)) in
    (names 0 _ some).1

pub invariant_of-self-2 : goal.invariant_of-self-2
invariant_of-self-2 c =
    let i = c.self.inside in
    let waiting = get_or i.shard.outbox c.args.to [] in
    let to_in : c.args.to < i.shard.config.desks = omega (arith, c.requires.desk, ap (λ (d : DeskState). d.shard.config.desks) c.self.view_is) in
    let some : 0 < length waiting = omega (arith, c.requires.one, ap (λ (d : DeskState). length (waits_for d c.args.to)) c.self.view_is) in
    let more = c.post_reserved.ensures.posted ∙ one_first c.is_full.new.self.posted c.args.to c.letters_for.result.now waiting _ c.letters_for.ensures some
    ∙ ap (λ z. more_of z c.args.to (take 1 waiting)) c.is_full.ensures.same.1 in
    posted_whole i.shard c.pass_out.new.self i.outs c.post_reserved.new.self i.ins (sight_of (arc_value i.directory) i.seat i.before) i.seat c.args.to 1 c.pass_out.ensures.rest c.pass_out.ensures.fit
    (accounted_posted i.shard c.pass_out.new.self i.outs c.post_reserved.new.self i.ins c.args.to 1 to_in c.self.invariant.0.fit c.self.invariant.0.accounts c.pass_out.ensures.rest more (c.post_reserved.ensures.same.0 ∙ c.is_full.ensures.same.0))
    c.self.invariant

-- the desk as its parts has posted the one letter that waited, and so some
posts : (c : After-pass_out) → PostsTo c.args.to (of_parts c.self.inside.shard c.self.inside.outs c.self.inside.ins (sight_of (arc_value c.self.inside.directory) c.self.inside.seat c.self.inside.before))
    (of_parts c.pass_out.new.self c.post_reserved.new.self c.self.inside.ins (sight_of (arc_value c.self.inside.directory) c.self.inside.seat c.self.inside.before))
    × PostsSome c.args.to 1 (of_parts c.self.inside.shard c.self.inside.outs c.self.inside.ins (sight_of (arc_value c.self.inside.directory) c.self.inside.seat c.self.inside.before))
    (of_parts c.pass_out.new.self c.post_reserved.new.self c.self.inside.ins (sight_of (arc_value c.self.inside.directory) c.self.inside.seat c.self.inside.before))
posts c =
    let i = c.self.inside in
    let v = sight_of (arc_value i.directory) i.seat i.before in
    let waiting = get_or i.shard.outbox c.args.to [] in
    let to_in : c.args.to < i.shard.config.desks = omega (arith, c.requires.desk, ap (λ (d : DeskState). d.shard.config.desks) c.self.view_is) in
    let one : length waiting ≡ 1 = ap (λ (d : DeskState). length (waits_for d c.args.to)) c.self.view_is ∙ c.requires.one in
    let more = c.post_reserved.ensures.posted ∙ one_first c.is_full.new.self.posted c.args.to c.letters_for.result.now waiting _ c.letters_for.ensures (omega arith)
    ∙ ap (λ z. more_of z c.args.to (take 1 waiting)) c.is_full.ensures.same.1 in
    posts_some i.shard c.pass_out.new.self i.outs c.post_reserved.new.self i.ins v c.args.to 1 to_in c.self.invariant.0.fit c.self.invariant.0.accounts
    (omega (arith, one)) (λ short. absurd (omega (arith, one, short))) c.pass_out.ensures.rest more (c.post_reserved.ensures.same.0 ∙ c.is_full.ensures.same.0) (c.post_reserved.ensures.same.1 ∙ c.is_full.ensures.same.2)
    (looked_then i.outs c.is_full.new.self c.post_reserved.new.self c.args.to c.is_full.ensures.looks c.post_reserved.ensures.same.2)

pub returns-clause-to : goal.returns-clause-to
returns-clause-to c =
    let i = c.self.inside in
    subst (λ d. PostsTo c.args.to d (of_parts c.pass_out.new.self c.post_reserved.new.self i.ins (sight_of (arc_value i.directory) i.seat i.before))) c.self.view_is
    (posts (goal.at.returns-clause-to c).After-pass_out).0

pub returns-clause-some : goal.returns-clause-some
returns-clause-some c =
    let i = c.self.inside in
    subst (λ d. PostsSome c.args.to 1 d (of_parts c.pass_out.new.self c.post_reserved.new.self i.ins (sight_of (arc_value i.directory) i.seat i.before))) c.self.view_is
    (posts (goal.at.returns-clause-some c).After-pass_out).1
