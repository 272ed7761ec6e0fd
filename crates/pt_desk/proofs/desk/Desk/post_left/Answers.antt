-- `Desk::post_left`: what its call of `post_run` asks, and the invariant of `self`.
use Rattle.std.proofs.Common.{◌≡◌, ◌<◌, ◌≤◌, [], length, take, get_or, sym, ap, ◌∙◌, subst, arith, take-take}
use Rattle.std.proofs.lemmas.List.{length-take-le}
use Rattle.std.proofs.lemmas.List.Elements.{All-take}
use Rattle.std.specs.Arc.{arc_value}
use Rattle.pt_signal.specs.declared.letter.Letter.{Letter}
use Rattle.pt_carrier.specs.Lanes.{AllGo}
use Rattle.pt_carrier.specs.Ends.{more_of}
use Rattle.pt_desk.specs.DeskState.{DeskState}
use Rattle.pt_desk.specs.Own.{waits_here}
use Rattle.pt_desk.proofs.Letters.{all_go}
use Rattle.pt_desk.proofs.Accounts.{accounted_posted}
use Rattle.pt_desk.proofs.Seating.{sight_of, posted_whole}
use Rattle.pt_desk.proofs.desk.Desk.post_left.Goals as goal

pub post_run-posted-requires-clause-names : goal.post_run-posted-requires-clause-names
post_run-posted-requires-clause-names c =
    let i = c.self.inside in
    let whole = c.self.invariant.0 in
    let own = c.number-own.result in
    let waiting = get_or i.shard.outbox own [] in
    let P : Letter → Type 0 = λ l. (l.from.shard ≡ i.outs.place.number) × (l.to.shard ≡ own) in
    subst (λ ls. AllGo i.outs.place.number own (take c.args.count ls)) (sym c.letters_for.ensures)
    (All-take P c.args.count waiting (subst (λ d. AllGo d own waiting) (sym whole.accounts.out_number) (all_go i.shard.number own waiting (whole.fit.boxed own))))

pub invariant_of-self : goal.invariant_of-self
invariant_of-self c =
    let i = c.self.inside in
    let own = c.number-own.result in
    let waiting = get_or i.shard.outbox own [] in
    let ran = c.post_run-posted in
    let own_in : own < i.shard.config.desks = omega (arith, c.number-own.ensures, c.self.invariant.0.fit.here) in
    let all : length c.letters_for.result.now ≡ length waiting = ap length c.letters_for.ensures in
    let enough : c.args.count ≤ length waiting =
    omega (arith, subst (λ (d : DeskState). c.args.count ≤ length (waits_here d)) (sym c.self.view_is) c.requires.wait, ap (λ k. length (get_or i.shard.outbox k [])) c.number-own.ensures) in
    let long : length (take c.args.count c.letters_for.result.now) ≡ c.args.count = length-take-le c.args.count c.letters_for.result.now (omega (arith, enough, all)) in
    let front : take ran.result (take c.args.count c.letters_for.result.now) ≡ take ran.result waiting =
    take-take ran.result c.args.count c.letters_for.result.now (omega (arith, ran.ensures.within, long)) ∙ ap (take ran.result) c.letters_for.ensures in
    posted_whole i.shard c.pass_out.new.self i.outs ran.new.self i.ins (sight_of (arc_value i.directory) i.seat i.before) i.seat own ran.result c.pass_out.ensures.rest c.pass_out.ensures.fit
    (accounted_posted i.shard c.pass_out.new.self i.outs ran.new.self i.ins own ran.result own_in c.self.invariant.0.fit c.self.invariant.0.accounts c.pass_out.ensures.rest (ran.ensures.posted ∙ ap (more_of i.outs.posted own) front) ran.ensures.same.0)
    c.self.invariant
