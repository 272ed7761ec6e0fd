-- `Shard::new`: its clause `fit`, and the invariant of `result`.
use Rattle.std.proofs.Common.{◌<◌, sym, ap, ◌∙◌, subst, arith}
use Rattle.pt_shard.specs.Opening.{fresh_shard}
use Rattle.pt_shard.specs.Fit.{IsFit}
use Rattle.pt_shard.proofs.Standing.{first_book, fresh_is, fresh_whole}
use Rattle.pt_shard.proofs.shard.Shard.new.Goals as goal

pub invariant_of-result : goal.invariant_of-result
invariant_of-result c =
    let desk = c.in_ok-new-2.ensures.desk in
    let inside : c.in_ok-new-2.field-0.desk < c.args.config.desks = omega (arith, desk, c.requires.number) in
    fresh_whole c.args.config c.requires.settings c.in_ok-new-2.field-0 inside c.in_ok-new-2.ensures.empty c.in_ok-new.field-0.book (c.in_ok-new.ensures ∙ ap (first_book c.args.config) (sym desk))

pub returns-clause-fit : goal.returns-clause-fit
returns-clause-fit c =
    let desk = c.in_ok-new-2.ensures.desk in
    let inside : c.in_ok-new-2.field-0.desk < c.args.config.desks = omega (arith, desk, c.requires.number) in
    let book = c.in_ok-new.ensures ∙ ap (first_book c.args.config) (sym desk) in
    subst (λ n. IsFit (fresh_shard c.args.config n)) desk
    (subst IsFit (fresh_is c.args.config c.requires.settings c.in_ok-new-2.field-0 inside c.in_ok-new-2.ensures.empty c.in_ok-new.field-0.book book)
    (fresh_whole c.args.config c.requires.settings c.in_ok-new-2.field-0 inside c.in_ok-new-2.ensures.empty c.in_ok-new.field-0.book book).sound.fit)
