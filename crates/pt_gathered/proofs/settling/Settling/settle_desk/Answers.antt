-- `Settling::settle_desk`: its clauses `order`, `waits` and `least`, and what its call of `settle_to` asks.
use Rattle.std.proofs.Common.{◌<◌, true, false, get_or, length, set, sym, ap, ◌∙◌, subst, arith}
use Rattle.std.proofs.lemmas.List.{get_or_default}
use Rattle.pt_gathered.specs.Waits.{AreLeast, IsLeast, Marks, Waits}
use Rattle.pt_gathered.proofs.Ordering.{nothing_comes, waits_after}
use Rattle.pt_gathered.proofs.Posted.{least_after}
use Rattle.pt_gathered.proofs.settling.Settling.settle_desk.Goals as goal

pub returns-then-not-self-from-clause-order : goal.returns-then-not-self-from-clause-order
returns-then-not-self-from-clause-order c =
    let g = c.args.self.now.node in
    let waits = c.args.self.now.waits in
    let e = c.args.e in
    let room : e < length waits = omega (arith, c.told-self, c.desks-desks.ensures.few, c.requires.desk) in
    nothing_comes (length g.shards) e g
    (c.requires.waits e c.requires.desk (get_or_default waits e true false room ∙ ap (λ k. get_or waits k false) (sym c.from.ensures) ∙ c.if-not-self-from.true))

pub returns-clause-waits : goal.returns-clause-waits
returns-clause-waits c =
    let old = c.args.self.now in
    let new = c.settle_to.new.self in
    let last = c.mark.new.self in
    let e = c.args.e in
    let did = c.in_ok-moved.ensures in
    let room : e < length old.waits = omega (arith, c.told-self, c.desks-desks.ensures.few, c.requires.desk) in
    let marks : Marks e (length new.node.shards) new.node (set old.waits e false) last.waits
    = subst (λ w. Marks e (length new.node.shards) new.node (set w e false) last.waits) did.marks.0
    (subst (λ k. Marks e (length new.node.shards) new.node (set new.waits k false) last.waits) c.from-3.ensures c.mark.ensures.marks) in
    subst (Waits last.waits) (sym c.mark.ensures.kept.0) (waits_after e old.node new.node old.waits last.waits c.requires.desk room c.requires.waits did.order did.keeps did.none marks)

pub settle_to-requires-clause-least : goal.settle_to-requires-clause-least
settle_to-requires-clause-least c =
    let s = c.args.self.now in
    subst (λ k. IsLeast c.args.e (get_or s.least k 0) s.node) (sym c.from-2.ensures) (c.requires.least c.args.e c.requires.desk)

pub returns-clause-least : goal.returns-clause-least
returns-clause-least c =
    let old = c.args.self.now in
    let new = c.settle_to.new.self in
    let did = c.in_ok-moved.ensures in
    let least = c.mark.ensures.kept.1 ∙ ap (λ k. set new.least k 1) c.from-4.ensures ∙ ap (λ l. set l c.args.e 1) did.marks.1 in
    subst (AreLeast c.mark.new.self.least) (sym c.mark.ensures.kept.0)
    (subst (λ l. AreLeast l new.node) (sym least) (least_after c.args.e old.node new.node old.least did.runs.settles.count c.requires.least did.keeps did.none))
