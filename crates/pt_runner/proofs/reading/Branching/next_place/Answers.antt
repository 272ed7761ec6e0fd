-- `Branching::next_place`: its loop, and what it returns.
use Rattle.std.proofs.Common.{sym, ◌∙◌, arith}
use Rattle.pt_runner.specs.Acting.{fits_if_taken}
use Rattle.pt_runner.proofs.Branches.{passed_more, passed_none, passed_all}
use Rattle.pt_runner.proofs.reading.Branching.next_place.Goals as goal

pub loop-next-preserved : goal.loop-next-preserved
loop-next-preserved c =
    let test = fits_if_taken c.args.self.now.pids.now c.args.self.now.references.now.items c.args.self.now.taken in
    let one = passed_more test c.loop-next.reading c.in-Some.behind c.args.operations.now c.loop-next.next _ c.loop-next-test.true (sym c.in-Some.ensures) in
    omega (arith, c.loop-next.invariant, one)

pub returns-after-loop-next : goal.returns-after-loop-next
returns-after-loop-next c =
    let test = fits_if_taken c.args.self.now.pids.now c.args.self.now.references.now.items c.args.self.now.taken in
    let none = passed_all test c.loop-next.reading c.args.operations.now c.loop-next.next c.loop-next-test.false in
    omega (arith, c.loop-next.invariant, none)

pub returns-in_default : goal.returns-in_default
returns-in_default c =
    let test = fits_if_taken c.args.self.now.pids.now c.args.self.now.references.now.items c.args.self.now.taken in
    let none = passed_none test c.loop-next.reading c.args.operations.now c.loop-next.next _ c.loop-next-test.true (sym c.past.ensures ∙ c.in_default.is) in
    omega (arith, c.loop-next.invariant, none)
