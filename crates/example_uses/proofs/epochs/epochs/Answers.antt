-- `epochs::epochs`: its contract, and its loop over `epoch`.
use Rattle.std.proofs.Common.{suc, ◌+◌, ◌≡◌, subst, arith}
use Rattle.pt_workers.specs.Running.{AllWork, always, begins_by}
use Rattle.example_uses.specs.Epochs.{Epoch, PassAsOne}
use Rattle.example_uses.proofs.Archiving.{none_passed, one_more}
use Rattle.example_uses.proofs.epochs.epochs.Goals as goal

pub loop-epoch-init : goal.loop-epoch-init
loop-epoch-init g c =
    none_passed (AllWork (begins_by g.W.Task.standing (λ desk turn. always desk turn)) (g.W.Task.does, g.W.Task.hears) c.args.plan.turns c.args.plan.budget) g.A.Archive.keeps
    (record { desks = c.args.node; works = c.args.works.now.items; archive = c.args.archive.now })

pub loop-epoch-preserved : goal.loop-epoch-preserved
loop-epoch-preserved g c =
    let next : suc c.loop-epoch._epoch ≡ c.loop-epoch._epoch + 1 = omega arith in
    let first : Epoch g.row.W.Denot g.row.A.Denot = record { desks = c.args.node; works = c.args.works.now.items; archive = c.args.archive.now } in
    let mid : Epoch g.row.W.Denot g.row.A.Denot = record { desks = c.loop-epoch.node; works = c.loop-epoch.works.items; archive = c.loop-epoch.archive } in
    let last : Epoch g.row.W.Denot g.row.A.Denot = record { desks = c.in_ok-node.node; works = c.one_epoch.new.works.items; archive = c.one_epoch.new.archive } in
    subst (λ n. PassAsOne (AllWork (begins_by g.W.Task.standing (λ desk turn. always desk turn)) (g.W.Task.does, g.W.Task.hears) c.args.plan.turns c.args.plan.budget) g.A.Archive.keeps n first last) next
    (one_more (AllWork (begins_by g.W.Task.standing (λ desk turn. always desk turn)) (g.W.Task.does, g.W.Task.hears) c.args.plan.turns c.args.plan.budget) g.A.Archive.keeps
    c.loop-epoch._epoch first mid last c.in_ok-node.ensures.0 c.loop-epoch.invariant c.in_ok-node.ensures.1)

pub returns : goal.returns
returns g c =
    let all : c.loop-epoch._epoch ≡ c.args.plan.epochs = omega (arith, c.loop-epoch.auto._epoch-end, c.loop-epoch-test.false) in
    let first : Epoch g.row.W.Denot g.row.A.Denot = record { desks = c.args.node; works = c.args.works.now.items; archive = c.args.archive.now } in
    let last : Epoch g.row.W.Denot g.row.A.Denot = record { desks = c.loop-epoch.node; works = c.loop-epoch.works.items; archive = c.loop-epoch.archive } in
    subst (λ n. PassAsOne (AllWork (begins_by g.W.Task.standing (λ desk turn. always desk turn)) (g.W.Task.does, g.W.Task.hears) c.args.plan.turns c.args.plan.budget) g.A.Archive.keeps n first last) all
    c.loop-epoch.invariant
