-- `pass_epochs`: its clauses `fault`, `told` and `untouched`, and its loop over `epoch`, and what its call of `next_epoch` asks.
use Rattle.std.proofs.Common.{◌≡◌, ◌≢◌, ◌⊎◌, suc, ◌+◌, [], ◌++◌, subst, sym, refl, Err, inl, inr, arith, rules}
use Rattle.pt_report.specs.Epochs.{HasWritten, PassEpochs, IsOfEpochs, Staffed}
use Rattle.pt_report.specs.declared.fault.ReportFault.TheVariants.{File}
use Rattle.pt_report.proofs.Passing.{at_first, of_epoch, of_put, written}
use Rattle.pt_report.proofs.Attending.{epoch_begins}
use Rattle.pt_report.proofs.epochs.pass_epochs.Goals as goal

pub next_epoch-requires-after_bounds : goal.next_epoch-requires-after_bounds
next_epoch-requires-after_bounds g c κs within =
    let so = c.loop-epoch.invariant.0 in
    epoch_begins c.args.options.now c.args.budget c.loop-epoch._epoch (c.args.node, c.args.runners.now.items) so.0 (c.loop-epoch.node, c.loop-epoch.runners.items) c.requires.begins so.1

pub loop-epoch-init : goal.loop-epoch-init
loop-epoch-init g c = (([], (refl, refl), at_first g.W.Write.contents c.args.options.now.print c.args.out.now c.args.kept.now.items c.requires.empty), λ e. refl)

pub loop-epoch-preserved : goal.loop-epoch-preserved
loop-epoch-preserved g c =
    let i = c.loop-epoch._epoch in
    let next : suc i ≡ i + 1 = omega arith in
    let so = c.loop-epoch.invariant.0 in
    let step = c.in_ok-node.ensures.passed in
    ((so.0 ++ step.0, subst (λ n. PassEpochs c.args.options.now c.args.budget n (c.args.node, c.args.runners.now.items) (so.0 ++ step.0) (c.in_ok-node.node, c.next_epoch.new.runners.items)) next ((c.loop-epoch.node, c.loop-epoch.runners.items), so.0, step.0, so.1, step.1, refl), step.2 so.0 c.args.out.now so.2), λ e. absurd (omega (arith, e)))

pub returns-in_err-node-clause-fault : goal.returns-in_err-node-clause-fault
returns-in_err-node-clause-fault g c =
    let options = c.args.options.now in
    let first : Staffed = (c.args.node, c.args.runners.now.items) in
    let f = c.in_err-node.field-0.0 in
    let so = c.loop-epoch.invariant.0 in
    let is : IsOfEpochs options c.args.budget first f =
    elim c.in_err-node.ensures.fault [
      | inl p ↦ of_put options c.args.budget first f p
      | inr e ↦ of_epoch options c.args.budget c.loop-epoch._epoch first so.0 (c.loop-epoch.node, c.loop-epoch.runners.items) f (omega (arith, c.loop-epoch-test.true, c.saturating_sub-before.ensures)) so.1 e
    ] in
    let told : c.from_residual.result ≡ Err f = search rules in
    rw told is

pub returns-clause-told : goal.returns-clause-told
returns-clause-told g c =
    let options = c.args.options.now in
    let so = c.loop-epoch.invariant.0 in
    written g.W.Write.contents options c.args.budget c.loop-epoch._epoch (c.args.node, c.args.runners.now.items) so.0 (c.loop-epoch.node, c.loop-epoch.runners.items) c.args.out.now c.loop-epoch.out c.loop-epoch.kept.items c.loop-epoch.invariant.1
    (λ some. omega (arith, some, c.loop-epoch.auto._epoch-end, c.saturating_sub-before.ensures)) so.1 so.2

pub returns-in_err-node-clause-untouched : goal.returns-in_err-node-clause-untouched
returns-in_err-node-clause-untouched g c =
    let options = c.args.options.now in
    let first : Staffed = (c.args.node, c.args.runners.now.items) in
    let contents = g.W.Write.contents in
    let f = c.in_err-node.field-0.0 in
    let so = c.loop-epoch.invariant.0 in
    let before = written contents options c.args.budget c.loop-epoch._epoch first so.0 (c.loop-epoch.node, c.loop-epoch.runners.items) c.args.out.now c.loop-epoch.out c.loop-epoch.kept.items c.loop-epoch.invariant.1
    (λ some. omega (arith, c.loop-epoch-test.true, c.saturating_sub-before.ensures)) so.1 so.2 in
    let is : f ≢ File → (c.next_epoch.new.out ≡ c.args.out.now) ⊎ HasWritten options c.args.budget first (contents c.args.out.now) (contents c.next_epoch.new.out) =
    λ other. subst (λ o. (o ≡ c.args.out.now) ⊎ HasWritten options c.args.budget first (contents c.args.out.now) (contents o)) (sym (c.in_err-node.ensures.untouched other)) before in
    let told : c.from_residual.result ≡ Err f = search rules in
    rw told is
