-- `Process::keep`: its contract.
use Rattle.std.proofs.Common.{◌∙◌, refl, sym}
use Rattle.pt_process.proofs.LinkLemmas.{longer_other}
use Rattle.pt_process.proofs.StateLemmas.{kept_same, kept_other, keep_same, keep_more}
use Rattle.pt_process.proofs.process.Process.keep.Goals as goal

pub returns-then-keeps : goal.returns-then-keeps
returns-then-keeps c =
    let s = c.args.self.now.state in
    let same = kept_same s _ (keep_same c.args.monitor c.args.from s.kept (sym c.keeps.ensures ∙ c.if-keeps.true)) in
    (refl, sym same, (refl, refl, refl, same))

pub returns : goal.returns
returns c =
    let s = c.args.self.now.state in
    rw (keep_more c.args.monitor c.args.from s.kept (sym c.keeps.ensures ∙ c.if-keeps.false)) (c.add_kept.ensures.me, c.in_ok-add_kept.ensures.state, (refl, refl, refl, kept_other s _ (longer_other s.kept _)))
