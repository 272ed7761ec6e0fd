-- `Process::forget`: its contract.
use Rattle.std.proofs.Common.{◌∙◌, refl, sym}
use Rattle.pt_signal.specs.Process.{same_watch}
use Rattle.pt_process.proofs.WatchLemmas.{without_first_same, without_first_other}
use Rattle.pt_process.proofs.StateLemmas.{kept_same, kept_other}
use Rattle.pt_process.proofs.process.Process.forget.Goals as goal

pub returns-then-keeps : goal.returns-then-keeps
returns-then-keeps c =
    let s = c.args.self.now.state in
    (c.cut_kept.ensures.me, c.cut_kept.ensures.state, (refl, refl, refl, kept_other s _ (without_first_other (same_watch c.args.monitor c.args.from) s.kept (sym c.keeps.ensures ∙ c.if-keeps.true))))

pub returns-else-keeps : goal.returns-else-keeps
returns-else-keeps c =
    let s = c.args.self.now.state in
    let same = kept_same s _ (without_first_same (same_watch c.args.monitor c.args.from) s.kept (sym c.keeps.ensures ∙ c.if-keeps.false)) in
    (refl, sym same, (refl, refl, refl, same))
