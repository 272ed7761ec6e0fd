-- `Held::shrink`: its clause `state`.
use Rattle.std.proofs.Common.{◌≡◌, length, ap, sym, ◌∙◌}
use Rattle.std.proofs.lemmas.Bool.{eqb-true}
use Rattle.pt_signal.specs.declared.reason.Reason.{Reason}
use Rattle.pt_signal.specs.Process.{fresh, estate}
use Rattle.pt_process.specs.ProcessView.{ProcessView}
use Rattle.pt_accounts.specs.Holding.{state_held}
use Rattle.pt_accounts.proofs.Nothing.{is_nothing}
use Rattle.pt_accounts.proofs.held.Held.shrink.Goals as goal

pub returns-then-is_empty-clause-state : goal.returns-then-is_empty-clause-state
returns-then-is_empty-clause-state c =
    let p = c.in-Process.process.value in
    let owed : (r : Reason) → 0 ≡ length (estate p.me p.state r)
    = λ r. sym c.if-owed_len-eq0.true ∙ c.owed_len.ensures.signals r ∙ ap (λ (x : ProcessView). length (estate x.me x.state r)) c.deref.ensures in
    let none : length p.state.waiting ≡ 0
    = ap (λ (x : ProcessView). length x.state.waiting) (sym c.deref-then-owed_len-eq0.ensures) ∙ ap length (sym c.waiting.ensures) ∙ eqb-true _ 0 (sym c.is_empty.ensures ∙ c.if-is_empty.true) in
    let traps : c.traps-traps.result ≡ p.state.traps = c.traps-traps.ensures ∙ ap (λ (x : ProcessView). x.state.traps) c.deref-then-is_empty-2.ensures in
    ap (λ t. record fresh { traps = t }) traps ∙ sym (is_nothing p.me p.state owed none) ∙ sym (ap state_held c.in-Process.is)
