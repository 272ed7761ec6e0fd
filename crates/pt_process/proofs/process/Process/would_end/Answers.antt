-- `Process::would_end`: its contract.
use Rattle.std.proofs.Common.{◌≡◌, ◌⊎◌, inl, inr, None, sym, ap, ◌∙◌}
use Rattle.pt_signal.specs.declared.item.Item.{Item}
use Rattle.pt_signal.specs.Process.{ProcessState, Handled, obey}
use Rattle.pt_process.specs.declared.verdict.Verdict.{Verdict}
use Rattle.pt_process.specs.declared.verdict.Verdict.TheVariants.{Drops, Queues}
use Rattle.pt_process.specs.Outcome.{ruled}
use Rattle.pt_process.proofs.ExitLemmas.{left_by, obeys}
use Rattle.pt_process.proofs.process.Process.would_end.Goals as goal

lives_on : (s : ProcessState) (v : Verdict) → (v ≡ Drops) ⊎ ((i : Item) × (v ≡ Queues i)) → (obey (ruled v) s).ending ≡ None
lives_on s v is =
    elim is [
      | inl e ↦ ap (λ (w : Verdict). (obey (ruled w) s).ending) e
      | inr e ↦ ap (λ (w : Verdict). (obey (ruled w) s).ending) e.1
    ]

pub returns-in-Drops : goal.returns-in-Drops
returns-in-Drops c =
    let p = c.args.self.now in
    let handled = obeys p.me p.state c.args.from c.args.signal.now c.in_ok-exit.exit (sym c.exit_signal.ensures ∙ c.in_ok-exit.was) in
    let s = left_by p.me p.state c.args.from c.in_ok-exit.exit.by_link in
    sym (ap (λ (h : Handled). h.ending) handled ∙ ap (λ v. (obey v s).ending) (sym c.verdict.ensures) ∙ lives_on s c.verdict.result c.in-Drops.is)
