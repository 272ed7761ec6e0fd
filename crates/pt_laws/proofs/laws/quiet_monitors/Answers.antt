-- `quiet_monitors`: its clauses `monitors`, `watches`, `over_monitors`, `since` and `over_watches`.
use Rattle.std.proofs.Common.{◌≡◌, ℕ, ◌+◌, ◌++◌, [], refl, sym, ap, ◌∙◌, subst₂}
use Rattle.pt_signal.specs.declared.pid.Pid.{Pid}
use Rattle.pt_signal.specs.declared.ids.Ref.{Ref}
use Rattle.pt_laws.specs.Resumed.{reasonless, IsLeftBy}
use Rattle.pt_events.specs.History.{Past, Start, Phase, unborn, living, ended, life}
use Rattle.pt_laws.specs.MonitorLaws.{QuietMonitor, QuietWatch, QuietMonitorOver, demonitors_and_downs}
use Rattle.pt_laws.specs.Watch.{open_in, kept_in}
use Rattle.pt_laws.proofs.monitoring.Quiet.{open_is_kept, kept_by_none, one_of_three}
use Rattle.pt_laws.proofs.monitoring.MadeBefore.{since_start}
use Rattle.pt_laws.proofs.living.Resumed.{known, over_legal, over_alive, over_reasonless, over_living, over_flying}
use Rattle.pt_laws.proofs.laws.quiet_monitors.Goals as goal

monitors : QuietMonitor
monitors past w t m legal quiet lives said = (one_of_three m w t past legal quiet lives said, open_is_kept m w t past legal quiet)

watches : QuietWatch
watches past w t m legal quiet = kept_by_none m w t past legal quiet

-- why it ended is nothing that it keeps
kept_reasonless : (w t : Pid) (m : Ref) (f : Phase) → kept_in w t m f ≡ kept_in w t m (reasonless f)
kept_reasonless w t m unborn = refl
kept_reasonless w t m (living s) = refl
kept_reasonless w t m (ended r s) = refl

same_kept : (start : Start) (old past : Past) (w t : Pid) (m : Ref) → IsLeftBy start old → kept_in w t m (life start past t) ≡ kept_in w t m (life [] (past ++ old) t)
same_kept start old past w t m left =
    kept_reasonless w t m (life start past t) ∙ ap (kept_in w t m) (over_reasonless [] start old (known start old left) past t) ∙ sym (kept_reasonless w t m (life [] (past ++ old) t))

pub returns-clause-monitors : goal.returns-clause-monitors
returns-clause-monitors c = monitors

pub returns-clause-watches : goal.returns-clause-watches
returns-clause-watches c = watches

over_monitors : QuietMonitorOver
over_monitors start old past w t m left fresh legal quiet lives said =
    let r = monitors (past ++ old) w t m (over_legal [] start old left.legal left.quiet (known start old left) past fresh legal)
    (sym (over_flying [] start old left.legal left.quiet (known start old left) past) ∙ quiet) (sym (over_alive [] start old (known start old left) past w) ∙ lives) said in
    subst₂ (λ (k : ℕ) (g : Phase). (demonitors_and_downs [] (past ++ old) w m + k ≡ 1) × (open_in w t m g ≡ k)) (sym (same_kept start old past w t m left)) (sym (over_living [] start old (known start old left) past w lives)) r

pub returns-clause-over_monitors : goal.returns-clause-over_monitors
returns-clause-over_monitors c = over_monitors

pub returns-clause-since : goal.returns-clause-since
returns-clause-since c start old past w t m left fresh legal quiet lives made = since_start over_monitors start old past w t m left fresh legal quiet lives made

pub returns-clause-over_watches : goal.returns-clause-over_watches
returns-clause-over_watches c start old past w t m left fresh legal quiet gone =
    let r = watches (past ++ old) w t m (over_legal [] start old left.legal left.quiet (known start old left) past fresh legal)
    (sym (over_flying [] start old left.legal left.quiet (known start old left) past) ∙ quiet) (sym (over_alive [] start old (known start old left) past w) ∙ gone) in
    same_kept start old past w t m left ∙ r
