-- `Hearing::standing`: its clause `told`.
use Rattle.std.proofs.Common.{◌≡◌, [], ◌∙◌, sym, ap}
use Rattle.pt_events.specs.History.{life}
use Rattle.pt_events.specs.Journal.{events}
use Rattle.pt_auditor.specs.declared.standing.Standing.{Standing}
use Rattle.pt_auditor.specs.Standings.{standing_of}
use Rattle.pt_auditor.proofs.Rested.{same_standing}
use Rattle.pt_auditor.proofs.hearing.Hearing.standing.Goals as goal

pub returns-in-Some-clause-told : goal.returns-in-Some-clause-told
returns-in-Some-clause-told c heard k =
    let past = events heard.events in
    let pid = c.in-Some.pid in
    let e : c.standing_of.result ≡ standing_of pid (life [] past pid) = c.standing_of.ensures ∙ same_standing pid _ (life [] past pid) (k.knows.alike pid) in
    e ∙ ap (λ q. standing_of q (life [] past q)) (sym (ap (λ (s : Standing). s.pid) e))
