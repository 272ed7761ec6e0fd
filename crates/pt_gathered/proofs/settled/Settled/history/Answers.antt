-- `Settled::history`: its clauses `quiet` and `whole`.
use Rattle.std.proofs.Common.{[], ◌++◌, reverse, sym, subst}
use Rattle.std.specs.Prelude.{IfOk}
use Rattle.std.proofs.lemmas.Result.{IfOk-weaker}
use Rattle.pt_events.specs.History.{Past, IsLegal}
use Rattle.pt_events.specs.Journal.{IsMerge, events}
use Rattle.pt_laws.specs.Load.{IsQuiet}
use Rattle.pt_gathered.specs.Gathered.{begins, journals}
use Rattle.pt_gathered.specs.Lawful.{IsQuietNode}
use Rattle.pt_gathered.specs.Pasts.{GoesOnFrom, IsQuietWhole}
use Rattle.pt_gathered.specs.Quiet.{QuietState}
use Rattle.pt_gathered.proofs.settled.Settled.history.Goals as goal

pub returns-clause-quiet : goal.returns-clause-quiet
returns-clause-quiet c =
    let quiet : IsQuietNode c.self.inside.node = subst (λ (q : QuietState). IsQuietNode q.gathered) (sym c.self.view_is) c.laws.ensures.quiet in
    subst (λ (q : QuietState). IfOk c.history.result (λ h. IsQuiet (begins q.gathered) (events (reverse h.items)))) c.self.view_is
    (IfOk-weaker c.history.result (λ h. IsMerge (journals c.self.inside.node) (reverse h.items)) (λ h. IsQuiet (begins c.self.inside.node) (events (reverse h.items))) (λ h merge. (quiet (reverse h.items) merge).1) c.history.ensures.merge)

pub returns-clause-whole : goal.returns-clause-whole
returns-clause-whole c =
    let whole : IsQuietWhole c.self.inside.node = subst (λ (q : QuietState). IsQuietWhole q.gathered) (sym c.self.view_is) c.laws.ensures.whole in
    subst
    (λ (q : QuietState).
    IfOk c.history.result (λ h. (past : Past) → GoesOnFrom past q.gathered → IsLegal [] (events (reverse h.items) ++ past) × IsQuiet [] (events (reverse h.items) ++ past)))
    c.self.view_is
    (IfOk-weaker c.history.result (λ h. IsMerge (journals c.self.inside.node) (reverse h.items))
    (λ h. (past : Past) → GoesOnFrom past c.self.inside.node → IsLegal [] (events (reverse h.items) ++ past) × IsQuiet [] (events (reverse h.items) ++ past))
    (λ h merge past from. whole past (reverse h.items) from merge) c.history.ensures.merge)
