-- `Hearing::hear`: what was heard after one event more.
use Rattle.std.proofs.Common.{refl, subst}
use Rattle.pt_events.specs.Journal.{events}
use Rattle.pt_auditor.specs.Hearings.{MayHear, Objects}
use Rattle.pt_auditor.proofs.Rested.{after_next}
use Rattle.pt_auditor.proofs.Heard.{state_after, one_event, node_after, asked_none}
use Rattle.pt_auditor.proofs.hearing.Hearing.hear.Goals as goal

pub returns-in-Ok : goal.returns-in-Ok
returns-in-Ok c heard k =
    let h = c.args.self in
    let s = c.args.stamped in
    let may : MayHear heard s = subst (Objects heard s) c.in_default.is (c.objection.ensures.objects heard k) in
    let after = c.in-Ok.ensures in (
      may,
      one_event heard h k s _ may (after_next heard.since (events heard.events) h.state c.in-Ok.state (state_after heard h k may.0) s.event after.step) refl c.one_more.ensures c.desks_with.ensures refl
          c.foreign_with-foreign.ensures
          (node_after heard h k s may.0 may.1 c.is_none.result c.in-Ok.state c.in-Ok.node c.foreign_with-foreign.result c.foreign_with-foreign.ensures (asked_none c.foreign_with-foreign.result c.is_none.result c.is_none.ensures) after) refl (c.objection.ensures.own c.in_default.is),
    )
