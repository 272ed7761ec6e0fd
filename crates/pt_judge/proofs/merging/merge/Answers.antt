-- `merge`: its contract, and its loop over `event`.
use Rattle.std.proofs.Common.{sym, ap, ◌∙◌, subst, List, reverse}
use Rattle.pt_events.specs.declared.event.Stamped.{Stamped}
use Rattle.pt_judge.specs.Race.{TakesFirst}
use Rattle.pt_events.proofs.Orders.{reverse_push}
use Rattle.pt_judge.proofs.MergeStep.{IsMerging, merging_next, merged_all, left_falls}
use Rattle.pt_judge.proofs.merging.merge.Goals as goal

pub loop-event-smaller : goal.loop-event-smaller
loop-event-smaller c =
    let js = c.args.journals.now in
    let w = subst (λ o. TakesFirst js c.loop-event.seats.items o c.next.new.seats.items) c.in-Some.is c.next.ensures.takes in
    left_falls js c.loop-event.seats.items c.next.new.seats.items c.in-Some.event w.0 w.1

pub loop-event-preserved : goal.loop-event-preserved
loop-event-preserved c =
    let js = c.args.journals.now in
    let old = c.loop-event.seats.items in
    let new = c.next.new.seats.items in
    let w = subst (λ o. TakesFirst js old o new) c.in-Some.is c.next.ensures.takes in
    record {
      same = c.next.ensures.same ∙ c.loop-event.invariant.same;
      played = c.next.ensures.played;
      merging = λ apart.
          subst (λ (merged : List Stamped). IsMerging js new merged)
          (sym (reverse_push c.loop-event.merged.items c.in-Some.event) ∙ ap reverse (sym c.in_ok-push.ensures.items))
          (merging_next js old new (reverse c.loop-event.merged.items) c.in-Some.event w.0 c.count-count.ensures apart (c.loop-event.invariant.merging apart) w.1);
    }

pub returns : goal.returns
returns c apart =
    let js = c.args.journals.now in
    let now = c.loop-event.seats.items in
    let none = subst (λ o. TakesFirst js now o c.next.new.seats.items) c.in_default.is c.next.ensures.takes in
    merged_all js now (reverse c.loop-event.merged.items) none (c.loop-event.invariant.merging apart)
