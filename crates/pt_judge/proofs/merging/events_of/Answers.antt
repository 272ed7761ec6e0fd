-- `events_of`: its contract.
use Rattle.std.proofs.Common.{◌∙◌, ap, reverse, subst₂}
use Rattle.pt_events.specs.JournalState.{IsInOrder}
use Rattle.pt_judge.proofs.Race.{past_read, desk_read}
use Rattle.pt_judge.proofs.merging.events_of.Goals as goal

pub returns : goal.returns
returns c =
    let js = c.args.journals.now in
    let past = past_read js c.args.which c.index-journals-which.result c.requires c.index-journals-which.is in
    let desk = desk_read js c.args.which c.index-journals-which.result c.requires c.index-journals-which.is in
    record {
      events = c.events.ensures.events ∙ ap reverse past;
      order = subst₂ IsInOrder desk past c.events.ensures.order;
    }
