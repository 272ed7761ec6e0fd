-- Whoever was born on a desk of a gathered node was born at a stamp that is not 0.
use Rattle.std.proofs.Common.{◌≤◌, get_or, sym, ap, ◌∙◌, subst}
use Rattle.pt_events.specs.History.{is_unborn}
use Rattle.pt_events.specs.Journal.{clock}
use Rattle.pt_shard.specs.ShardState.{ShardState}
use Rattle.pt_gathered.specs.Gathered.{GatheredState, IsGathered}
use Rattle.pt_gathered.specs.Quiet.{AreBornLater, AreInTurn, latest_stamp}
use Rattle.pt_gathered.proofs.Agreeing.{local_as}
use Rattle.pt_gathered.proofs.Beginnings.{since_in}
use Rattle.pt_gathered.proofs.Clocks.{above}
use Rattle.pt_gathered.proofs.Starts.{start_same}
use Rattle.pt_gathered.proofs.Told.{journal_of}

pub born_later : (g : GatheredState) → IsGathered g → AreInTurn g.shards → AreBornLater g
born_later g whole turns d x h p born =
    let s : ShardState = get_or g.shards d x in
    let here = (turns d x h p born).here ∙ (whole.shards d x h).number in
    let same = start_same g.config g.shards whole.shards d x h p here in
    since_in s.start g.config.start g.config.top_version d s.journal (local_as g.config d s (whole.shards d x h)) p
    (λ k. whole.begun.since p (ap is_unborn (sym same) ∙ k))
    (latest_stamp g) (subst (λ j. clock g.config.start j ≤ latest_stamp g) (journal_of g d x h) (above g whole d)) born
