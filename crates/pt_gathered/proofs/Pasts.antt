-- What happened on a node from its first opening on.
use Rattle.std.proofs.Common.{ℕ, inl, List, [], ◌++◌, map, refl, sym, ap, ◌∙◌, subst, arith}
use Rattle.std.specs.Prelude.{filter}
use Rattle.pt_events.specs.declared.event.Stamped.{Stamped}
use Rattle.pt_events.specs.History.{Past, Start, IsLegal}
use Rattle.pt_events.specs.Journal.{events, in_lane, IsMerge}
use Rattle.pt_laws.specs.Laws.{MergeLegal, LanesFly}
use Rattle.pt_laws.specs.Load.{IsQuiet}
use Rattle.pt_events.specs.Locality.{JournalsSay}
use Rattle.pt_laws.specs.LinkLaws.{MergeKnown, KnownAgain}
use Rattle.pt_laws.specs.Resumed.{AllNewTo}
use Rattle.pt_laws.specs.ResumedLaws.{LeftAgain, ResumedStart, StampsNumber, BothNumber, StampsAreNew, OldRefsResumed}
use Rattle.pt_laws.proofs.living.Resumed.{known, over_legal, over_flying}
use Rattle.pt_signal.specs.declared.config.Config.{Config}
use Rattle.pt_shard.specs.Opening.{fresh_shard}
use Rattle.pt_shard.specs.Restart.{restarted}
use Rattle.pt_beginning.specs.Beginning.{IsBeginning, start_of}
use Rattle.pt_gathered.specs.Gathered.{GatheredState, IsGathered, begins, journals, over}
use Rattle.pt_gathered.specs.Lawful.{IsQuietNode}
use Rattle.pt_gathered.specs.Pasts.{IsBeginningOf, IsOutlineOf, KeepsPast, IsLegalWhole, IsQuietWhole, BeginsAgainAfter, IsLegalOutline, IsQuietOutline, OutlinesAgainAfter}
use Rattle.pt_gathered.specs.Settling.{Settles}
use Rattle.pt_gathered.proofs.Lawful.{legal_node, made_new}
use Rattle.pt_gathered.proofs.Beginnings.{from_merge, reasons_after}

-- a node that is opened begins with nothing, which nothing has left behind
pub from_first : (low : ℕ) → IsBeginningOf [] low []
from_first low = record {
  begun = record {
    past = [];
    left = record { legal = tt; quiet = refl; alike = λ p. inl refl };
    known = tt;
    home = tt;
    numbered = (λ i h. refl, λ m h. refl);
    once = λ p. refl;
    refs = λ w m. (omega arith, λ h. refl);
    since = λ p born. absurd (cc);
    entries = λ p q. omega arith;
    kept = λ t w m. omega arith;
  };
  past_is = refl;
  reasons = λ p. refl;
}

-- what forgot nothing may have forgotten
pub outline : (past : Past) (low : ℕ) (start : Start) → IsBeginningOf past low start → IsOutlineOf past low start
outline past low start from = record { begun = from.begun; past_is = from.past_is }

-- settling changes neither the settings nor what was before
pub settles_keep : (old new : GatheredState) → Settles old new → KeepsPast old new
settles_keep old new s past from =
    subst (λ (c : Config). IsBeginningOf past c.start (begins new)) (sym s.config) (subst (IsBeginningOf past old.config.start) (sym s.start) from)

module _ (g : GatheredState) (whole : IsGathered g) where
  -- what was made since is new to whatever it began with
  new_to : StampsAreNew → (b : IsBeginning g.config.start (begins g)) (merged : List Stamped) → IsMerge (journals g) merged → AllNewTo b.past (events merged)
  new_to new b merged m = made_new g (record whole { begun = b }) new merged m

  pub legal_outline : MergeLegal → StampsAreNew → IsLegalOutline g
  legal_outline law new past merged from m =
      let b = from.begun in
      let known_so = known (begins g) b.past b.left in
      let l = legal_node g whole law merged m in
      subst (λ (p : Past). IsLegal [] (events merged ++ p) × LanesFly [] (events merged ++ p) (over g)) from.past_is (
        over_legal [] (begins g) b.past b.left.legal b.left.quiet known_so (events merged) (new_to new b merged m) l.0,
        λ d e. ap (filter (in_lane d e)) (sym (over_flying [] (begins g) b.past b.left.legal b.left.quiet known_so (events merged))) ∙ l.1 d e,
      )

  pub legal_whole : MergeLegal → StampsAreNew → IsLegalWhole g
  legal_whole law new past merged from m = legal_outline law new past merged (outline past g.config.start (begins g) from) m

  pub quiet_outline : IsQuietNode g → StampsAreNew → IsQuietOutline g
  quiet_outline quiet new past merged from m =
      let b = from.begun in
      let known_so = known (begins g) b.past b.left in
      let q = quiet merged m in
      subst (λ (p : Past). IsLegal [] (events merged ++ p) × IsQuiet [] (events merged ++ p)) from.past_is (
        over_legal [] (begins g) b.past b.left.legal b.left.quiet known_so (events merged) (new_to new b merged m) q.0,
        sym (over_flying [] (begins g) b.past b.left.legal b.left.quiet known_so (events merged)) ∙ q.1,
      )

  pub quiet_whole : IsQuietNode g → StampsAreNew → IsQuietWhole g
  quiet_whole quiet new past merged from m = quiet_outline quiet new past merged (outline past g.config.start (begins g) from) m

  pub outlines_after : IsQuietNode g → JournalsSay → StampsAreNew → LeftAgain → ResumedStart → MergeKnown → KnownAgain → StampsNumber → BothNumber → OldRefsResumed → OutlinesAgainAfter g
  outlines_after quiet say new again resumes known known_again stamps both refs past merged n from m above =
      subst (λ (p : Past). IsOutlineOf (events merged ++ p) n (start_of (map (restarted n) g.shards))) from.past_is
      (from_merge g (record whole { begun = from.begun }) quiet say new again resumes known known_again stamps both refs n above (fresh_shard g.config 0) merged m)

  pub begins_after : IsQuietNode g → JournalsSay → StampsAreNew → LeftAgain → ResumedStart → MergeKnown → KnownAgain → StampsNumber → BothNumber → OldRefsResumed → BeginsAgainAfter g
  begins_after quiet say new again resumes known known_again stamps both refs past merged n from m above =
      let next = outlines_after quiet say new again resumes known known_again stamps both refs past merged n (outline past g.config.start (begins g) from) m above in
      record {
        begun = next.begun;
        past_is = next.past_is;
        reasons = reasons_after g whole n say (fresh_shard g.config 0) merged m past from.begun.once from.reasons;
      }
