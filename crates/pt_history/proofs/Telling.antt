-- The losses that a desk told and those that it keeps, event by event, loss by loss, and as the node is settled.
use Rattle.std.proofs.Common.{◌≡◌, true, cond, List, [], ◌∷◌, ◌++◌, refl, sym, ap, ◌∙◌, subst, append_assoc}
use Rattle.pt_signal.specs.declared.pid.Pid.{Pid}
use Rattle.pt_events.specs.History.{Past}
use Rattle.pt_shard.specs.declared.loss.Loss.{Loss}
use Rattle.pt_shard.specs.Losses.{losses}
use Rattle.pt_shard.specs.ShardState.{ShardState, AddsLosses, past}
use Rattle.pt_gathered.specs.Settling.{KeepsLost}
use Rattle.pt_history.specs.Nodes.{TellingStays, TellsAll}

-- what a desk keeps behind later events, it tells
pub tells_later : (p : Pid) (before : Past) (told : List Loss) (old new : ShardState) → KeepsLost old new → old.keeps ≡ true → TellsAll p before told old → TellsAll p before told new
tells_later p before told old new kept keeps h = record {
  carried = h.carried;
  carried_are = h.carried_are;
  told_are =
      ap (λ z. told ++ z) now ∙ sym (append_assoc told old.lost kept.later) ∙ ap (λ z. z ++ kept.later) h.told_are
      ∙ append_assoc h.carried (losses old.start (past old)) kept.later ∙ ap (λ z. h.carried ++ z) (sym kept.later_are);
}
  where
    now : new.lost ≡ old.lost ++ kept.later
    now = subst (λ b. new.lost ≡ cond b (old.lost ++ kept.later) old.lost) keeps kept.lost

pub telling_stays : AddsLosses → TellingStays
telling_stays adds = record {
  opens = λ p s start journal lost. record { carried = []; carried_are = refl; told_are = rw (lost, journal) refl };
  writes = λ p before told n e s keeps h. record {
    carried = h.carried;
    carried_are = h.carried_are;
    told_are = adds h.carried told n e s keeps h.told_are;
  };
  tells = λ p before told loss rest s is h. record {
    carried = h.carried;
    carried_are = h.carried_are;
    told_are = append_assoc told (loss ∷ []) rest ∙ ap (λ z. told ++ z) (sym is) ∙ h.told_are;
  };
  settles = λ p before told old new x settles here keeps h.
      let kept = settles.losses_kept p.shard x here in
      (kept.keeps ∙ keeps, tells_later p before told _ _ kept keeps h);
}
