-- What rounds add up to.
use Rattle.std.proofs.Common.{◌≡◌, ℕ, zero, suc, ◌-◌, ◌^◌, ◌<◌, List, length, map, min, get_or, Option, Some, None, sym, ap, ◌∙◌, subst, arith}
use Rattle.std.specs.Prelude.{IfSome}
use Rattle.pt_shard.specs.Extends.{Extends}
use Rattle.pt_desk.specs.Sight.{SeesOn}
use Rattle.pt_desk.specs.DeskState.{DeskState}
use Rattle.pt_workers.specs.Desks.{desk_kept}
use Rattle.pt_workers.specs.Stillness.{AllDesksGoOn, LooksAgain, Rounds, RunsRounds, StoppedAt, count_events, first_stopped}
use Rattle.pt_workers.specs.declared.stillness.Rested.{Rested}
use Rattle.pt_workers.specs.declared.stillness.Stopped.{Stopped}
use Rattle.pt_workers.proofs.GoingOn.{stays}
use Rattle.pt_workers.proofs.Burning.{AllBurn, burn_then, none_burns}
use Rattle.pt_workers.proofs.Meeting.{Kept, kept_at, kept_count}
use Rattle.pt_workers.proofs.TurnsOf.{all_stay, all_then, turn_stopped, turns_burn, turns_go_on}
use Rattle.pt_workers.proofs.AtRest.{kept_room, kept_sum}

-- a look at the lanes keeps each desk
kept_goes_on : (old met : List DeskState) → map desk_kept met ≡ map desk_kept old → AllDesksGoOn old met
kept_goes_on old met kept = record {
  count = kept_count met old kept;
  each = λ d x l.
      let was = stays (get_or old d x) in
      let same = kept_at met old kept d x l in
      record {
        shard = subst (Extends (get_or old d x).shard) (sym (ap (λ (k : Kept). k.0) same)) was.shard;
        place = ap (λ (k : Kept). (k.2.0, k.3.0)) same;
        sight = subst (SeesOn (get_or old d x).sight) (sym (ap (λ (k : Kept). k.1) same)) was.sight;
      };
}

kept_burns : (old met new : List DeskState) (n : ℕ) → map desk_kept met ≡ map desk_kept old → AllBurn n met new → AllBurn n old new
kept_burns old met new n kept burn = record {
  count = burn.count;
  events = omega (arith, burn.events, kept_sum (λ (k : Kept). length k.0.journal) met old kept);
  room = omega (arith, burn.room, kept_room met old kept);
  counted = burn.counted;
}

without : (n : ℕ) (budget : ℕ) (new : List DeskState) (o : Option Stopped) → IfSome o (λ s. (s.desk < n) × StoppedAt budget s new) → IfSome o (λ s. StoppedAt budget s new)
without n budget new None h = tt
without n budget new (Some s) h = h.1

module _ (budget : ℕ) where
  pub rounds_go_on : (n : ℕ) (old : List DeskState) (did : Rested) (new : List DeskState) → Rounds budget n old did new → AllDesksGoOn old new
  rounds_go_on zero old did new h = subst (AllDesksGoOn old) (sym h.1) (all_stay old)
  rounds_go_on (suc n) old did new (mid, met, before, round, earlier, on, kept, turns, both) =
      all_then old mid new (rounds_go_on n old before mid earlier) (all_then mid met new (kept_goes_on mid met kept) (turns_go_on budget (length met) met round new turns))

  pub rounds_stopped : (n : ℕ) (old : List DeskState) (did : Rested) (new : List DeskState) → Rounds budget n old did new → IfSome did.stopped (λ s. StoppedAt budget s new)
  rounds_stopped zero old did new h = subst (λ (r : Rested). IfSome r.stopped (λ s. StoppedAt budget s new)) (sym h.0) tt
  rounds_stopped (suc n) old did new (mid, met, before, round, earlier, on, kept, turns, both) =
      subst (λ o. IfSome o (λ s. StoppedAt budget s new)) (sym (ap (λ (r : Rested). r.stopped) both ∙ ap (λ o. first_stopped o round.stopped) on))
      (without (length met) budget new round.stopped (turn_stopped budget (length met) met round new (omega arith) turns))

  pub rounds_burn : budget < 2 ^ 64 → (n : ℕ) (old : List DeskState) (did : Rested) (new : List DeskState) → Rounds budget n old did new → AllBurn did.handled old new
  rounds_burn fits zero old did new h = subst (λ (r : Rested). AllBurn r.handled old new) (sym h.0) (subst (AllBurn 0 old) (sym h.1) (none_burns old))
  rounds_burn fits (suc n) old did new (mid, met, before, round, earlier, on, kept, turns, both) =
      subst (λ (r : Rested). AllBurn r.handled old new) (sym both)
      (burn_then before.handled round.handled old mid new (rounds_burn fits n old before mid earlier)
      (kept_burns mid met new round.handled kept (turns_burn budget fits (length met) met round new turns)))

  pub rounds_count : budget < 2 ^ 64 → (n : ℕ) (old : List DeskState) (did : Rested) (new : List DeskState) → Rounds budget n old did new → did.handled ≡ min (count_events new - count_events old) (2 ^ 64 - 1)
  rounds_count fits n old did new h = let burn = rounds_burn fits n old did new h in omega (arith, burn.events, burn.counted)

  -- a look more after the rounds, where a turn was stopped
  looked_again : (stop : Option Stopped) (last new : List DeskState) → LooksAgain stop last new → map desk_kept new ≡ map desk_kept last
  looked_again None last new h = ap (map desk_kept) h
  looked_again (Some s) last new h = h

  pub all_rounds_go_on : (old : List DeskState) (did : Rested) (new : List DeskState) → RunsRounds budget old did new → AllDesksGoOn old new
  all_rounds_go_on old did new r = all_then old r.last new (rounds_go_on r.count old did r.last r.rounds) (kept_goes_on r.last new (looked_again did.stopped r.last new r.looks))

  pub all_rounds_count : budget < 2 ^ 64 → (old : List DeskState) (did : Rested) (new : List DeskState) → RunsRounds budget old did new → did.handled ≡ min (count_events new - count_events old) (2 ^ 64 - 1)
  all_rounds_count fits old did new r =
      let counted = rounds_count fits r.count old did r.last r.rounds in
      let same = kept_sum (λ (k : Kept). length k.0.journal) new r.last (looked_again did.stopped r.last new r.looks) in
      omega (arith, counted, same)

  pub all_rounds_stopped : (old : List DeskState) (did : Rested) (new : List DeskState) → RunsRounds budget old did new → IfSome did.stopped (λ s. StoppedAt budget s new)
  all_rounds_stopped old did new r = go did.stopped (rounds_stopped r.count old did r.last r.rounds) (looked_again did.stopped r.last new r.looks)
    where
      go : (o : Option Stopped) → IfSome o (λ s. StoppedAt budget s r.last) → map desk_kept new ≡ map desk_kept r.last → IfSome o (λ s. StoppedAt budget s new)
      go None h kept = tt
      go (Some s) h kept = record {
        within = omega (arith, h.within, kept_count new r.last kept);
        before = h.before;
        turned = h.turned;
        left = h.left;
        turns = h.turns;
        stopped = h.stopped;
        kept = λ x. kept_at new r.last kept s.desk x h.within ∙ h.kept x;
      }
