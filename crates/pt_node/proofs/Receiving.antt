-- Rounds add receipts to the journals, and nothing else.
use Rattle.std.proofs.Common.{◌≡◌, ◌≢◌, ℕ, zero, suc, ◌<◌, List, [], ◌∷◌, length, map, get_or, Option, Some, None, refl, sym, ap, ◌∙◌, subst, ⊎_elim, arith}
use Rattle.std.proofs.lemmas.Bool.{cases_eq}
use Rattle.pt_signal.specs.declared.letter.Letter.{Letter}
use Rattle.pt_shard.specs.declared.stop.Stop.{Stop}
use Rattle.pt_shard.specs.declared.stop.Stop.TheVariants.{Memory, Worn}
use Rattle.pt_shard.specs.ShardState.{ShardState, came_event, stamped}
use Rattle.pt_gathered.specs.Settling.{Follows}
use Rattle.pt_gathered.proofs.StepByStep.{follows_along, follows_same}
use Rattle.pt_desk.specs.DeskState.{DeskState}
use Rattle.pt_desk.specs.declared.turned.Turned.{Turned}
use Rattle.pt_desk.specs.Turns.{Fetches, HandlesNext, HandlesAll, EndsWith, Stays, Turns}
use Rattle.pt_workers.specs.Desks.{desk_kept}
use Rattle.pt_workers.specs.Stillness.{LooksAgain, Rounds, RunsRounds, TurnEach}
use Rattle.pt_workers.specs.declared.stillness.Rested.{Rested}
use Rattle.pt_workers.specs.declared.stillness.Stopped.{Stopped}
use Rattle.pt_workers.proofs.Meeting.{kept_count, kept_shard}
use Rattle.pt_workers.proofs.TurnsOf.{TurnAt, beside, now, same_count, was}

-- the journal of the desk goes on with receipts
abbrev pub Receives : DeskState → DeskState → Type 0
Receives old new = Follows old.shard.journal new.shard.journal

same_receives : (old new : DeskState) → new.shard.journal ≡ old.shard.journal → Receives old new
same_receives old new same = subst (Follows old.shard.journal) (sym same) (follows_same old.shard.journal)

receives_then : (a b c : DeskState) → Receives a b → Receives b c → Receives a c
receives_then a b c f g = follows_along a.shard.journal b.shard.journal c.shard.journal f g

fetched_same : (l : Letter) (old new : DeskState) → Fetches l old new → new.shard.journal ≡ old.shard.journal
fetched_same l old new f = ⊎_elim (λ h. ap (λ (d : DeskState). d.shard.journal) h.1) (λ t. ap (λ (s : ShardState). s.journal) t.shard) f

next_receives : (l : Letter) (old new : DeskState) → HandlesNext l old new → Receives old new
next_receives l old new h =
    receives_then old h.fetched new (same_receives old h.fetched (fetched_same l old h.fetched h.fetches))
    (record { more = stamped new.shard.clock (came_event l) h.fetched.shard ∷ []; is = journal_is; receipts = tt })
  where
    journal_is : new.shard.journal ≡ stamped new.shard.clock (came_event l) h.fetched.shard ∷ h.fetched.shard.journal
    journal_is = ap (λ (d : DeskState). d.shard.journal) h.after ∙ ap (λ n. stamped n (came_event l) h.fetched.shard ∷ h.fetched.shard.journal) (sym (ap (λ (d : DeskState). d.shard.clock) h.after))

all_receive : (ls : List Letter) (old new : DeskState) → HandlesAll ls old new → Receives old new
all_receive [] old new h = same_receives old new (ap (λ (d : DeskState). d.shard.journal) h)
all_receive (l ∷ ls) old new h = receives_then old h.0 new (all_receive ls old h.0 h.1) (next_receives l h.0 new h.2)

stays_same : (stop : Stop) (old new : DeskState) → Stays stop old new → new.shard.journal ≡ old.shard.journal
stays_same Memory old new h = fetched_same h.0 old new h.1
stays_same Worn old new h = fetched_same h.0 old new h.1

ends_same : (stop : Option Stop) (count budget : ℕ) (last new : DeskState) → EndsWith stop count budget last new → new.shard.journal ≡ last.shard.journal
ends_same None count budget last new e = ⊎_elim (λ h. ap (λ (d : DeskState). d.shard.journal) h.1) (λ h. ap (λ (s : ShardState). s.journal) h.1.shard) e
ends_same (Some stop) count budget last new e = stays_same stop last new e.1

turn_receives : (budget : ℕ) (old : DeskState) (t : Turned) (new : DeskState) → Turns budget old t new → Receives old new
turn_receives budget old t new h =
    receives_then old h.posted_desk new (same_receives old h.posted_desk (ap (λ (s : ShardState). s.journal) h.posts.only.shard))
    (receives_then h.posted_desk h.last new (all_receive h.letters h.posted_desk h.last h.handles) (same_receives h.last new (ends_same t.stopped t.handled budget h.last new h.ends)))

-- so of each desk
pub record AllReceive (old new : List DeskState) : Type 0 where
  pub count : length new ≡ length old
  pub each : (d : ℕ) (x : DeskState) → d < length old → Receives (get_or old d x) (get_or new d x)

none_receives : (xs : List DeskState) → AllReceive xs xs
none_receives xs = record { count = refl; each = λ d x l. follows_same (get_or xs d x).shard.journal }

all_receive_then : (xs ys zs : List DeskState) → AllReceive xs ys → AllReceive ys zs → AllReceive xs zs
all_receive_then xs ys zs h k = record {
  count = k.count ∙ h.count;
  each = λ d x l. receives_then (get_or xs d x) (get_or ys d x) (get_or zs d x) (h.each d x l) (k.each d x (omega (arith, l, h.count)));
}

one_receives : (budget d : ℕ) (turned : Turned) (mid new : List DeskState) → TurnAt budget d turned mid new → AllReceive mid new
one_receives budget d turned mid new on = record {
  count = same_count budget d turned mid new on;
  each = λ k x l. ⊎_elim
      (λ (here : k ≡ d). subst (λ j. Receives (get_or mid j x) (get_or new j x)) (sym here)
      (subst (λ y. Receives (get_or mid d x) y) (sym (now budget d turned mid new on x))
      (subst (λ y. Receives y on.desk) (was budget d turned mid new on x) (turn_receives budget (get_or mid d on.desk) turned on.desk on.does))))
      (λ (apart : k ≢ d). same_receives (get_or mid k x) (get_or new k x) (ap (λ (y : DeskState). y.shard.journal) (beside budget d turned mid new on k x apart)))
      (cases_eq k d);
}

kept_receives : (old met : List DeskState) → map desk_kept met ≡ map desk_kept old → AllReceive old met
kept_receives old met kept = record {
  count = kept_count met old kept;
  each = λ d x l. same_receives (get_or old d x) (get_or met d x) (ap (λ (s : ShardState). s.journal) (kept_shard met old kept d x l));
}

module _ (budget : ℕ) where
  turns_receive : (n : ℕ) (old : List DeskState) (did : Rested) (new : List DeskState) → TurnEach budget n old did new → AllReceive old new
  turns_receive zero old did new h = subst (AllReceive old) (sym h.1) (none_receives old)
  turns_receive (suc d) old did new (mid, before, turned, so_far, on, is) =
      all_receive_then old mid new (turns_receive d old before mid so_far) (one_receives budget d turned mid new on)

  rounds_receive : (n : ℕ) (old : List DeskState) (did : Rested) (new : List DeskState) → Rounds budget n old did new → AllReceive old new
  rounds_receive zero old did new h = subst (AllReceive old) (sym h.1) (none_receives old)
  rounds_receive (suc n) old did new (mid, met, before, round, earlier, on, kept, turns, both) =
      all_receive_then old mid new (rounds_receive n old before mid earlier)
      (all_receive_then mid met new (kept_receives mid met kept) (turns_receive (length met) met round new turns))

  pub all_rounds_receive : (old : List DeskState) (did : Rested) (new : List DeskState) → RunsRounds budget old did new → AllReceive old new
  all_rounds_receive old did new r = all_receive_then old r.last new (rounds_receive r.count old did r.last r.rounds) (again did.stopped r.looks)
    where
      again : (stop : Option Stopped) → LooksAgain stop r.last new → AllReceive r.last new
      again None h = subst (AllReceive r.last) (sym h) (none_receives r.last)
      again (Some s) h = kept_receives r.last new h
