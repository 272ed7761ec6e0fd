-- Legs one behind the other.
use Rattle.std.proofs.Common.{◌≡◌, ℕ, ◌+◌, ◌-◌, ◌<◌, ◌≤◌, inl, inr, List, [], ◌∷◌, length, max, get_or, Some, None, Err, refl, sym, ap, ◌∙◌, subst, arith}
use Rattle.std.specs.Prelude.{IfSome}
use Rattle.std.proofs.lemmas.List.{length-map}
use Rattle.pt_signal.specs.declared.letter.Letter.{Letter}
use Rattle.pt_shard.specs.ShardState.{ShardState}
use Rattle.pt_shard.specs.declared.stop.Stop.{Stop}
use Rattle.pt_shard.specs.declared.stop.Stop.TheVariants.{Memory, Worn}
use Rattle.pt_desk.specs.DeskState.{DeskState}
use Rattle.pt_desk.specs.Turns.{EndsWith, Fetches, Stays}
use Rattle.pt_workers.specs.NodeRunning.{RunsNode, RunsPaired}
use Rattle.pt_workers.specs.Stillness.{AllDesksGoOn, AreStill, RunsRounds, StoppedAt}
use Rattle.pt_workers.specs.declared.run_fault.RunFault.TheVariants as fault
use Rattle.pt_workers.specs.declared.run_fault.RunFault.{RunFault}
use Rattle.pt_workers.specs.declared.stillness.Rested.{Rested}
use Rattle.pt_workers.specs.declared.stillness.Stopped.{Stopped}
use Rattle.pt_epochs.specs.Idle.{DoneLeg, EndsBy, Legs, RunsLeg, Worked, leg_turns}

-- a turn that was stopped leaves its letter in the hold
fetched_held : (l : Letter) (old new : DeskState) → Fetches l old new → new.shard.hold ≡ Some l
fetched_held l old new (inl h) = ap (λ (d : DeskState). d.shard.hold) h.1 ∙ h.0
fetched_held l old new (inr t) = ap (λ (s : ShardState). s.hold) t.shard

stays_held : (stop : Stop) (old new : DeskState) → Stays stop old new → (l : Letter) × (new.shard.hold ≡ Some l)
stays_held Worn old new h = (h.0, fetched_held h.0 old new h.1)
stays_held Memory old new h = (h.0, fetched_held h.0 old new h.1)

-- so the node is not still
pub not_still : (budget : ℕ) (s : Stopped) (desks : List DeskState) → StoppedAt budget s desks → AreStill desks → ⊥
not_still budget s desks at still =
    let ends : EndsWith (Some s.cause) at.turned.handled budget at.turns.last at.left = subst (λ o. EndsWith o at.turned.handled budget at.turns.last at.left) at.stopped at.turns.ends in
    let held = stays_held s.cause at.turns.last at.left ends.1 in
    let shard : (get_or desks s.desk at.left).shard ≡ at.left.shard = ap (λ k. k.0) (at.kept at.left) in
    let some : (get_or desks s.desk at.left).shard.hold ≡ Some held.0 = ap (λ (d : ShardState). d.hold) shard ∙ held.1 in
    let none : (get_or desks s.desk at.left).shard.hold ≡ None = still.holds s.desk at.left at.within in
    absurd (cc)

module _ {W : Type 0} (Runs : ℕ → List (DeskState × W) → List (DeskState × W) → Type 0) (budget : ℕ) where
  -- a run leaves as many works as desks
  paired_counts : (turns : ℕ) (old : List DeskState) (works : List W) (ran : List DeskState) (later : List W) → RunsPaired (Runs turns) old works ran later → length later ≡ length ran
  paired_counts turns old works ran later r =
      sym (ap length r.ended.seconds) ∙ length-map r.after (λ (p : DeskState × W). p.1) ∙ sym (length-map r.after (λ (p : DeskState × W). p.0)) ∙ ap length r.ended.firsts

  -- a run, and then turns until the node is still
  pub leg_done : (turns : ℕ) (old : List DeskState) (works : List W) (ran : List DeskState) (later : List W) (did : Rested) (new : List DeskState)
      → RunsPaired (Runs turns) old works ran later → RunsRounds (max budget 1) ran did new → AllDesksGoOn ran new → (did.stopped ≡ None → AreStill new) → IfSome did.stopped (λ s. StoppedAt (max budget 1) s new)
      → DoneLeg Runs budget turns (record { desks = old; works = works }) did (record { desks = new; works = later })
  leg_done turns old works ran later did new runs rests on still stopped = record {
    leg = record { ran = ran; runs = runs; rests = rests };
    counted = paired_counts turns old works ran later runs ∙ sym on.count;
    still = still;
    stopped = stopped;
  }

  pub leg_refused : (turns : ℕ) (old : List DeskState) (works : List W) (refused : RunFault) (new : List DeskState) (later : List W)
      → RunsNode (Runs turns) old works (Err refused) new later → length works ≡ length old
      → RunsLeg Runs budget turns (record { desks = old; works = works }) (Err refused) (record { desks = new; works = later })
  leg_refused turns old works fault.Works new later r count = absurd (r.0 count)
  leg_refused turns old works fault.Memory new later r count = rw (r.1, r.2) refl

  module _ (Goes : Worked W → Type 0) (most : ℕ) (old : Worked W) where
    -- the legs so far, where so many turns are left
    pub record SoFar (left : ℕ) (now : Worked W) : Type 0 where
      pub legs : List ℕ
      pub run : Legs Runs budget Goes legs old now
      pub counts : leg_turns legs + left ≡ most
      pub pairs : length now.works ≡ length now.desks
      pub first : length old.works ≡ length old.desks

    -- the same, where the next leg is to have so many
    pub record Underway (leg left : ℕ) (now : Worked W) : Type 0 where
      pub so_far : SoFar left now
      pub some : 0 < leg

    goes_last : (legs : List ℕ) (now : Worked W) → Legs Runs budget Goes legs old now → 0 < leg_turns legs → Goes now
    goes_last [] now run some = absurd (omega (arith, some))
    goes_last (turns ∷ legs) now run some = run.5

module _ {W : Type 0} {Runs : ℕ → List (DeskState × W) → List (DeskState × W) → Type 0} {budget : ℕ} {Goes : Worked W → Type 0} {most : ℕ} {old : Worked W} {left : ℕ} {now : Worked W} where
  pub one_more : {turns : ℕ} {did : Rested} {new : Worked W} → SoFar Runs budget Goes most old left now → DoneLeg Runs budget turns now did new → did.stopped ≡ None → Goes new → turns ≤ left
      → SoFar Runs budget Goes most old (left - turns) new
  one_more {turns} {did} far done on goes le = record {
    legs = turns ∷ far.legs;
    run = (now, did, far.run, done.leg, on, goes);
    counts = let c = far.counts in omega (arith, c, le);
    pairs = done.counted;
    first = far.first;
  }

  pub ended : {turns : ℕ} {did : Rested} {new : Worked W} (Ends : Rested → Worked W → Type 0) → SoFar Runs budget Goes most old left now → DoneLeg Runs budget turns now did new → Ends did new → turns ≤ left → 0 < turns
      → EndsBy Runs budget Goes most old Ends new
  ended {turns} {did} Ends far done ends le some = record {
    before = far.legs;
    last = now;
    legs = far.run;
    turns = turns;
    did = did;
    leg = done.leg;
    some = some;
    within = let c = far.counts in omega (arith, c, le);
    ends = ends;
  }

  pub spent : SoFar Runs budget Goes most old left now → left ≡ 0 → 0 < most → (legs : List ℕ) × Legs Runs budget Goes legs old now × (leg_turns legs ≡ most) × Goes now
  spent far none some =
      let all : leg_turns far.legs ≡ most = let c = far.counts in omega (arith, c, none) in
      (far.legs, far.run, all, goes_last Runs budget Goes most old far.legs now far.run (omega (arith, all, some)))

  pub refused_then : SoFar Runs budget Goes most old left now → 0 < left → (legs : List ℕ) × Legs Runs budget Goes legs old now × (leg_turns legs < most)
  refused_then far more = (far.legs, far.run, let c = far.counts in omega (arith, c, more))
