-- Epochs, one behind the other.
use Rattle.std.proofs.Common.{◌≡◌, ℕ, zero, suc, ◌+◌, ◌<◌, Bool, List, [], ◌++◌, max, Some, None, Result, Ok, Err, refl, sym, ap, ◌∙◌, subst, arith}
use Rattle.std.specs.Prelude.{IfErr}
use Rattle.pt_events.specs.declared.event.Stamped.{Stamped}
use Rattle.pt_events.specs.History.{Past}
use Rattle.pt_gathered.specs.Gathered.{GatheredState}
use Rattle.pt_gathered.specs.Settling.{NothingLeft}
use Rattle.pt_shard.specs.ShardState.{ShardState}
use Rattle.pt_desk.specs.DeskState.{DeskState}
use Rattle.pt_workers.specs.Desks.{all_shards}
use Rattle.pt_workers.specs.Stillness.{AreStill}
use Rattle.pt_workers.specs.declared.stillness.Rested.{Rested}
use Rattle.pt_workers.specs.declared.stillness.Stopped as stop
use Rattle.pt_node.specs.Pasts.{GoOnFrom, IsOneHistory}
use Rattle.pt_node.proofs.Leftless.{still_gathered}
use Rattle.pt_node.proofs.Pasts.{nothing_yet, one_after}
use Rattle.pt_crew.specs.declared.crew.Crew.{Crew}
use Rattle.pt_behaviour.specs.Behaving.{Answers}
use Rattle.pt_epochs.specs.declared.epochs.Plan.{Plan}
use Rattle.pt_epochs.specs.declared.epochs.Pause.{Pause}
use Rattle.pt_epochs.specs.declared.epochs.Pause.TheVariants.{Idle, Stopped, Full, Told, Asked, Spent}
use Rattle.pt_epochs.specs.declared.epochs.Outcome.{Outcome}
use Rattle.pt_epochs.specs.declared.epochs.Outcome.TheVariants as outcome
use Rattle.pt_epochs.specs.declared.halted.Halted.{Halted}
use Rattle.pt_epochs.specs.Idle.{EndsBy, InTurns, Worked}
use Rattle.pt_epochs.specs.Epochs.{AllAttend}
use Rattle.pt_epochs.specs.Running.{EndsPaused, EndsRun, EndsWithOne, GoesFurther, HaltsOne, HaltsRun, Manned, PassEach, PassesAsOne, PassesOne, RunsToPause, outcome_of, worked}
use Rattle.pt_epochs.proofs.Attending.{leg_attends, legs_attend, resumed_attends}
use Rattle.pt_epochs.proofs.Whole.{ends_past, legs_past}

module _ {B : Type 0} (Runs : ℕ → List (DeskState × Crew B) → List (DeskState × Crew B) → Type 0) (plan : Plan) where
  pub runs_past : (old : Worked (Crew B)) (pause : Pause) (new : Worked (Crew B)) → RunsToPause Runs plan old (Ok pause) new → (past : Past) → GoOnFrom past old.desks → GoOnFrom past new.desks
  runs_past old Spent new r = legs_past Runs plan.budget (GoesFurther plan.events) r.0 old new r.1
  runs_past old Idle new r = ends_past Runs plan.budget (GoesFurther plan.events) (max plan.turns 1) old (EndsPaused plan.events Idle) new r
  runs_past old (Stopped s) new r = ends_past Runs plan.budget (GoesFurther plan.events) (max plan.turns 1) old (EndsPaused plan.events (Stopped s)) new r
  runs_past old Full new r = ends_past Runs plan.budget (GoesFurther plan.events) (max plan.turns 1) old (EndsPaused plan.events Full) new r
  runs_past old Told new r = ends_past Runs plan.budget (GoesFurther plan.events) (max plan.turns 1) old (EndsPaused plan.events Told) new r
  runs_past old Asked new r = ends_past Runs plan.budget (GoesFurther plan.events) (max plan.turns 1) old (EndsPaused plan.events Asked) new r

  -- unless a turn was stopped the node is still
  pub runs_still : (old : Worked (Crew B)) (pause : Pause) (new : Worked (Crew B)) → ((s : stop.Stopped) → pause ≡ Stopped s → ⊥) → RunsToPause Runs plan old (Ok pause) new → AreStill new.desks
  runs_still old Spent new on r = r.3.still
  runs_still old Idle new on r = r.ends.1.still
  runs_still old (Stopped s) new on r = absurd (on s refl)
  runs_still old Full new on r = r.ends.1
  runs_still old Told new on r = r.ends.1.still
  runs_still old Asked new on r = r.ends.1.still

  module _ {S : Type 0} (Takes Refuses : S → List Stamped → S → Type 0) where
    pub passes_whole : (pause : Pause) (history : List Stamped) (old new : Manned B S) → PassesOne Runs plan Takes Refuses pause history old new → IsOneHistory history old.desks new.desks
    passes_whole pause history old new p past from = p.ends.whole past (runs_past (worked old) pause p.ran p.runs past from)

    pub each_whole : (n : ℕ) (all : List Stamped) (old new : Manned B S) → PassEach Runs plan Takes Refuses n all old new → IsOneHistory all old.desks new.desks
    each_whole zero all old new h =
        subst (λ (xs : List Stamped). IsOneHistory xs old.desks new.desks) (sym h.0) (subst (λ (m : Manned B S). IsOneHistory [] old.desks m.desks) (sym h.1) (nothing_yet old.desks))
    each_whole (suc n) all old new (before, history, mid, pause, is, passed, one, goes) =
        subst (λ (xs : List Stamped). IsOneHistory xs old.desks new.desks) (sym is)
        (one_after before history old.desks mid.desks new.desks (each_whole n before old mid passed) (passes_whole pause history mid new one))

    not_counted : (pause : Pause) → outcome_of pause ≡ Some outcome.Counted → ⊥
    not_counted Idle is = absurd (cc)
    not_counted (Stopped s) is = absurd (cc)
    not_counted Full is = absurd (cc)
    not_counted Told is = absurd (cc)
    not_counted Asked is = absurd (cc)
    not_counted Spent is = absurd (cc)

    -- the run ends behind one more
    pub ends_run : (most n : ℕ) (why : Outcome) (all : List Stamped) (old new : Manned B S) → n < most → EndsWithOne Runs plan Takes Refuses n why all old new → EndsRun Runs plan Takes Refuses most why all old new
    ends_run most n outcome.Counted all old new within e = absurd (not_counted e.pause e.why_is)
    ends_run most n outcome.Idle all old new within e = (n, within, e)
    ends_run most n outcome.Told all old new within e = (n, within, e)

    -- so many epochs have passed, and the run goes on behind each of them
    pub record Passed (n : ℕ) (old new : Manned B S) : Type 0 where
      pub before : List Stamped
      pub each : PassEach Runs plan Takes Refuses n before old new

module _ {B S : Type 0} {Runs : ℕ → List (DeskState × Crew B) → List (DeskState × Crew B) → Type 0} {plan : Plan} {Takes Refuses : S → List Stamped → S → Type 0} {n : ℕ} {first mid : Manned B S} where
  -- behind so many one halts
  pub halts_after : {X : Type 0} (result : Result X Halted) (halted : Halted) (later : List (Crew B)) (after : S) → Passed Runs plan Takes Refuses n first mid → HaltsOne Runs plan Takes Refuses mid halted later after
      → n < plan.epochs → result ≡ Err halted → IfErr result (λ h. HaltsRun Runs plan Takes Refuses plan.epochs first h later after)
  halts_after result halted later after p halts within is = subst (λ r. IfErr r (λ h. HaltsRun Runs plan Takes Refuses plan.epochs first h later after)) (sym is)
      (record { n = n; within = within; before = p.before; mid = mid; passed = p.each; halts = halts; whole = each_whole Runs plan Takes Refuses n p.before first mid p.each })

  -- or these were all
  pub all_after : Passed Runs plan Takes Refuses n first mid → n ≡ plan.epochs → PassesAsOne Runs plan Takes Refuses plan.epochs outcome.Counted first mid
  all_after p all =
      record { all = p.before; passes = subst (λ k. PassEach Runs plan Takes Refuses k p.before first mid) all p.each; whole = each_whole Runs plan Takes Refuses n p.before first mid p.each }

  module _ {pause : Pause} {new : Manned B S} where
    -- or one more passes, and the run ends
    pub ends_after : {why : Outcome} → Passed Runs plan Takes Refuses n first mid → (history : List Stamped) × PassesOne Runs plan Takes Refuses pause history mid new
        → outcome_of pause ≡ Some why → n < plan.epochs → PassesAsOne Runs plan Takes Refuses plan.epochs why first new
    ends_after {why} p (history, one) is within = record {
      all = p.before ++ history;
      passes = ends_run Runs plan Takes Refuses plan.epochs n why (p.before ++ history) first new within
          (record { before = p.before; history = history; mid = mid; pause = pause; all_is = refl; passed = p.each; last = one; why_is = is });
      whole = one_after p.before history first.desks mid.desks new.desks (each_whole Runs plan Takes Refuses n p.before first mid p.each) (passes_whole Runs plan Takes Refuses pause history mid new one);
    }

    -- or it goes on
    pub goes_after : Passed Runs plan Takes Refuses n first mid → (history : List Stamped) × PassesOne Runs plan Takes Refuses pause history mid new
        → outcome_of pause ≡ None → Passed Runs plan Takes Refuses (n + 1) first new
    goes_after p (history, one) is =
        let next : suc n ≡ n + 1 = omega arith in
        subst (λ k. Passed Runs plan Takes Refuses k first new) next (record { before = p.before ++ history; each = (p.before, history, mid, pause, refl, p.each, one, is) })

module _ {B : Type 0} (answers : Answers B) (lets : DeskState × Crew B → ℕ → Bool → Type 0) (plan : Plan) where
  abbrev Runs : ℕ → List (DeskState × Crew B) → List (DeskState × Crew B) → Type 0
  Runs = InTurns answers lets plan.budget

  ends_attend : (Ends : Rested → Worked (Crew B) → Type 0) (old new : Worked (Crew B)) → EndsBy Runs plan.budget (GoesFurther plan.events) (max plan.turns 1) old Ends new → AllAttend old.works (all_shards old.desks) → AllAttend new.works (all_shards new.desks)
  ends_attend Ends old new e a =
      leg_attends answers lets plan.budget e.turns e.last e.did new e.leg (legs_attend answers lets plan.budget (GoesFurther plan.events) e.before old e.last e.legs a)

  runs_attend : (old : Worked (Crew B)) (pause : Pause) (new : Worked (Crew B)) → RunsToPause Runs plan old (Ok pause) new → AllAttend old.works (all_shards old.desks) → AllAttend new.works (all_shards new.desks)
  runs_attend old Spent new r a = legs_attend answers lets plan.budget (GoesFurther plan.events) r.0 old new r.1 a
  runs_attend old Idle new r a = ends_attend (EndsPaused plan.events Idle) old new r a
  runs_attend old (Stopped s) new r a = ends_attend (EndsPaused plan.events (Stopped s)) old new r a
  runs_attend old Full new r a = ends_attend (EndsPaused plan.events Full) old new r a
  runs_attend old Told new r a = ends_attend (EndsPaused plan.events Told) old new r a
  runs_attend old Asked new r a = ends_attend (EndsPaused plan.events Asked) old new r a

  module _ {S : Type 0} (Takes Refuses : S → List Stamped → S → Type 0) where
    -- nobody's wake-up is lost over the end of an epoch
    passes_attend : (pause : Pause) (history : List Stamped) (old new : Manned B S) → PassesOne Runs plan Takes Refuses pause history old new → AllAttend old.crews (all_shards old.desks) → AllAttend new.crews (all_shards new.desks)
    passes_attend pause history old new p a =
        let e = p.ends in
        let over = e.over in
        let ran : AllAttend p.ran.works (all_shards p.ran.desks) = runs_attend (worked old) pause p.ran p.runs a in
        let nothing : NothingLeft e.gathered = still_gathered p.ran.desks e.gathered e.gathers p.still in
        let shards : over.settled.shards ≡ all_shards p.ran.desks = ap (λ (g : GatheredState). g.shards) (over.same nothing) ∙ e.gathers.shards in
        resumed_attends over.settled p.ran.works new.desks new.crews over.over.resumed (subst (λ (ss : List ShardState). AllAttend p.ran.works ss) (sym shards) ran)

    each_attend : (n : ℕ) (all : List Stamped) (old new : Manned B S) → PassEach Runs plan Takes Refuses n all old new → AllAttend old.crews (all_shards old.desks) → AllAttend new.crews (all_shards new.desks)
    each_attend zero all old new h a = subst (λ (m : Manned B S). AllAttend m.crews (all_shards m.desks)) (sym h.1) a
    each_attend (suc n) all old new (before, history, mid, pause, is, passed, one, goes) a =
        passes_attend pause history mid new one (each_attend n before old mid passed a)

    pub passed_attend : {n : ℕ} {first mid : Manned B S} → Passed Runs plan Takes Refuses n first mid → AllAttend first.crews (all_shards first.desks) → AllAttend mid.crews (all_shards mid.desks)
    passed_attend {n} {first} {mid} p a = each_attend n p.before first mid p.each a

    pub ended_attend : {n : ℕ} {first mid new : Manned B S} {pause : Pause} → Passed Runs plan Takes Refuses n first mid → (history : List Stamped) × PassesOne Runs plan Takes Refuses pause history mid new
        → AllAttend first.crews (all_shards first.desks) → AllAttend new.crews (all_shards new.desks)
    ended_attend {n} {first} {mid} {new} {pause} p (history, one) a = passes_attend pause history mid new one (passed_attend p a)
