-- What supervisors uphold on the desks of a node stays so over a run of epochs.
use Rattle.std.proofs.Common.{◌≡◌, ◌⊎◌, inl, inr, ℕ, zero, suc, ◌<◌, false, List, [], ◌∷◌, ◌++◌, get_or, max, reverse, Ok, append_assoc, sym, ap, subst, ◌∙◌}
use Rattle.std.specs.Prelude.{⊤}
use Rattle.std.proofs.lemmas.List.{map-append, reverse-append}
use Rattle.pt_events.specs.declared.event.Stamped.{Stamped}
use Rattle.pt_events.specs.History.{Past}
use Rattle.pt_events.specs.Journal.{events}
use Rattle.pt_laws.specs.LoadLaws.{EmptyIsQuiet}
use Rattle.pt_laws.specs.LinkLaws.{MergeLinksOver}
use Rattle.pt_laws.specs.MonitorLaws.{QuietMonitorSince, QuietWatchOver}
use Rattle.pt_gathered.specs.Gathered.{GatheredState}
use Rattle.pt_gathered.specs.Settling.{NothingLeft}
use Rattle.pt_desk.specs.DeskState.{DeskState}
use Rattle.pt_workers.specs.Desks.{all_shards}
use Rattle.pt_workers.specs.NodeRunning.{RunsPaired}
use Rattle.pt_workers.specs.Running.{AllWork, BeginRelation, TakesTurns, Works, WorkRelation}
use Rattle.pt_workers.specs.declared.stillness.Rested.{Rested}
use Rattle.pt_node.proofs.Leftless.{still_gathered}
use Rattle.pt_crew.specs.declared.crew.Crew.{Crew}
use Rattle.pt_behaviour.specs.Behaving.{Answers}
use Rattle.pt_crew.specs.Running.{AllUphold, CrewsDo}
use Rattle.pt_behaviour.specs.Upholding.{Relation, IsUpheld}
use Rattle.pt_crew.proofs.Runs.{rest_upholds, run_upholds}
use Rattle.pt_supervisor.specs.Keeping.{Keeps, PartOf, SuperviseAs}
use Rattle.pt_pauses.specs.Gathering.{AllChildrenLive}
use Rattle.pt_pauses.proofs.AllLive.{all_children_live}
use Rattle.pt_pauses.specs.Still.{StillLaws}
use Rattle.pt_pauses.proofs.Still.{still_node}
use Rattle.pt_supervisor.proofs.Tending.{upheld}
use Rattle.pt_epochs.specs.declared.epochs.Outcome.{Outcome}
use Rattle.pt_epochs.specs.declared.epochs.Outcome.TheVariants as outcome
use Rattle.pt_epochs.specs.declared.epochs.Pause.{Pause}
use Rattle.pt_epochs.specs.declared.epochs.Pause.TheVariants.{Idle, Stopped, Full, Told, Asked, Spent}
use Rattle.pt_epochs.specs.declared.epochs.Plan.{Plan}
use Rattle.pt_epochs.specs.Driving.{AllWorkLet, LetsBegin, TakesLet, WorksLet}
use Rattle.pt_epochs.specs.Idle.{EndsBy, InTurns, Leg, Legs, Worked}
use Rattle.pt_epochs.specs.Running.{EndsPaused, EndsRun, GoesFurther, Manned, PassEach, PassesAsOne, PassesOne, RunsToPause, worked}
use Rattle.pt_epochs.proofs.Passing.{runs_past}
use Rattle.pt_pauses.specs.Pauses.{AllHold, EpochsHold, Pauses}
use Rattle.pt_pauses.proofs.Pausing.{pause_holds}

-- turns that a drive let begin are turns ------------------------------------------------------------

module _ {W : Type 0} (does : WorkRelation W) (lets : LetsBegin W) (budget : ℕ) where
  abbrev anyhow : BeginRelation W
  anyhow desk work turn begins = ⊤

  turns_taken : (desk count : ℕ) (old new : DeskState × W) → TakesLet lets does budget count old new → TakesTurns (anyhow desk) does budget count old new
  turns_taken desk zero old new h = h
  turns_taken desk (suc count) old new (last, before, begins, turn) = (last, turns_taken desk count old last before, tt, turn)

  works_taken : (desk turns : ℕ) (old new : DeskState × W) → WorksLet lets does turns budget old new → Works (anyhow desk) does turns budget old new
  works_taken desk turns old new w = record { count = w.count; took = turns_taken desk w.count old new w.took; ends = go w.ends }
    where
      go : (w.count ≡ turns) ⊎ ((w.count < turns) × lets new w.count false) → (w.count ≡ turns) ⊎ ((w.count < turns) × ⊤)
      go (inl all) = inl all
      go (inr some) = inr (some.0, tt)

  paired_taken : (turns : ℕ) (old : List DeskState) (works : List W) (new : List DeskState) (later : List W) → RunsPaired (AllWorkLet lets does turns budget) old works new later → RunsPaired (AllWork anyhow does turns budget) old works new later
  paired_taken turns old works new later r = record {
    before = r.before;
    after = r.after;
    begun = r.begun;
    ended = r.ended;
    each = r.each;
    runs = λ d x within. works_taken (get_or r.before d x).0.shard.number turns (get_or r.before d x) (get_or r.after d x) (r.runs d x within);
  }

-- legs ------------------------------------------------------------------------------------------------

module _ {B : Type 0} (answers : Answers B) (lets : LetsBegin (Crew B)) (budget : ℕ) (stands : Relation B) (k : IsUpheld answers stands) where
  leg_upholds : (turns : ℕ) (old : Worked (Crew B)) (did : Rested) (new : Worked (Crew B)) → Leg (InTurns answers lets budget) budget turns old did new → AllUphold stands old.works old.desks → AllUphold stands new.works new.desks
  leg_upholds turns old did new leg a =
      rest_upholds answers stands k (max budget 1) leg.ran new.desks new.works did leg.rests
      (run_upholds answers stands k (anyhow (CrewsDo answers) lets budget) turns budget old.desks leg.ran old.works new.works (Ok tt)
      (paired_taken (CrewsDo answers) lets budget turns old.desks old.works leg.ran new.works leg.runs) a)

  pub legs_uphold : (Goes : Worked (Crew B) → Type 0) (legs : List ℕ) (old new : Worked (Crew B)) → Legs (InTurns answers lets budget) budget Goes legs old new → AllUphold stands old.works old.desks → AllUphold stands new.works new.desks
  legs_uphold Goes [] old new h a = subst (λ (w : Worked (Crew B)). AllUphold stands w.works w.desks) (sym h) a
  legs_uphold Goes (turns ∷ legs) old new (mid, did, before, leg, on, goes) a = leg_upholds turns mid did new leg (legs_uphold Goes legs old mid before a)

  pub ends_uphold : (Goes : Worked (Crew B) → Type 0) (most : ℕ) (Ends : Rested → Worked (Crew B) → Type 0) (old new : Worked (Crew B)) → EndsBy (InTurns answers lets budget) budget Goes most old Ends new → AllUphold stands old.works old.desks
      → AllUphold stands new.works new.desks
  ends_uphold Goes most Ends old new e a = leg_upholds e.turns e.last e.did new e.leg (legs_uphold Goes e.before old e.last e.legs a)

-- epochs ----------------------------------------------------------------------------------------------

module _ {B : Type 0} (answers : Answers B) (part : PartOf B) (law : SuperviseAs answers part) where
  module _ (lets : LetsBegin (Crew B)) (plan : Plan) where
    abbrev Runs : ℕ → List (DeskState × Crew B) → List (DeskState × Crew B) → Type 0
    Runs = InTurns answers lets plan.budget

    pub runs_uphold : (stands : Relation B) → IsUpheld answers stands → (old : Worked (Crew B)) (pause : Pause) (new : Worked (Crew B)) → RunsToPause Runs plan old (Ok pause) new → AllUphold stands old.works old.desks → AllUphold stands new.works new.desks
    runs_uphold stands k old Spent new r a = legs_uphold answers lets plan.budget stands k (GoesFurther plan.events) r.0 old new r.1 a
    runs_uphold stands k old Idle new r a = ends_uphold answers lets plan.budget stands k (GoesFurther plan.events) (max plan.turns 1) (EndsPaused plan.events Idle) old new r a
    runs_uphold stands k old (Stopped s) new r a = ends_uphold answers lets plan.budget stands k (GoesFurther plan.events) (max plan.turns 1) (EndsPaused plan.events (Stopped s)) old new r a
    runs_uphold stands k old Full new r a = ends_uphold answers lets plan.budget stands k (GoesFurther plan.events) (max plan.turns 1) (EndsPaused plan.events Full) old new r a
    runs_uphold stands k old Told new r a = ends_uphold answers lets plan.budget stands k (GoesFurther plan.events) (max plan.turns 1) (EndsPaused plan.events Told) old new r a
    runs_uphold stands k old Asked new r a = ends_uphold answers lets plan.budget stands k (GoesFurther plan.events) (max plan.turns 1) (EndsPaused plan.events Asked) old new r a

    pub runs_hold : (past : Past) (old : Worked (Crew B)) (pause : Pause) (new : Worked (Crew B)) → RunsToPause Runs plan old (Ok pause) new → AllHold part past old.works old.desks → AllHold part past new.works new.desks
    runs_hold past old pause new r h = record {
      uphold = runs_uphold (Keeps past part) (upheld past part answers law) old pause new r h.uphold;
      from = runs_past Runs plan old pause new r past h.from;
    }

  module _ {S : Type 0} (Takes Refuses : S → List Stamped → S → Type 0) where
    pub epoch_holds : EpochsHold part Takes Refuses
    epoch_holds past history desks new crews later sink after e h = pause_holds answers part law past (reverse history) desks new crews later pause h
      where
        pause : Pauses (reverse history) desks crews new later
        pause = record {
          gathered = e.gathered;
          gathers = e.gathers;
          node = e.over.node;
          settled = e.over.settled;
          settles = e.over.settles;
          settled_node = e.over.over.node;
          merge = e.over.over.is.merge;
          resumes = e.over.over.resumed;
        }

    module _ (lets : LetsBegin (Crew B)) (plan : Plan) where
      one_holds : (past : Past) (pause : Pause) (history : List Stamped) (old new : Manned B S) → PassesOne (Runs lets plan) plan Takes Refuses pause history old new → AllHold part past old.crews old.desks
          → AllHold part (events (reverse history) ++ past) new.crews new.desks
      one_holds past pause history old new p h =
          epoch_holds past history p.ran.desks new.desks p.ran.works new.crews old.sink new.sink p.ends (runs_hold lets plan past (worked old) pause p.ran p.runs h)

      -- one history behind the other
      joined : (before history : List Stamped) (past : Past) → events (reverse history) ++ (events (reverse before) ++ past) ≡ events (reverse (before ++ history)) ++ past
      joined before history past =
          sym (append_assoc (events (reverse history)) (events (reverse before)) past)
          ∙ ap (λ z. z ++ past) (sym (map-append (λ (s : Stamped). s.event) (reverse history) (reverse before)) ∙ ap events (sym (reverse-append before history)))

      one_more : (past : Past) (before history : List Stamped) (pause : Pause) (mid new : Manned B S) → PassesOne (Runs lets plan) plan Takes Refuses pause history mid new → AllHold part (events (reverse before) ++ past) mid.crews mid.desks
          → AllHold part (events (reverse (before ++ history)) ++ past) new.crews new.desks
      one_more past before history pause mid new p h =
          subst (λ (z : Past). AllHold part z new.crews new.desks) (joined before history past) (one_holds (events (reverse before) ++ past) pause history mid new p h)

      pub each_holds : (n : ℕ) (past : Past) (all : List Stamped) (old new : Manned B S) → PassEach (Runs lets plan) plan Takes Refuses n all old new → AllHold part past old.crews old.desks → AllHold part (events (reverse all) ++ past) new.crews new.desks
      each_holds zero past all old new h a =
          subst (λ (xs : List Stamped). AllHold part (events (reverse xs) ++ past) new.crews new.desks) (sym h.0) (subst (λ (m : Manned B S). AllHold part past m.crews m.desks) (sym h.1) a)
      each_holds (suc n) past all old new (before, history, mid, pause, is, passed, one, goes) a =
          subst (λ (xs : List Stamped). AllHold part (events (reverse xs) ++ past) new.crews new.desks) (sym is)
          (one_more past before history pause mid new one (each_holds n past before old mid passed a))

      run_holds : (past : Past) (most : ℕ) (why : Outcome) (all : List Stamped) (old new : Manned B S) → EndsRun (Runs lets plan) plan Takes Refuses most why all old new → AllHold part past old.crews old.desks
          → AllHold part (events (reverse all) ++ past) new.crews new.desks
      run_holds past most outcome.Counted all old new h a = each_holds most past all old new h a
      run_holds past most outcome.Idle all old new (n, within, e) a =
          subst (λ (xs : List Stamped). AllHold part (events (reverse xs) ++ past) new.crews new.desks) (sym e.all_is)
          (one_more past e.before e.history e.pause e.mid new e.last (each_holds n past e.before old e.mid e.passed a))
      run_holds past most outcome.Told all old new (n, within, e) a =
          subst (λ (xs : List Stamped). AllHold part (events (reverse xs) ++ past) new.crews new.desks) (sym e.all_is)
          (one_more past e.before e.history e.pause e.mid new e.last (each_holds n past e.before old e.mid e.passed a))

      pub passes_hold : (past : Past) (most : ℕ) (why : Outcome) (old new : Manned B S) (passes : PassesAsOne (Runs lets plan) plan Takes Refuses most why old new) → AllHold part past old.crews old.desks
          → AllHold part (events (reverse passes.all) ++ past) new.crews new.desks
      passes_hold past most why old new passes h = run_holds past most why passes.all old new passes.passes h

      -- an epoch that ends since nothing is left to do
      module _ (laws : StillLaws) (empty : EmptyIsQuiet) (links : MergeLinksOver) (monitors : QuietMonitorSince) (watches : QuietWatchOver) where
        pub idle_lives : (past : Past) (history : List Stamped) (old new : Manned B S) (passes : PassesOne (Runs lets plan) plan Takes Refuses Idle history old new) → AllHold part past old.crews old.desks
            → AllChildrenLive past part passes.ran.works passes.ends.over.settled
        idle_lives past history old new passes h =
            let over = passes.ends.over in
            let nothing : NothingLeft passes.ends.gathered = still_gathered passes.ran.desks passes.ends.gathered passes.ends.gathers passes.still in
            let shards : over.settled.shards ≡ all_shards passes.ran.desks = ap (λ (g : GatheredState). g.shards) (over.same nothing) ∙ passes.ends.gathers.shards in
            all_children_live part laws past passes.ran.works passes.ran.desks over.settled (runs_hold lets plan past (worked old) Idle passes.ran passes.runs h).uphold passes.runs.ends.1.none.idle shards over.over.node
            (still_node laws empty links monitors watches over.settled over.over.node over.nothing_left)
