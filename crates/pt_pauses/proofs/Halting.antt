-- What supervisors uphold where a run of epochs halts, and where it goes on from there.
use Rattle.std.proofs.Common.{◌≡◌, inl, ℕ, ◌<◌, List, [], ◌++◌, length, map, reverse, get_or, Result, Ok, Err, refl, sym, ap, subst, ◌∙◌, arith}
use Rattle.std.proofs.lemmas.List.{get_or_default}
use Rattle.pt_events.specs.declared.event.Stamped.{Stamped}
use Rattle.pt_events.specs.History.{Past}
use Rattle.pt_events.specs.Journal.{events}
use Rattle.pt_laws.specs.Laws.{MergeLegal}
use Rattle.pt_laws.specs.LoadLaws.{EmptyIsQuiet}
use Rattle.pt_laws.specs.LinkLaws.{MergeKnown, MergeLinksOver}
use Rattle.pt_laws.specs.MonitorLaws.{QuietMonitorSince, QuietWatchOver}
use Rattle.pt_signal.specs.declared.config.Config.{Config}
use Rattle.pt_shard.specs.ShardState.{ShardState}
use Rattle.pt_gathered.specs.Gathered.{GatheredState, IsGathered}
use Rattle.pt_gathered.specs.Pasts.{IsBeginningOf}
use Rattle.pt_gathered.specs.Quiet.{QuietState}
use Rattle.pt_gathered.specs.Settling.{Settles}
use Rattle.pt_desk.specs.DeskState.{DeskState}
use Rattle.pt_workers.specs.Desks.{AreDesksOf, desk_kept}
use Rattle.pt_workers.specs.declared.run_fault.RunFault.{RunFault}
use Rattle.pt_workers.specs.declared.run_fault.RunFault.TheVariants as fault
use Rattle.pt_workers.proofs.Begun.{starts_stay}
use Rattle.pt_workers.proofs.Meeting.{kept_count, kept_shard}
use Rattle.pt_workers.proofs.StillDesks.{kept_desks}
use Rattle.pt_node.specs.Gathering.{Gathers}
use Rattle.pt_node.specs.Pasts.{GoOnFrom}
use Rattle.pt_behaviour.specs.declared.behaviour.Next.TheVariants.{Stop}
use Rattle.pt_crew.specs.declared.crew.Crew.{Crew}
use Rattle.pt_behaviour.specs.Behaving.{Answers}
use Rattle.pt_crew.specs.Crews.{members, queue}
use Rattle.pt_crew.specs.Running.{UpholdsOn}
use Rattle.pt_crew.specs.Waking.{IsAwake}
use Rattle.pt_crew.proofs.Runs.{idle_awake}
use Rattle.pt_supervisor.specs.Keeping.{Keeps, PartOf, SuperviseAs}
use Rattle.pt_pauses.specs.Still.{StillLaws}
use Rattle.pt_pauses.proofs.Still.{children_live, still_node}
use Rattle.pt_crew.proofs.Resting.{awake_idle}
use Rattle.pt_pauses.proofs.Stopping.{stopped_children}
use Rattle.pt_supervisor.proofs.Tending.{upheld}
use Rattle.pt_epochs.specs.declared.epochs.Plan.{Plan}
use Rattle.pt_epochs.specs.declared.epochs.Pause.{Pause}
use Rattle.pt_epochs.specs.declared.epochs.Pause.TheVariants.{Stopped}
use Rattle.pt_epochs.specs.declared.halted.Halted.{Halted}
use Rattle.pt_epochs.specs.declared.halted.Halted.TheVariants.{Running, Turning, Gathering, Settling, Reading, Taking, Resuming, Beginning}
use Rattle.pt_epochs.specs.declared.idle.Ended.TheVariants as ended
use Rattle.pt_epochs.specs.Driving.{LetsBegin}
use Rattle.pt_epochs.specs.Epochs.{AllHaveRoom, HaltsEpoch, HaltsHanding, HaltsResuming, HaltsSettling, HandsAs}
use Rattle.pt_epochs.specs.Idle.{EndsBy, InTurns, IsGoing, Legs, Worked}
use Rattle.pt_epochs.specs.Running.{GoesFurther, HaltsOne, Manned, RunsToPause, worked}
use Rattle.pt_epochs.proofs.Whole.{ends_past, legs_past}
use Rattle.pt_workers.specs.declared.stillness.Rested.{Rested}
use Rattle.pt_pauses.specs.Pauses.{AllHold}
use Rattle.pt_pauses.specs.Halts.{AllHoldIn, GoingOnHolds, HaltedEpochHolds, HaltedRunHolds, HaltingAgainHolds, HeldChildrenEnded, HeldChildrenLive, HoldWhereHalted, RunUntilIdleHolds}
use Rattle.pt_pauses.proofs.Passing.{each_holds, ends_uphold, epoch_holds, legs_uphold, runs_hold}
use Rattle.pt_pauses.proofs.Settling.{gathering_holds, resuming_holds, settling_holds, some_of}

-- desks that came back, as a refused gathering keeps them ---------------------------------------------

one_config : (one two : Config) (new old : List DeskState) → map desk_kept new ≡ map desk_kept old → AreDesksOf one new → AreDesksOf two old → one ≡ two
one_config one two new old kept a b =
    let x = some_of old 0 b.some in
    sym (a.configs 0 x a.some) ∙ (ap (λ (s : ShardState). s.config) (kept_shard new old kept 0 x b.some) ∙ b.configs 0 x b.some)

from_kept : (new old : List DeskState) → map desk_kept new ≡ map desk_kept old → (past : Past) → GoOnFrom past old → GoOnFrom past new
from_kept new old kept past from =
    let are = kept_desks new old kept (from.config, from.node) in
    record {
      config = from.config;
      node = subst (λ (c : Config). AreDesksOf c new) (one_config are.0 from.config new old kept are.1 from.node) are.1;
      begun = subst (IsBeginningOf past from.config.start) (sym (starts_stay old new (kept_count new old kept) (λ d x l. ap (λ (s : ShardState). s.start) (kept_shard new old kept d x l)))) from.begun;
    }

kept_holds : {B : Type 0} (part : PartOf B) (past : Past) (new old : List DeskState) (crews : List (Crew B)) → map desk_kept new ≡ map desk_kept old → AllHold part past crews old → AllHold part past crews new
kept_holds part past new old crews kept h = record {
  uphold = record {
    count = h.uphold.count ∙ sym (kept_count new old kept);
    each = λ d c x l.
        let count = kept_count new old kept in
        let within : d < length old = omega (arith, l, count) in
        subst (UpholdsOn (Keeps past part) (get_or crews d c)) (sym (kept_shard new old kept d x within)) (h.uphold.each d c x within);
  };
  from = from_kept new old kept past h.from;
}

-- what a call returned that returned this
abbrev returned : Result (List DeskState) Halted → List DeskState
returned (Ok desks) = desks
returned (Err halted) = []

module _ {B : Type 0} (answers : Answers B) (part : PartOf B) (law : SuperviseAs answers part) where
  -- the two theorems --------------------------------------------------------------------------------------

  pub held_live : StillLaws → EmptyIsQuiet → MergeLinksOver → QuietMonitorSince → QuietWatchOver → HeldChildrenLive part
  held_live laws empty links monitors watches past crews g none idle h d c x l =
      children_live part laws past crew s g h.node (still_node laws empty links monitors watches g h.node none) (omega (arith, l, number_is)) at on.upholds (awake_idle crew s awake.1 awake.0)
    where
      crew : Crew B
      crew = get_or crews d c

      s : ShardState
      s = get_or g.shards d x

      on : UpholdsOn (Keeps past part) crew s
      on = h.each d c x l

      awake : (queue crew ≡ []) × IsAwake (members crew) (queue crew) s
      awake = idle_awake crew s (idle d c x l) on.attends

      number_is : s.number ≡ d
      number_is = (h.node.shards d x l).number

      at : s ≡ get_or g.shards s.number s
      at = get_or_default g.shards d x s l ∙ ap (λ n. get_or g.shards n s) (sym number_is)

  pub held_ended : MergeLegal → MergeKnown → HeldChildrenEnded part
  held_ended legal known past crews g h d c x p b reason s l is part_is here =
      stopped_children part legal known past (record { pid = p; behaviour = b; next = Stop reason }) reason s z g h.node (omega (arith, l, number_is)) at
      (inl ((h.each d c x l).upholds.members p (b, Stop reason) is)) refl part_is (here ∙ sym number_is) (inl h.from)
    where
      z : ShardState
      z = get_or g.shards d x

      number_is : z.number ≡ d
      number_is = (h.node.shards d x l).number

      at : z ≡ get_or g.shards z.number z
      at = get_or_default g.shards d x z l ∙ ap (λ n. get_or g.shards n z) (sym number_is)

  -- halts -------------------------------------------------------------------------------------------------

  have_room : (past : Past) (crews : List (Crew B)) (g : GatheredState) → AllHoldIn part past crews g → AllHaveRoom crews
  have_room past crews g h d c l =
      let count = h.count in
      let within : d < length g.shards = omega (arith, l, count) in
      (h.each d c (some_of g.shards d within) within).attends.room

  with_crews : (past : Past) (g : GatheredState) (crews later : List (Crew B)) → later ≡ crews → AllHoldIn part past crews g → AllHoldIn part past later g
  with_crews past g crews later same h = subst (λ (cs : List (Crew B)). AllHoldIn part past cs g) (sym same) h

  on_desks : (past : Past) (node desks : List DeskState) (crews later : List (Crew B)) → node ≡ desks → later ≡ crews → AllHold part past crews desks → AllHold part past later node
  on_desks past node desks crews later is same h =
      subst (λ (cs : List (Crew B)). AllHold part past cs node) (sym same) (subst (AllHold part past crews) (sym is) h)

  of_quiet : (past : Past) (back q : QuietState) (crews later : List (Crew B)) → back ≡ q → later ≡ crews → AllHoldIn part past crews q.gathered → AllHoldIn part past later back.gathered
  of_quiet past back q crews later is same h =
      with_crews past back.gathered crews later same (subst (λ (z : QuietState). AllHoldIn part past crews z.gathered) (sym is) h)

  halts_resuming : (past : Past) (q : QuietState) (crews : List (Crew B)) (halted : Halted) (later : List (Crew B)) → HaltsResuming q crews halted later → AllHoldIn part past crews q.gathered → HoldWhereHalted part past later halted
  halts_resuming past q crews (Resuming back) later r h = of_quiet past back q crews later r.0 r.1 h
  halts_resuming past q crews (Beginning node) later r h = absurd (r.2.1 (have_room past crews q.gathered h))
  halts_resuming past q crews (Running a b) later r h = absurd r.2
  halts_resuming past q crews (Turning a b) later r h = absurd r.2
  halts_resuming past q crews (Gathering a) later r h = absurd r.2
  halts_resuming past q crews (Settling a) later r h = absurd r.2
  halts_resuming past q crews (Reading a) later r h = absurd r.2
  halts_resuming past q crews (Taking a) later r h = absurd r.2

  module _ {S : Type 0} (Takes Refuses : S → List Stamped → S → Type 0) where
    halts_handing : (past : Past) (q : QuietState) (crews : List (Crew B)) (sink : S) (halted : Halted) (later : List (Crew B)) (after : S) → HaltsHanding Takes Refuses q crews sink halted later after → AllHoldIn part past crews q.gathered
        → HoldWhereHalted part past later halted
    halts_handing past q crews sink (Reading back) later after r h = of_quiet past back q crews later r.0 r.1 h
    halts_handing past q crews sink (Taking back) later after r h = of_quiet past back q crews later r.0 r.1 h
    halts_handing past q crews sink (Resuming a) later after r h = halts_resuming past q crews (Resuming a) later r.3 h
    halts_handing past q crews sink (Beginning a) later after r h = halts_resuming past q crews (Beginning a) later r.3 h
    halts_handing past q crews sink (Running a b) later after r h = halts_resuming past q crews (Running a b) later r.3 h
    halts_handing past q crews sink (Turning a b) later after r h = halts_resuming past q crews (Turning a b) later r.3 h
    halts_handing past q crews sink (Gathering a) later after r h = halts_resuming past q crews (Gathering a) later r.3 h
    halts_handing past q crews sink (Settling a) later after r h = halts_resuming past q crews (Settling a) later r.3 h

    -- settled, and then halted
    module _ (past : Past) (g : GatheredState) (crews : List (Crew B)) (sink : S) (later : List (Crew B)) (after : S) (h : AllHoldIn part past crews g) where
      behind : (halted : Halted) (q : QuietState) → IsGathered q.gathered → Settles g q.gathered → HaltsHanding Takes Refuses q crews sink halted later after → HoldWhereHalted part past later halted
      behind halted q node settles r = halts_handing past q crews sink halted later after r (settling_holds answers part law past crews g q.gathered settles node h)

      halts_settling : (halted : Halted) → HaltsSettling Takes Refuses g crews sink halted later after → HoldWhereHalted part past later halted
      halts_settling (Settling back) r = with_crews past back.gathered crews later r.3 (settling_holds answers part law past crews g back.gathered r.2 r.1 h)
      halts_settling (Running a b) r = behind (Running a b) r.0 r.2 r.3 r.5
      halts_settling (Turning a b) r = behind (Turning a b) r.0 r.2 r.3 r.5
      halts_settling (Gathering a) r = behind (Gathering a) r.0 r.2 r.3 r.5
      halts_settling (Reading a) r = behind (Reading a) r.0 r.2 r.3 r.5
      halts_settling (Taking a) r = behind (Taking a) r.0 r.2 r.3 r.5
      halts_settling (Resuming a) r = behind (Resuming a) r.0 r.2 r.3 r.5
      halts_settling (Beginning a) r = behind (Beginning a) r.0 r.2 r.3 r.5

    -- a halt behind the gathering is one of a gathered node
    is_gathered : (g : GatheredState) (crews : List (Crew B)) (sink : S) (halted : Halted) (later : List (Crew B)) (after : S) → HaltsSettling Takes Refuses g crews sink halted later after → IsGathered g
    is_gathered g crews sink (Settling back) later after r = r.0
    is_gathered g crews sink (Running a b) later after r = r.1
    is_gathered g crews sink (Turning a b) later after r = r.1
    is_gathered g crews sink (Gathering a) later after r = r.1
    is_gathered g crews sink (Reading a) later after r = r.1
    is_gathered g crews sink (Taking a) later after r = r.1
    is_gathered g crews sink (Resuming a) later after r = r.1
    is_gathered g crews sink (Beginning a) later after r = r.1

    module _ (past : Past) (old : List DeskState) (crews later : List (Crew B)) (sink after : S) (h : AllHold part past crews old) where
      gathered_then : (halted : Halted) (g : GatheredState) → Gathers old g → HaltsSettling Takes Refuses g crews sink halted later after → HoldWhereHalted part past later halted
      gathered_then halted g gathers r =
          halts_settling past g crews sink later after (gathering_holds answers part law past old crews g gathers (is_gathered g crews sink halted later after r) h) halted r

      halts_epoch : (halted : Halted) → HaltsEpoch Takes Refuses old crews sink halted later after → HoldWhereHalted part past later halted
      halts_epoch (Gathering back) r = on_desks past back.node back.node crews later refl r.1 (kept_holds part past back.node old crews r.0 h)
      halts_epoch (Running a b) r = gathered_then (Running a b) r.0 r.1 r.2
      halts_epoch (Turning a b) r = gathered_then (Turning a b) r.0 r.1 r.2
      halts_epoch (Settling a) r = gathered_then (Settling a) r.0 r.1 r.2
      halts_epoch (Reading a) r = gathered_then (Reading a) r.0 r.1 r.2
      halts_epoch (Taking a) r = gathered_then (Taking a) r.0 r.1 r.2
      halts_epoch (Resuming a) r = gathered_then (Resuming a) r.0 r.1 r.2
      halts_epoch (Beginning a) r = gathered_then (Beginning a) r.0 r.1 r.2

    pub halted_epoch_holds : HaltedEpochHolds part Takes Refuses
    halted_epoch_holds past old crews later halted sink after r h = halts_epoch past old crews later sink after h halted r

    -- going on ----------------------------------------------------------------------------------------------

    handed_then : (past : Past) (q : QuietState) (desks : List DeskState) (crews later : List (Crew B)) (sink after : S) → HandsAs Takes Refuses q crews sink (Ok desks) later after → AllHoldIn part past crews q.gathered
        → (history : List Stamped) × Takes sink history after × AllHold part (events (reverse history) ++ past) later desks
    handed_then past q desks crews later sink after (history, o) h =
        (history, o.takes, resuming_holds answers part law past (reverse history) q.gathered crews later desks o.is.merge o.resumed h)

    pub going_on_holds : GoingOnHolds part Takes Refuses
    going_on_holds past (Running node refused) desks crews later sink after r h = on_desks past desks node crews later (ap returned r.0) r.1 h
    going_on_holds past (Turning node stopped) desks crews later sink after r h = on_desks past desks node crews later (ap returned r.0) r.1 h
    going_on_holds past (Gathering back) desks crews later sink after (history, e) h =
        (history, e.over.over.takes, epoch_holds answers part law Takes Refuses past history back.node desks crews later sink after e h)
    going_on_holds past (Settling back) desks crews later sink after (history, o) h = (
      history,
      o.over.takes,
      resuming_holds answers part law past (reverse history) o.settled crews later desks o.over.is.merge o.over.resumed (settling_holds answers part law past crews back.gathered o.settled o.settles o.over.node h),
    )
    going_on_holds past (Reading q) desks crews later sink after r h = handed_then past q desks crews later sink after r h
    going_on_holds past (Taking q) desks crews later sink after r h = handed_then past q desks crews later sink after r h
    going_on_holds past (Resuming q) desks crews later sink after r h = λ merged merge.
        resuming_holds answers part law past merged q.gathered crews later desks merge r.0 h
    going_on_holds past (Beginning node) desks crews later sink after r h = absurd h

    pub halting_again_holds : HaltingAgainHolds part Takes Refuses
    halting_again_holds past (Running node refused) again crews later sink after r h = absurd (let bad = r.0 in cc)
    halting_again_holds past (Turning node stopped) again crews later sink after r h = absurd (let bad = r.0 in cc)
    halting_again_holds past (Gathering back) again crews later sink after r h = halts_epoch past back.node crews later sink after h again r
    halting_again_holds past (Settling back) again crews later sink after r h = halts_settling past back.gathered crews sink later after h again r
    halting_again_holds past (Reading q) again crews later sink after r h = halts_handing past q crews sink again later after r h
    halting_again_holds past (Taking q) again crews later sink after r h = halts_handing past q crews sink again later after r h
    halting_again_holds past (Resuming q) again crews later sink after r h = halts_resuming past q crews again later r.0 h
    halting_again_holds past (Beginning node) again crews later sink after r h = absurd h

    -- a run of epochs that halts ----------------------------------------------------------------------------

    module _ (lets : LetsBegin (Crew B)) (plan : Plan) where
      abbrev Runs : ℕ → List (DeskState × Crew B) → List (DeskState × Crew B) → Type 0
      Runs = InTurns answers lets plan.budget

      refused_holds : (past : Past) (old : Worked (Crew B)) (why : RunFault) (new : Worked (Crew B)) → RunsToPause Runs plan old (Err why) new → AllHold part past old.works old.desks → AllHold part past new.works new.desks
      refused_holds past old fault.Works new r h = subst (λ (w : Worked (Crew B)). AllHold part past w.works w.desks) (sym r.1) h
      refused_holds past old fault.Memory new (count, (legs, ran, some)) h = record {
        uphold = legs_uphold answers lets plan.budget (Keeps past part) (upheld past part answers law) (GoesFurther plan.events) legs old new ran h.uphold;
        from = legs_past Runs plan.budget (GoesFurther plan.events) legs old new ran past h.from;
      }

      module _ (past : Past) (old : Manned B S) (later : List (Crew B)) (after : S) (h : AllHold part past old.crews old.desks) where
        ended_then : (halted : Halted) (ran : Worked (Crew B)) (pause : Pause) → RunsToPause Runs plan (worked old) (Ok pause) ran → HaltsEpoch Takes Refuses ran.desks ran.works old.sink halted later after → HoldWhereHalted part past later halted
        ended_then halted ran pause runs r = halts_epoch past ran.desks ran.works later old.sink after (runs_hold answers part law lets plan past (worked old) pause ran runs h) halted r

        halts_one : (halted : Halted) → HaltsOne Runs plan Takes Refuses old halted later after → HoldWhereHalted part past later halted
        halts_one (Running node refused) r = refused_holds past (worked old) refused (record { desks = node; works = later }) r.0 h
        halts_one (Turning node stopped) r = runs_hold answers part law lets plan past (worked old) (Stopped stopped) (record { desks = node; works = later }) r.0 h
        halts_one (Gathering a) r = ended_then (Gathering a) r.0 r.1 r.2 r.3
        halts_one (Settling a) r = ended_then (Settling a) r.0 r.1 r.2 r.3
        halts_one (Reading a) r = ended_then (Reading a) r.0 r.1 r.2 r.3
        halts_one (Taking a) r = ended_then (Taking a) r.0 r.1 r.2 r.3
        halts_one (Resuming a) r = ended_then (Resuming a) r.0 r.1 r.2 r.3
        halts_one (Beginning a) r = ended_then (Beginning a) r.0 r.1 r.2 r.3

    pub halted_run_holds : (lets : Plan → LetsBegin (Crew B)) → HaltedRunHolds part Takes Refuses (λ plan. InTurns answers (lets plan) plan.budget)
    halted_run_holds lets past plan most old halted later after r h =
        halts_one (lets plan) plan (events (reverse r.before) ++ past) r.mid later after (each_holds answers part law Takes Refuses (lets plan) plan r.n past r.before old r.mid r.passed h) halted r.halts

  -- a run until nothing is left to do -----------------------------------------------------------------------

  module _ (lets : LetsBegin (Crew B)) where
    abbrev Turns : ℕ → ℕ → List (DeskState × Crew B) → List (DeskState × Crew B) → Type 0
    Turns = InTurns answers lets

    legs_hold : (past : Past) (budget : ℕ) (legs : List ℕ) (old new : Worked (Crew B)) → Legs (Turns budget) budget IsGoing legs old new → AllHold part past old.works old.desks → AllHold part past new.works new.desks
    legs_hold past budget legs old new ran h = record {
      uphold = legs_uphold answers lets budget (Keeps past part) (upheld past part answers law) IsGoing legs old new ran h.uphold;
      from = legs_past (Turns budget) budget IsGoing legs old new ran past h.from;
    }

    ends_hold : (past : Past) (budget most : ℕ) (Ends : Rested → Worked (Crew B) → Type 0) (old new : Worked (Crew B)) → EndsBy (Turns budget) budget IsGoing most old Ends new → AllHold part past old.works old.desks → AllHold part past new.works new.desks
    ends_hold past budget most Ends old new e h = record {
      uphold = ends_uphold answers lets budget (Keeps past part) (upheld past part answers law) IsGoing most Ends old new e h.uphold;
      from = ends_past (Turns budget) budget IsGoing most old Ends new e past h.from;
    }

    pub run_until_idle_holds : RunUntilIdleHolds part Turns
    run_until_idle_holds past budget most old new (Ok ended.Idle) r h = ends_hold past budget most _ old new r h
    run_until_idle_holds past budget most old new (Ok (ended.Stopped s)) r h = ends_hold past budget most _ old new r h
    run_until_idle_holds past budget most old new (Ok ended.Spent) r h = legs_hold past budget r.0 old new r.1 h
    run_until_idle_holds past budget most old new (Err fault.Works) r h = subst (λ (w : Worked (Crew B)). AllHold part past w.works w.desks) (sym r.1) h
    run_until_idle_holds past budget most old new (Err fault.Memory) (count, (legs, ran, some)) h = legs_hold past budget legs old new ran h
