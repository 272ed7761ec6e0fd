-- Crews whose supervisors spawn all their children stay so, and each child that is to live does.
use Rattle.std.proofs.Common.{◌≡◌, ℕ, ◌<◌, zero, suc, Bool, true, false, cond, List, [], ◌∷◌, ◌++◌, length, get_or, reverse, Option, Some, None, Result, Ok, Err, refl, sym, ap, subst, ◌∙◌, arith}
use Rattle.std.specs.Prelude.{⊤}
use Rattle.std.specs.Option.{option_map}
use Rattle.std.proofs.lemmas.List.{length-map}
use Rattle.pt_signal.specs.declared.pid.Pid.{Pid}
use Rattle.pt_signal.specs.Values.{same_pid}
use Rattle.pt_events.specs.declared.event.Stamped.{Stamped}
use Rattle.pt_events.specs.History.{Past}
use Rattle.pt_events.specs.Journal.{events}
use Rattle.pt_laws.specs.LinkLaws.{MergeLinksOver}
use Rattle.pt_laws.specs.LoadLaws.{EmptyIsQuiet}
use Rattle.pt_laws.specs.MonitorLaws.{QuietMonitorSince, QuietWatchOver}
use Rattle.pt_shard.specs.declared.fault.Fault.{Fault}
use Rattle.pt_shard.specs.ShardState.{ShardState}
use Rattle.pt_gathered.specs.Gathered.{GatheredState}
use Rattle.pt_gathered.specs.Quiet.{QuietState}
use Rattle.pt_gathered.specs.Settling.{NothingLeft}
use Rattle.pt_desk.specs.DeskState.{DeskState}
use Rattle.pt_workers.specs.Running.{BeginRelation}
use Rattle.pt_workers.specs.Stillness.{AreStill}
use Rattle.pt_workers.specs.declared.run_fault.RunFault.{RunFault}
use Rattle.pt_workers.specs.declared.run_fault.RunFault.TheVariants as fault
use Rattle.pt_workers.specs.declared.stillness.Rested.{Rested}
use Rattle.pt_node.specs.Gathering.{Gathers}
use Rattle.pt_node.proofs.Leftless.{still_gathered}
use Rattle.pt_behaviour.specs.declared.behaviour.Next.{Next}
use Rattle.pt_behaviour.specs.declared.births.Role.{Role}
use Rattle.pt_behaviour.specs.Behaving.{Answers}
use Rattle.pt_behaviour.specs.Upholding.{AllFirst, IsUpheld, Relation}
use Rattle.pt_crew.specs.declared.crew.Crew.{Crew}
use Rattle.pt_crew.specs.Crews.{Enters, IsSame, role as role_of, roles, waiting}
use Rattle.pt_crew.specs.Running.{AllUphold}
use Rattle.pt_crew.specs.Upholding.{Upholds}
use Rattle.pt_crew.specs.Visiting.{AreSame, AreWith, Roles}
use Rattle.pt_crew.proofs.Runs.{rounds_uphold, run_upholds}
use Rattle.pt_crew.proofs.Upholding.{step_upholds, work_upholds}
use Rattle.pt_supervisor.specs.Keeping.{Keeps, PartOf, SuperviseAs}
use Rattle.pt_supervisor.proofs.Staying.{here_awaits_nobody}
use Rattle.pt_supervisor.proofs.Tending.{upheld}
use Rattle.pt_epochs.specs.declared.epochs.Outcome.{Outcome}
use Rattle.pt_epochs.specs.declared.epochs.Outcome.TheVariants as outcome
use Rattle.pt_epochs.specs.declared.epochs.Pause.{Pause}
use Rattle.pt_epochs.specs.declared.epochs.Pause.TheVariants.{Idle, Stopped}
use Rattle.pt_epochs.specs.declared.epochs.Plan.{Plan}
use Rattle.pt_epochs.specs.declared.halted.Halted.{Halted}
use Rattle.pt_epochs.specs.declared.halted.Halted.TheVariants.{Running, Turning, Gathering, Settling, Reading, Taking, Resuming, Beginning}
use Rattle.pt_epochs.specs.declared.idle.Ended.TheVariants as ended
use Rattle.pt_epochs.specs.Driving.{LetsBegin}
use Rattle.pt_epochs.specs.Epochs.{CrewBegins, CrewMayBegin, EachCrew, EndsEpoch, GoesOnAs, HaltsBeginning, HaltsEpoch, HaltsHanding, HaltsResuming, HaltsSettling, HandsAs}
use Rattle.pt_epochs.specs.Idle.{EndsBy, InTurns, IsGoing, Legs, Worked}
use Rattle.pt_epochs.specs.Running.{EndsRun, EndsWithOne, GoesFurther, HaltsOne, Manned, PassEach, PassesOne, RunsToPause, worked}
use Rattle.pt_pauses.specs.Gathering.{AllChildrenLive}
use Rattle.pt_pauses.specs.Here.{AllHereLive, AnswersHere, AreHere, CrewHere, CrewsHere, CrewsStayHere, EpochsStayHere, GatheredHereLive, HeldHereLive, HereLive, IsHere, QuietHereLive, RunUntilIdleStaysHere, RunsStayHere, CrewStaysHere}
use Rattle.pt_pauses.specs.Pauses.{AllHold}
use Rattle.pt_pauses.specs.Still.{ChildrenLive, StillLaws}
use Rattle.pt_pauses.proofs.AllLive.{all_children_live, shard_of}
use Rattle.pt_pauses.proofs.Halting.{held_live}
use Rattle.pt_pauses.proofs.Passing.{each_holds, ends_uphold, idle_lives, legs_uphold, runs_hold, runs_uphold}
use Rattle.pt_pauses.proofs.Settling.{some_of}
use Rattle.pt_pauses.proofs.Still.{children_live}

-- a node that was still is settled as it was
idle_count : (desks : List DeskState) (gathered settled : GatheredState) → Gathers desks gathered → AreStill desks → (NothingLeft gathered → settled ≡ gathered) → length settled.shards ≡ length desks
idle_count desks gathered settled gathers still same =
    ap length (ap (λ (g : GatheredState). g.shards) (same (still_gathered desks gathered gathers still)) ∙ gathers.shards) ∙ length-map desks shard_of

-- a crew --------------------------------------------------------------------------------------------

module _ {B : Type 0} (part : PartOf B) where
  abbrev pub Seen : Option (B × Next) → Type 0
  Seen None = ⊤
  Seen (Some role) = IsHere (part role.0)

  pub seen_in : (o : Option (B × Next)) → ((role : B × Next) → o ≡ Some role → IsHere (part role.0)) → Seen o
  seen_in None h = tt
  seen_in (Some role) h = h role refl

  pub seen_either : (t : Bool) (x y : Option (B × Next)) → Seen x → Seen y → Seen (cond t x y)
  seen_either true x y a b = a
  seen_either false x y a b = b

  -- p has this role, or none, and all others stay
  pub seen_with : (p : Pid) (o : Option (B × Next)) (old new : Roles B) → AreWith p o old new → Seen o
      → ((q : Pid) (role : B × Next) → old q ≡ Some role → IsHere (part role.0)) → (q : Pid) (role : B × Next) → new q ≡ Some role → IsHere (part role.0)
  seen_with p o old new with_is here h q role is =
      subst Seen is (subst Seen (sym (with_is q)) (seen_either (same_pid p q) o (old q) here (seen_in (old q) (h q))))

  -- each role stays, and so do those who wait to enter
  pub same_here : (old new : Crew B) → AreSame (roles old) (roles new) → waiting new ≡ waiting old → CrewHere part old → CrewHere part new
  same_here old new same waits h = record {
    members = λ p role is. h.members p role (sym (same p) ∙ is);
    waiting = subst (AreHere part) (sym waits) h.waiting;
  }

  pub nobody_here : (c : Crew B) → ((p : Pid) → roles c p ≡ None) → waiting c ≡ [] → CrewHere part c
  nobody_here c none bare = record {
    members = λ p role is. subst Seen is (subst Seen (sym (none p)) tt);
    waiting = subst (AreHere part) (sym bare) tt;
  }

  pub unchanged_here : (old new : Crew B) → IsSame old new → CrewHere part old → CrewHere part new
  unchanged_here old new same = same_here old new (λ q. ap (option_map role_of) (same.members q)) same.rest.waiting

  pub enter_here : (b : B) (first : Next) (old new : Crew B) (d e : ShardState) (result : Result Pid Fault) → Enters b first old d result new e → IsHere (part b) → CrewHere part old → CrewHere part new
  enter_here b first old new d e (Ok p) enters here h = record {
    members = seen_with p (Some (b, first)) (roles old) (roles new) enters.1 here h.members;
    waiting = subst (AreHere part) (sym enters.3.waiting) h.waiting;
  }
  enter_here b first old new d e (Err f) enters here h = unchanged_here old new enters.1 h

  begin_here : (old new : Crew B) → CrewBegins old new → CrewHere part old → CrewHere part new
  begin_here old new b = same_here old new b.roles b.rest.waiting

  -- crews that begin again -------------------------------------------------------------------------

  kept_here : (crews later : List (Crew B)) → later ≡ crews → CrewsHere part crews → CrewsHere part later
  kept_here crews later is h = subst (CrewsHere part) (sym is) h

  begins_here : (crews later : List (Crew B)) → EachCrew CrewBegins crews later → CrewsHere part crews → CrewsHere part later
  begins_here crews later e h d c l =
      let count = e.count in
      let within : d < length crews = omega (arith, l, count) in
      begin_here (get_or crews d c) (get_or later d c) (e.each d c within) (h d c within)

  may_begin_here : (crews later : List (Crew B)) → EachCrew CrewMayBegin crews later → CrewsHere part crews → CrewsHere part later
  may_begin_here crews later e h d c l =
      let count = e.count in
      let within : d < length crews = omega (arith, l, count) in
      let one = e.each d c within in
      same_here (get_or crews d c) (get_or later d c) one.roles one.rest.waiting (h d c within)

  -- the end of an epoch, and where it halts -----------------------------------------------------------

  halts_beginning_here : (desks : List DeskState) (crews : List (Crew B)) (halted : Halted) (later : List (Crew B)) → HaltsBeginning desks crews halted later → CrewsHere part crews → CrewsHere part later
  halts_beginning_here desks crews (Beginning node) later r h = may_begin_here crews later r.2 h
  halts_beginning_here desks crews (Running a b) later r h = absurd r
  halts_beginning_here desks crews (Turning a b) later r h = absurd r
  halts_beginning_here desks crews (Gathering a) later r h = absurd r
  halts_beginning_here desks crews (Settling a) later r h = absurd r
  halts_beginning_here desks crews (Reading a) later r h = absurd r
  halts_beginning_here desks crews (Taking a) later r h = absurd r
  halts_beginning_here desks crews (Resuming a) later r h = absurd r

  halts_resuming_here : (q : QuietState) (crews : List (Crew B)) (halted : Halted) (later : List (Crew B)) → HaltsResuming q crews halted later → CrewsHere part crews → CrewsHere part later
  halts_resuming_here q crews (Resuming back) later r h = kept_here crews later r.1 h
  halts_resuming_here q crews (Beginning a) later r h = halts_beginning_here r.0 crews (Beginning a) later r.2 h
  halts_resuming_here q crews (Running a b) later r h = halts_beginning_here r.0 crews (Running a b) later r.2 h
  halts_resuming_here q crews (Turning a b) later r h = halts_beginning_here r.0 crews (Turning a b) later r.2 h
  halts_resuming_here q crews (Gathering a) later r h = halts_beginning_here r.0 crews (Gathering a) later r.2 h
  halts_resuming_here q crews (Settling a) later r h = halts_beginning_here r.0 crews (Settling a) later r.2 h
  halts_resuming_here q crews (Reading a) later r h = halts_beginning_here r.0 crews (Reading a) later r.2 h
  halts_resuming_here q crews (Taking a) later r h = halts_beginning_here r.0 crews (Taking a) later r.2 h

  module _ {S : Type 0} (Takes Refuses : S → List Stamped → S → Type 0) where
    halts_handing_here : (q : QuietState) (crews : List (Crew B)) (sink : S) (halted : Halted) (later : List (Crew B)) (after : S) → HaltsHanding Takes Refuses q crews sink halted later after → CrewsHere part crews → CrewsHere part later
    halts_handing_here q crews sink (Reading a) later after r h = kept_here crews later r.1 h
    halts_handing_here q crews sink (Taking a) later after r h = kept_here crews later r.1 h
    halts_handing_here q crews sink (Running a b) later after r h = halts_resuming_here q crews (Running a b) later r.3 h
    halts_handing_here q crews sink (Turning a b) later after r h = halts_resuming_here q crews (Turning a b) later r.3 h
    halts_handing_here q crews sink (Gathering a) later after r h = halts_resuming_here q crews (Gathering a) later r.3 h
    halts_handing_here q crews sink (Settling a) later after r h = halts_resuming_here q crews (Settling a) later r.3 h
    halts_handing_here q crews sink (Resuming a) later after r h = halts_resuming_here q crews (Resuming a) later r.3 h
    halts_handing_here q crews sink (Beginning a) later after r h = halts_resuming_here q crews (Beginning a) later r.3 h

    halts_settling_here : (g : GatheredState) (crews : List (Crew B)) (sink : S) (halted : Halted) (later : List (Crew B)) (after : S) → HaltsSettling Takes Refuses g crews sink halted later after → CrewsHere part crews → CrewsHere part later
    halts_settling_here g crews sink (Settling a) later after r h = kept_here crews later r.3 h
    halts_settling_here g crews sink (Running a b) later after r h = halts_handing_here r.0 crews sink (Running a b) later after r.5 h
    halts_settling_here g crews sink (Turning a b) later after r h = halts_handing_here r.0 crews sink (Turning a b) later after r.5 h
    halts_settling_here g crews sink (Gathering a) later after r h = halts_handing_here r.0 crews sink (Gathering a) later after r.5 h
    halts_settling_here g crews sink (Reading a) later after r h = halts_handing_here r.0 crews sink (Reading a) later after r.5 h
    halts_settling_here g crews sink (Taking a) later after r h = halts_handing_here r.0 crews sink (Taking a) later after r.5 h
    halts_settling_here g crews sink (Resuming a) later after r h = halts_handing_here r.0 crews sink (Resuming a) later after r.5 h
    halts_settling_here g crews sink (Beginning a) later after r h = halts_handing_here r.0 crews sink (Beginning a) later after r.5 h

    halts_here : (desks : List DeskState) (crews later : List (Crew B)) (halted : Halted) (sink after : S) → HaltsEpoch Takes Refuses desks crews sink halted later after → CrewsHere part crews → CrewsHere part later
    halts_here desks crews later (Gathering a) sink after r h = kept_here crews later r.1 h
    halts_here desks crews later (Running a b) sink after r h = halts_settling_here r.0 crews sink (Running a b) later after r.2 h
    halts_here desks crews later (Turning a b) sink after r h = halts_settling_here r.0 crews sink (Turning a b) later after r.2 h
    halts_here desks crews later (Settling a) sink after r h = halts_settling_here r.0 crews sink (Settling a) later after r.2 h
    halts_here desks crews later (Reading a) sink after r h = halts_settling_here r.0 crews sink (Reading a) later after r.2 h
    halts_here desks crews later (Taking a) sink after r h = halts_settling_here r.0 crews sink (Taking a) later after r.2 h
    halts_here desks crews later (Resuming a) sink after r h = halts_settling_here r.0 crews sink (Resuming a) later after r.2 h
    halts_here desks crews later (Beginning a) sink after r h = halts_settling_here r.0 crews sink (Beginning a) later after r.2 h

    ends_here : (history : List Stamped) (desks new : List DeskState) (crews later : List (Crew B)) (sink after : S) → EndsEpoch Takes Refuses history desks crews sink new later after → CrewsHere part crews → CrewsHere part later
    ends_here history desks new crews later sink after e h = begins_here crews later e.over.over.resumed.begins h

    hands_here : (q : QuietState) (crews later : List (Crew B)) (result : Result (List DeskState) Halted) (sink after : S) → HandsAs Takes Refuses q crews sink result later after → CrewsHere part crews → CrewsHere part later
    hands_here q crews later (Ok desks) sink after r h = begins_here crews later r.1.resumed.begins h
    hands_here q crews later (Err halted) sink after r h = halts_handing_here q crews sink halted later after r h

    goes_on_here : (halted : Halted) (crews later : List (Crew B)) (result : Result (List DeskState) Halted) (sink after : S) → GoesOnAs Takes Refuses halted crews sink result later after → CrewsHere part crews → CrewsHere part later
    goes_on_here (Running a b) crews later result sink after r h = kept_here crews later r.1 h
    goes_on_here (Turning a b) crews later result sink after r h = kept_here crews later r.1 h
    goes_on_here (Gathering back) crews later (Ok desks) sink after r h = ends_here r.0 back.node desks crews later sink after r.1 h
    goes_on_here (Gathering back) crews later (Err again) sink after r h = halts_here back.node crews later again sink after r h
    goes_on_here (Settling back) crews later (Ok desks) sink after r h = begins_here crews later r.1.over.resumed.begins h
    goes_on_here (Settling back) crews later (Err again) sink after r h = halts_settling_here back.gathered crews sink again later after r h
    goes_on_here (Reading q) crews later result sink after r h = hands_here q crews later result sink after r h
    goes_on_here (Taking q) crews later result sink after r h = hands_here q crews later result sink after r h
    goes_on_here (Resuming q) crews later (Ok desks) sink after r h = begins_here crews later r.0.begins h
    goes_on_here (Resuming q) crews later (Err again) sink after r h = halts_resuming_here q crews again later r.0 h
    goes_on_here (Beginning node) crews later (Ok desks) sink after r h = begins_here crews later r.0.1 h
    goes_on_here (Beginning node) crews later (Err again) sink after r h = halts_beginning_here node crews again later r.0 h

    pub epochs_stay_here : EpochsStayHere part Takes Refuses
    epochs_stay_here = record { ends = ends_here; halts = halts_here; goes_on = goes_on_here }

  -- what such crews are promised ------------------------------------------------------------------------

  pub here_live : (past : Past) (c : Crew B) (d : ShardState) (g : GatheredState) → CrewHere part c → ChildrenLive past part c d g → HereLive past part c d g
  here_live past c d g here live merged m p b next s is part_is alive home =
      live merged m p b next s is part_is alive home (here_awaits_nobody s.children (subst IsHere part_is (here.members p (b, next) is)))

  pub all_here_live : (past : Past) (crews : List (Crew B)) (g : GatheredState) → length crews ≡ length g.shards → CrewsHere part crews → AllChildrenLive past part crews g → AllHereLive past part crews g
  all_here_live past crews g count here live d c x l =
      here_live past (get_or crews d c) (get_or g.shards d x) g (here d c (omega (arith, l, count))) (live d c x l)

  module _ (laws : StillLaws) where
    pub quiet_here_live : QuietHereLive part
    quiet_here_live past c d g node still number at upholds idle here =
        here_live past c d g here (children_live part laws past c d g node still number at upholds idle)

    pub gathered_here_live : GatheredHereLive part
    gathered_here_live past crews desks g upholds idle shards node still here =
        all_here_live past crews g (upholds.count ∙ sym (ap length shards ∙ length-map desks shard_of)) here
        (all_children_live part laws past crews desks g upholds idle shards node still)

-- what their behaviours do ------------------------------------------------------------------------------

module _ {B : Type 0} (answers : Answers B) (part : PartOf B) (law : SuperviseAs answers part) (home : AnswersHere answers part) where
  abbrev stands : Relation B
  stands b next me d = IsHere (part b)

  all_first : (rs : List (Role B)) → AreHere part rs → AllFirst stands rs
  all_first [] h = tt
  all_first (r ∷ rs) h = (λ d. h.0, all_first rs h.1)

  of_first : (d : ShardState) (rs : List (Role B)) → AllFirst stands rs → AreHere part rs
  of_first d [] h = tt
  of_first d (r ∷ rs) h = (h.0 d, of_first d rs h.1)

  upheld_here : IsUpheld answers stands
  upheld_here = record {
    acts = (upheld [] part answers law).acts;
    hands = λ time b before p item was d next now e births h born taken a later. (home time b d p item next now e births a).0 h;
    bears = λ time b d p item next now e births a. all_first births (home time b d p item next now e births a).1;
    others = λ b next p d e h born later same. h;
    ends = λ b r p d h born. h;
    receives = λ b next p d l h born. h;
  }

  upholds_here : (past : Past) (c : Crew B) (d : ShardState) → Upholds (Keeps past part) c d → CrewHere part c → Upholds stands c d
  upholds_here past c d u h = record {
    members = λ p role is. ((u.members p role is).0, h.members p role is);
    waiting = all_first (waiting c) h.waiting;
  }

  here_upheld : (c : Crew B) (d : ShardState) → Upholds stands c d → CrewHere part c
  here_upheld c d u = record {
    members = λ p role is. (u.members p role is).1;
    waiting = of_first d (waiting c) u.waiting;
  }

  pub stays_here : CrewStaysHere answers part
  stays_here = record {
    nobody = nobody_here part;
    enter = enter_here part;
    step = λ past old new d e does u h. here_upheld new e (step_upholds answers stands upheld_here old new d e does (upholds_here past old d u h));
    work = λ past old new budget d e turned works u h.
        here_upheld new e.shard (work_upholds answers stands upheld_here old new budget d e turned works (upholds_here past old d.shard u h));
    begins = begin_here part;
  }

  -- a run of crews -------------------------------------------------------------------------------------

  all_upheld : (past : Past) (crews : List (Crew B)) (desks : List DeskState) → AllUphold (Keeps past part) crews desks → CrewsHere part crews → AllUphold stands crews desks
  all_upheld past crews desks u h = record {
    count = u.count;
    each = λ d c x l.
        let count = u.count in
        let on = u.each d c x l in
        record { attends = on.attends; upholds = upholds_here past (get_or crews d c) (get_or desks d x).shard on.upholds (h d c (omega (arith, l, count))) };
  }

  all_here : (crews : List (Crew B)) (desks : List DeskState) → AllUphold stands crews desks → CrewsHere part crews
  all_here crews desks u d c l =
      let count = u.count in
      let within : d < length desks = omega (arith, l, count) in
      let x = some_of desks d within in
      here_upheld (get_or crews d c) (get_or desks d x).shard (u.each d c x within).upholds

  pub crews_stay_here : (lets : BeginRelation (Crew B)) → CrewsStayHere answers part lets
  crews_stay_here lets = record {
    run = λ past turns budget old new crews later result r u h.
        all_here later new (run_upholds answers stands upheld_here lets turns budget old new crews later result r (all_upheld past crews old u h));
    rounds = λ past turns budget old new crews later result r u h.
        all_here later new (rounds_uphold answers stands upheld_here lets turns budget old new crews later result r (all_upheld past crews old u h));
    begin = begins_here part;
  }

  -- a run of epochs ---------------------------------------------------------------------------------------

  module _ (lets : LetsBegin (Crew B)) (plan : Plan) where
    abbrev Runs : ℕ → List (DeskState × Crew B) → List (DeskState × Crew B) → Type 0
    Runs = InTurns answers lets plan.budget

    pub runs_here : (past : Past) (old : Worked (Crew B)) (pause : Pause) (new : Worked (Crew B)) → RunsToPause Runs plan old (Ok pause) new → AllUphold (Keeps past part) old.works old.desks → CrewsHere part old.works → CrewsHere part new.works
    runs_here past old pause new r u h =
        all_here new.works new.desks (runs_uphold answers part law lets plan stands upheld_here old pause new r (all_upheld past old.works old.desks u h))

    refused_here : (past : Past) (old : Worked (Crew B)) (why : RunFault) (new : Worked (Crew B)) → RunsToPause Runs plan old (Err why) new → AllUphold (Keeps past part) old.works old.desks → CrewsHere part old.works → CrewsHere part new.works
    refused_here past old fault.Works new r u h = subst (λ (w : Worked (Crew B)). CrewsHere part w.works) (sym r.1) h
    refused_here past old fault.Memory new (count, (legs, ran, some)) u h =
        all_here new.works new.desks (legs_uphold answers lets plan.budget stands upheld_here (GoesFurther plan.events) legs old new ran (all_upheld past old.works old.desks u h))

    module _ {S : Type 0} (Takes Refuses : S → List Stamped → S → Type 0) where
      one_here : (past : Past) (pause : Pause) (history : List Stamped) (old new : Manned B S) → PassesOne Runs plan Takes Refuses pause history old new → AllHold part past old.crews old.desks → CrewsHere part old.crews → CrewsHere part new.crews
      one_here past pause history old new p a h =
          ends_here part Takes Refuses history p.ran.desks new.desks p.ran.works new.crews old.sink new.sink p.ends (runs_here past (worked old) pause p.ran p.runs a.uphold h)

      each_here : (n : ℕ) (past : Past) (all : List Stamped) (old new : Manned B S) → PassEach Runs plan Takes Refuses n all old new → AllHold part past old.crews old.desks → CrewsHere part old.crews → CrewsHere part new.crews
      each_here zero past all old new r a h = subst (λ (m : Manned B S). CrewsHere part m.crews) (sym r.1) h
      each_here (suc n) past all old new (before, history, mid, pause, is, passed, one, goes) a h =
          one_here (events (reverse before) ++ past) pause history mid new one (each_holds answers part law Takes Refuses lets plan n past before old mid passed a)
          (each_here n past before old mid passed a h)

      last_here : (past : Past) (n : ℕ) (why : Outcome) (all : List Stamped) (old new : Manned B S) → EndsWithOne Runs plan Takes Refuses n why all old new → AllHold part past old.crews old.desks → CrewsHere part old.crews → CrewsHere part new.crews
      last_here past n why all old new e a h =
          one_here (events (reverse e.before) ++ past) e.pause e.history e.mid new e.last (each_holds answers part law Takes Refuses lets plan n past e.before old e.mid e.passed a)
          (each_here n past e.before old e.mid e.passed a h)

      run_here : (past : Past) (most : ℕ) (why : Outcome) (all : List Stamped) (old new : Manned B S) → EndsRun Runs plan Takes Refuses most why all old new → AllHold part past old.crews old.desks → CrewsHere part old.crews → CrewsHere part new.crews
      run_here past most outcome.Counted all old new r a h = each_here most past all old new r a h
      run_here past most outcome.Idle all old new r a h = last_here past r.0 outcome.Idle all old new r.2 a h
      run_here past most outcome.Told all old new r a h = last_here past r.0 outcome.Told all old new r.2 a h

      -- where it halts
      module _ (past : Past) (old : Manned B S) (later : List (Crew B)) (after : S) (a : AllHold part past old.crews old.desks) (h : CrewsHere part old.crews) where
        ended_here : (halted : Halted) (ran : Worked (Crew B)) (pause : Pause) → RunsToPause Runs plan (worked old) (Ok pause) ran → HaltsEpoch Takes Refuses ran.desks ran.works old.sink halted later after → CrewsHere part later
        ended_here halted ran pause runs r = halts_here part Takes Refuses ran.desks ran.works later halted old.sink after r (runs_here past (worked old) pause ran runs a.uphold h)

        halts_one_here : (halted : Halted) → HaltsOne Runs plan Takes Refuses old halted later after → CrewsHere part later
        halts_one_here (Running node refused) r = refused_here past (worked old) refused (record { desks = node; works = later }) r.0 a.uphold h
        halts_one_here (Turning node stopped) r = runs_here past (worked old) (Stopped stopped) (record { desks = node; works = later }) r.0 a.uphold h
        halts_one_here (Gathering x) r = ended_here (Gathering x) r.0 r.1 r.2 r.3
        halts_one_here (Settling x) r = ended_here (Settling x) r.0 r.1 r.2 r.3
        halts_one_here (Reading x) r = ended_here (Reading x) r.0 r.1 r.2 r.3
        halts_one_here (Taking x) r = ended_here (Taking x) r.0 r.1 r.2 r.3
        halts_one_here (Resuming x) r = ended_here (Resuming x) r.0 r.1 r.2 r.3
        halts_one_here (Beginning x) r = ended_here (Beginning x) r.0 r.1 r.2 r.3

      -- where it ends since nothing is left to do
      module _ (laws : StillLaws) (empty : EmptyIsQuiet) (links : MergeLinksOver) (monitors : QuietMonitorSince) (watches : QuietWatchOver) where
        pub idle_here_live : (past : Past) (history : List Stamped) (old new : Manned B S) (passes : PassesOne Runs plan Takes Refuses Idle history old new) → AllHold part past old.crews old.desks → CrewsHere part old.crews
            → AllHereLive past part passes.ran.works passes.ends.over.settled
        idle_here_live past history old new passes a h =
            let held = runs_hold answers part law lets plan past (worked old) Idle passes.ran passes.runs a in
            all_here_live part past passes.ran.works passes.ends.over.settled (held.uphold.count ∙ sym (idle_count passes.ran.desks passes.ends.gathered passes.ends.over.settled passes.ends.gathers passes.still passes.ends.over.same))
            (runs_here past (worked old) Idle passes.ran passes.runs a.uphold h)
            (idle_lives answers part law Takes Refuses lets plan laws empty links monitors watches past history old new passes a)

  module _ {S : Type 0} (Takes Refuses : S → List Stamped → S → Type 0) (lets : Plan → LetsBegin (Crew B)) where
    pub runs_stay_here : RunsStayHere part Takes Refuses (λ plan. InTurns answers (lets plan) plan.budget)
    runs_stay_here = record {
      passes = λ past plan most why old new p a h. run_here (lets plan) plan Takes Refuses past most why p.all old new p.passes a h;
      halts = λ past plan most old halted later after r a h.
          halts_one_here (lets plan) plan Takes Refuses (events (reverse r.before) ++ past) r.mid later after
          (each_holds answers part law Takes Refuses (lets plan) plan r.n past r.before old r.mid r.passed a)
          (each_here (lets plan) plan Takes Refuses r.n past r.before old r.mid r.passed a h) halted r.halts;
    }

  -- a run until nothing is left to do --------------------------------------------------------------------------

  module _ (lets : LetsBegin (Crew B)) where
    abbrev Turns : ℕ → ℕ → List (DeskState × Crew B) → List (DeskState × Crew B) → Type 0
    Turns = InTurns answers lets

    legs_here : (past : Past) (budget : ℕ) (legs : List ℕ) (old new : Worked (Crew B)) → Legs (Turns budget) budget IsGoing legs old new → AllHold part past old.works old.desks → CrewsHere part old.works → CrewsHere part new.works
    legs_here past budget legs old new ran a h =
        all_here new.works new.desks (legs_uphold answers lets budget stands upheld_here IsGoing legs old new ran (all_upheld past old.works old.desks a.uphold h))

    legs_end_here : (past : Past) (budget most : ℕ) (Ends : Rested → Worked (Crew B) → Type 0) (old new : Worked (Crew B)) → EndsBy (Turns budget) budget IsGoing most old Ends new → AllHold part past old.works old.desks → CrewsHere part old.works → CrewsHere part new.works
    legs_end_here past budget most Ends old new e a h =
        all_here new.works new.desks (ends_uphold answers lets budget stands upheld_here IsGoing most Ends old new e (all_upheld past old.works old.desks a.uphold h))

    pub until_idle_stays_here : RunUntilIdleStaysHere part Turns
    until_idle_stays_here past budget most old new (Ok ended.Idle) r a h = legs_end_here past budget most _ old new r a h
    until_idle_stays_here past budget most old new (Ok (ended.Stopped s)) r a h = legs_end_here past budget most _ old new r a h
    until_idle_stays_here past budget most old new (Ok ended.Spent) r a h = legs_here past budget r.0 old new r.1 a h
    until_idle_stays_here past budget most old new (Err fault.Works) r a h = subst (λ (w : Worked (Crew B)). CrewsHere part w.works) (sym r.1) h
    until_idle_stays_here past budget most old new (Err fault.Memory) (count, (legs, ran, some)) a h = legs_here past budget legs old new ran a h

-- where a run of epochs halted ---------------------------------------------------------------------------

module _ {B : Type 0} (answers : Answers B) (part : PartOf B) (law : SuperviseAs answers part) (laws : StillLaws) (empty : EmptyIsQuiet) (links : MergeLinksOver) (monitors : QuietMonitorSince) (watches : QuietWatchOver) where
  pub held_here_live : HeldHereLive part
  held_here_live past crews g nothing idle a here =
      all_here_live part past crews g a.count here (held_live answers part law laws empty links monitors watches past crews g nothing idle a)
