-- Schedulers whose supervisors spawn all their children stay so, and each child that is to live does.
use Rattle.std.proofs.Common.{◌≡◌, inl, inr, ℕ, ◌<◌, zero, suc, Bool, true, false, cond, List, [], ◌∷◌, ◌++◌, drop, length, map, get_or, Option, Some, None, Result, Ok, Err, refl, sym, ap, subst, ◌∙◌, arith}
use Rattle.std.specs.Prelude.{⊤, MatchBool}
use Rattle.std.specs.Option.{option_map}
use Rattle.std.proofs.Math.Seq.{drop-append_seam}
use Rattle.std.proofs.lemmas.List.{length-map}
use Rattle.pt_signal.specs.declared.pid.Pid.{Pid}
use Rattle.pt_signal.specs.declared.reason.Reason.{Reason}
use Rattle.pt_signal.specs.Values.{same_pid}
use Rattle.pt_events.specs.declared.event.Stamped.{Stamped}
use Rattle.pt_shard.specs.declared.fault.Fault.{Fault}
use Rattle.pt_shard.specs.declared.loss.Loss.{Loss}
use Rattle.pt_shard.specs.declared.loss.Loss.TheVariants.{Exited, Stray}
use Rattle.pt_shard.specs.ShardState.{ShardState, lives}
use Rattle.pt_behaviour.specs.declared.behaviour.Next.{Next}
use Rattle.pt_behaviour.specs.declared.behaviour.Next.TheVariants.{Proceed, Running}
use Rattle.pt_behaviour.specs.declared.births.Role.{Role}
use Rattle.pt_crew.specs.Crews.{Aboard, EntersAll, KeepsRest, left, queue, roles, waiting}
use Rattle.pt_crew.specs.Stepping.{EndsStep, EntersChild}
use Rattle.pt_crew.specs.Visiting.{AreSame, AreWith, Roles}
use Rattle.pt_children.specs.declared.child_fault.ChildFault.{ChildFault}
use Rattle.pt_children.specs.declared.children.Child.{Child}
use Rattle.pt_children.specs.declared.home.Home.TheVariants.{Elsewhere, Here}
use Rattle.pt_children.specs.declared.spec.ChildSpec.{ChildSpec}
use Rattle.pt_children.specs.declared.spec.SupervisorSpec.{SupervisorSpec}
use Rattle.pt_children.specs.Hearing.{Standing}
use Rattle.pt_children.specs.Homes.{AllHere}
use Rattle.pt_children.specs.Specifying.{child_as}
use Rattle.pt_children.proofs.Wanting.{same_child}
use Rattle.pt_supervisor.specs.declared.supervisor.Supervisor.{Supervisor}
use Rattle.pt_supervisor.specs.Hearing.{standing}
use Rattle.pt_supervisor.specs.Keeping.{AllStarted}
use Rattle.pt_supervisor.proofs.Bearing.{handles_bear}
use Rattle.pt_supervisor.proofs.Staying.{calls_leave_here, handles_here}
use Rattle.pt_scheduler.specs.declared.member.Job.{Job}
use Rattle.pt_scheduler.specs.declared.member.Member.{Member}
use Rattle.pt_scheduler.specs.declared.plan.Plan.{Plan}
use Rattle.pt_scheduler.specs.declared.scheduler.Scheduler.{Scheduler}
use Rattle.pt_scheduler.specs.Asking.{AddsOrNot, BossAnswersNotStarted, BossAnswersStarted, BossAsksProgram, BossDeletes, BossIsAsked, BossRestarts, BossStarts, BossTerminates}
use Rattle.pt_scheduler.specs.Members.{boss_part}
use Rattle.pt_scheduler.specs.Planning.{post_at, starts_post}
use Rattle.pt_scheduler.specs.Scheduling.{AreViewed, HandsOut, IsNewBoss, MemberView, NotesLoss, PullsAll, PullsFirst, RunsBoss, SchedulerGoesOn, SpawnsBoss, StaysPut, TellsExit, crew_of, member_view, member_views, new_member, view_kept}
use Rattle.pt_scheduler.specs.Exits.{exit_in}
use Rattle.pt_scheduler.proofs.Begins.{is_child_of}
use Rattle.pt_pauses.specs.Here.{AreHere, CrewHere, IsHere}
use Rattle.pt_pauses.specs.Still.{StillLaws}
use Rattle.pt_pauses.proofs.Staying.{enter_here, gathered_here_live, nobody_here, same_here, seen_with, unchanged_here}
use Rattle.pt_scheduler_laws.specs.Here.{AsksHere, ChildrenStayHere, EntryStaysHere, KeepsHere, NoneElsewhere, SchedulerHere, SchedulersHereLive, SchedulersStayHere, StepStaysHere}
use Rattle.pt_scheduler_laws.proofs.Quieting.{any_scheduler, crew_at, crews_idle, crews_uphold}

-- what is seen of a process -----------------------------------------------------------------------------

abbrev SeenHere : Option MemberView → Type 0
SeenHere None = ⊤
SeenHere (Some view) = IsHere (option_map standing view.boss)

see : (o : Option (Member × Next)) → ((role : Member × Next) → o ≡ Some role → IsHere (boss_part role.0)) → SeenHere (option_map member_view o)
see None h = tt
see (Some role) h = h role refl

sees : (t : Scheduler) → SchedulerHere t → (p : Pid) → SeenHere (member_views t p)
sees t h p = see (roles t.crew p) (h.members p)

-- each process is seen so, and each one that waits stands so
seen : (t : Scheduler) → ((p : Pid) → SeenHere (member_views t p)) → AreHere boss_part (waiting t.crew) → SchedulerHere t
seen t h waits = record {
  members = λ p role is. subst (λ (o : Option (Member × Next)). SeenHere (option_map member_view o)) is (h p);
  waiting = waits;
}

see_either : (t : Bool) (x y : Option MemberView) → SeenHere x → SeenHere y → SeenHere (cond t x y)
see_either true x y a b = a
see_either false x y a b = b

viewed : (p : Pid) (view : Option MemberView) (old new : Scheduler) → AreViewed p view old new → SeenHere view → SchedulerHere old → AreHere boss_part (waiting new.crew) → SchedulerHere new
viewed p view old new is here h waits =
    seen new (λ q. subst SeenHere (sym (is q)) (see_either (same_pid p q) view (member_views old q) here (sees old h q))) waits

waits_on : (old new : Scheduler) → waiting new.crew ≡ waiting old.crew → SchedulerHere old → AreHere boss_part (waiting new.crew)
waits_on old new same h = subst (AreHere boss_part) (sym same) h.waiting

-- whom a supervisor starts --------------------------------------------------------------------------------

-- none of them is a supervisor
born_here : (me : Pid) (rs : List (Role Member)) → AllStarted starts_post me rs → AreHere boss_part rs
born_here me [] a = tt
born_here me (r ∷ rs) a =
    let child = is_child_of me (post_at a.0.0 a.0.1) r.behaviour r.next a.0.3.1 in (
      subst (λ (b : Member). IsHere (boss_part b)) (sym child.1) tt,
      born_here me rs a.1,
    )

same_behind : {X : Type 0} (xs ys zs : List X) → xs ++ ys ≡ xs ++ zs → ys ≡ zs
same_behind xs ys zs is = sym (drop-append_seam xs ys) ∙ ap (drop (length xs)) is ∙ drop-append_seam xs zs

both_here : (xs ys : List (Role Member)) → AreHere boss_part xs → AreHere boss_part ys → AreHere boss_part (xs ++ ys)
both_here [] ys a b = b
both_here (r ∷ xs) ys a b = (a.0, both_here xs ys a.1 b)

front_here : (xs ys : List (Role Member)) → AreHere boss_part (xs ++ ys) → AreHere boss_part xs
front_here [] ys a = tt
front_here (r ∷ xs) ys a = (a.0, front_here xs ys a.1)

back_here : (xs ys : List (Role Member)) → AreHere boss_part (xs ++ ys) → AreHere boss_part ys
back_here [] ys a = a
back_here (r ∷ xs) ys a = back_here xs ys a.1

-- a step ------------------------------------------------------------------------------------------------------

hands_out : (p : Pid) (old new : Scheduler) (d e : ShardState) (job : Job) → HandsOut p old d job new e → waiting new.crew ≡ waiting old.crew → KeepsHere old new
hands_out p old new d e job o same h = viewed p (Some (record (o.view) { begun = true; next = Running })) old new o.now (subst SeenHere o.was (sees old h p)) h (waits_on old new same h)

tells_exit : (p : Pid) (old new : Scheduler) (d e : ShardState) (job : Job) → TellsExit p old d job new e → waiting new.crew ≡ waiting old.crew → KeepsHere old new
tells_exit p old new d e job o same h = viewed p None old new o.now tt h (waits_on old new same h)

runs_boss : (p : Pid) (rest : List Pid) (old new : Scheduler) (d e : ShardState) → RunsBoss p rest old d new e → KeepsHere old new
runs_boss p rest old new d e o h = viewed p (Some (record (o.view) { next = o.next; boss = Some o.later })) old new o.now (handles_here starts_post p _ o.item _ o.next _ o.handles.handles before) h
    (subst (AreHere boss_part) (sym o.born) (both_here (waiting old.crew) o.births h.waiting births))
  where
    before : AllHere (standing o.boss).children
    before = subst (λ (b : Option (Supervisor Plan)). IsHere (option_map standing b)) o.inside (subst SeenHere o.was (sees old h p))

    births : AreHere boss_part o.births
    births =
        let bore = handles_bear starts_post p _ o.item _ o.next _ o.handles.handles in
        subst (AreHere boss_part) (sym (same_behind o.handles.waited o.births bore.0 bore.1)) (born_here p bore.0 bore.2)

stays_put : (p : Pid) (rest : List Pid) (old new : Scheduler) (d e : ShardState) → StaysPut p rest old d new e → KeepsHere old new
stays_put p rest old new d e o h = seen new (λ q. subst SeenHere (sym (o.views q)) (sees old h q)) (waits_on old new o.waits h)

pulls_first : (queue : List Pid) (old new : Scheduler) (d e : ShardState) (job : Option Job) → PullsFirst queue old d job new e → KeepsHere old new
pulls_first [] old new d e job o h = subst SchedulerHere (sym o.1) h
pulls_first (p ∷ rest) old new d e (Some job) (inl o, r, kept) h = hands_out p old new d e job o kept.0 h
pulls_first (p ∷ rest) old new d e (Some job) (inr o, r, kept) h = tells_exit p old new d e job o kept.0 h
pulls_first (p ∷ rest) old new d e None (inl o) h = runs_boss p rest old new d e o h
pulls_first (p ∷ rest) old new d e None (inr o) h = stays_put p rest old new d e o h

pulls_all : (pulled : List (Option Job)) (old new : Scheduler) (d e : ShardState) → PullsAll pulled old d new e → KeepsHere old new
pulls_all [] old new d e o h = subst SchedulerHere (sym o.0) h
pulls_all (job ∷ pulled) old new d e (mid, f, first, rest) h = pulls_all pulled mid new f e rest (pulls_first (queue old.crew) old mid d f job first h)

abbrev AllOf : Roles Member → Type 0
AllOf roles = (q : Pid) (role : Member × Next) → roles q ≡ Some role → IsHere (boss_part role.0)

one_enters : (r : Role Member) (alive : Bool) (old new : Aboard Member) → MatchBool alive (AreWith r.pid (Some (r.behaviour, r.next)) old.0 new.0 × (new.1 ≡ old.1)) (AreSame old.0 new.0 × (new.1 ≡ old.1 ++ r ∷ []))
    → IsHere (boss_part r.behaviour) → AllOf old.0 → AllOf new.0
one_enters r true old new o here h = seen_with boss_part r.pid (Some (r.behaviour, r.next)) old.0 new.0 o.0 here h
one_enters r false old new o here h = λ q role is. h q role (sym (o.0 q) ∙ is)

all_enter : (alive : Pid → Bool) (entered : List (Role Member)) (old new : Aboard Member) → EntersAll alive entered old new → AreHere boss_part entered → AllOf old.0 → AllOf new.0
all_enter alive [] old new o here h = subst (λ (x : Aboard Member). AllOf x.0) (sym o) h
all_enter alive (r ∷ rs) old new (mid, first, rest) here h = all_enter alive rs mid new rest here.1 (one_enters r (alive r.pid) old mid first here.0 h)

ends_step : (old new : Scheduler) (d : ShardState) → EndsStep old.crew d new.crew → KeepsHere old new
ends_step old new d o h =
    let all = subst (AreHere boss_part) o.born h.waiting in
    record {
      members = all_enter (lives d) o.entered (roles old.crew, left old.crew) (roles new.crew, left new.crew) o.enters (front_here o.entered (waiting new.crew) all) h.members;
      waiting = back_here o.entered (waiting new.crew) all;
    }

abbrev lost_view : Reason → MemberView → MemberView
lost_view r v = record v { lost = Some r }

lost_seen : (r : Reason) (o : Option MemberView) → SeenHere o → SeenHere (option_map (lost_view r) o)
lost_seen r None s = tt
lost_seen r (Some v) s = s

notes_loss : (loss : Loss) (old new : Scheduler) → NotesLoss loss old new → KeepsHere old new
notes_loss (Exited p r items) old new o h =
    seen new
    (λ q. subst SeenHere (sym (o.views q)) (see_either (same_pid p q) (option_map (lost_view r) (member_views old q)) (member_views old q) (lost_seen r (member_views old q) (sees old h q)) (sees old h q)))
    (waits_on old new o.rest.waiting h)
notes_loss (Stray p item) old new o h = subst SchedulerHere (sym o) h

kept_seen : (ended : Option Reason) (o : Option MemberView) → SeenHere o → SeenHere (option_map (view_kept ended) o)
kept_seen ended None s = tt
kept_seen ended (Some v) s = s

goes_on : (past : List Stamped) (old new : Scheduler) → SchedulerGoesOn past old new → KeepsHere old new
goes_on past old new o h = seen new (λ q. subst SeenHere (sym (o.views q)) (kept_seen (exit_in q past) (member_views old q) (sees old h q))) (waits_on old new o.rest.waiting h)

pub step_stays_here : StepStaysHere
step_stays_here = record {
  begin_step = λ old new d o h. same_here boss_part old.crew new.crew o.roles o.waiting h;
  pull = λ old new d e job o h. pulls_first (queue old.crew) old new d e job o h;
  fill = λ jobs later old new d e count o h. pulls_all o.pulled old new d e o.pulls h;
  end_step = ends_step;
  answer = λ p next old new o h. record {
    members = seen_with boss_part p (Some (o.behaviour, next)) (roles old.crew) (roles new.crew) o.does (h.members p (o.behaviour, Running) o.ran) h.members;
    waiting = waits_on old new o.rest.waiting h;
  };
  note_loss = notes_loss;
  refused = λ old new o h. unchanged_here boss_part old.crew new.crew o h;
  others = λ old new same waits h. same_here boss_part old.crew new.crew same waits h;
  go_on = goes_on;
}

-- who comes in --------------------------------------------------------------------------------------------------

specs_here : (children : List ChildSpec) → NoneElsewhere children → AllHere (map child_as children)
specs_here [] none place c is = absurd (let bad : None ≡ Some c = is in cc)
specs_here (s ∷ specs) none zero c is =
    sym (ap (λ (x : Child). x.home) (same_child (child_as s) c is)) ∙ ap (λ (b : Bool). cond b Elsewhere Here) (none zero s refl)
specs_here (s ∷ specs) none (suc place) c is = specs_here specs (λ i x at. none (suc i) x at) place c is

new_here : (spec : SupervisorSpec) (children : List ChildSpec) (boss : Supervisor Plan) → IsNewBoss spec children boss → NoneElsewhere children → AllHere (standing boss).children
new_here spec children boss is none = subst (λ (s : Standing). AllHere s.children) (sym is.stands) (specs_here children none)

entered : (b : Member) (first : Next) (p : Pid) (old new : Scheduler) → AreWith p (Some (b, first)) (roles old.crew) (roles new.crew) → KeepsRest old.crew new.crew → IsHere (boss_part b) → KeepsHere old new
entered b first p old new with_is rest here h = record {
  members = seen_with boss_part p (Some (b, first)) (roles old.crew) (roles new.crew) with_is here h.members;
  waiting = waits_on old new rest.waiting h;
}

child_enters : (parent : Pid) (linked : Bool) (tag : ℕ) (first : Next) (old new : Scheduler) (d e : ShardState) (result : Result Pid Fault) → EntersChild parent linked (new_member tag None) first old.crew d result new.crew e → KeepsHere old new
child_enters parent linked tag first old new d e (Ok p) o h = entered (new_member tag None) first p old new o.1 o.4 tt h
child_enters parent linked tag first old new d e (Err f) o h = unchanged_here boss_part old.crew new.crew o.1 h

boss_spawned : (tag : ℕ) (spec : SupervisorSpec) (children : List ChildSpec) (old new : Scheduler) (d e : ShardState) (result : Result Pid Fault) → NoneElsewhere children → SpawnsBoss tag spec children old.crew d result new.crew e → KeepsHere old new
boss_spawned tag spec children old new d e (Ok p) none (boss, is_new, enters) h =
    enter_here boss_part (new_member tag (Some boss)) Proceed old.crew new.crew d e (Ok p) enters (new_here spec children boss is_new none) h
boss_spawned tag spec children old new d e (Err f) none o h = unchanged_here boss_part old.crew new.crew o.1 h

pub entry_stays_here : EntryStaysHere
entry_stays_here = record {
  nobody = λ t none bare. nobody_here boss_part t.crew none bare;
  spawn = λ tag first old new d e result o h. enter_here boss_part (new_member tag None) first old.crew new.crew d e result o tt h;
  spawn_child = child_enters;
  spawn_supervisor = boss_spawned;
  supervise = λ p spec children old new none o h.
      entered (record (o.behaviour) { boss = Some o.boss }) Proceed p old new o.does o.rest (new_here spec children o.boss o.is_new none) h;
}

-- what a supervisor is asked ---------------------------------------------------------------------------------------

abbrev Leaves : (Supervisor Plan → Supervisor Plan → Type 0) → Type 0
Leaves asks = (was is : Supervisor Plan) → asks was is → AllHere (standing was).children → AllHere (standing is).children

boss_asked : (p : Pid) (asks : Supervisor Plan → Supervisor Plan → Type 0) (next : Next → Supervisor Plan → Next) (old new : Scheduler) → BossIsAsked p asks next old new → Leaves asks → KeepsHere old new
boss_asked p asks next old new o leaves h = entered (record (o.behaviour) { boss = Some o.later }) (next o.before o.later) p old new o.now o.rest (leaves o.boss o.later o.does before) h
  where
    before : AllHere (standing o.boss).children
    before = subst (λ (b : Option (Supervisor Plan)). IsHere (option_map standing b)) o.inside (h.members p (o.behaviour, o.before) o.was)

asks_here : {A : Type 0} (asks : Result A ChildFault → Supervisor Plan → Supervisor Plan → Type 0) → ((r : Result A ChildFault) → Leaves (asks r)) → AsksHere asks
asks_here asks leaves p None old new o h = subst SchedulerHere (sym o.1) h
asks_here asks leaves p (Some (Ok a)) old new o h = boss_asked p (asks (Ok a)) _ old new o (leaves (Ok a)) h
asks_here asks leaves p (Some (Err f)) old new o h = boss_asked p (asks (Err f)) _ old new o.0 (leaves (Err f)) h

adds_here : (child : ChildSpec) → child.elsewhere ≡ false → (r : Result ℕ ChildFault) (was is : Supervisor Plan) → AddsOrNot child (standing was) r (standing is) → AllHere (standing was).children → AllHere (standing is).children
adds_here child near r was is (inl o) h = calls_leave_here.add (child_as child) (ap (λ (b : Bool). cond b Elsewhere Here) near) (standing was) r (standing is) o h
adds_here child near r was is (inr o) h = subst (λ (s : Standing). AllHere s.children) (sym o.1) h

pub children_stay_here : ChildrenStayHere
children_stay_here = record {
  start_child = λ child near. asks_here (λ r old new. BossStarts child old r new) (λ r was is o h. adds_here child near r was is o.0 h);
  terminate_child = λ id. asks_here (λ r old new. BossTerminates id old r new) (λ r was is o h. calls_leave_here.terminate id (standing was) r (standing is) o.0 h);
  restart_child = λ id. asks_here (λ r old new. BossRestarts id old r new) (λ r was is o h. calls_leave_here.restart id (standing was) r (standing is) o.0 h);
  delete_child = λ id. asks_here (λ r old new. BossDeletes id old r new) (λ r was is o h. calls_leave_here.delete id (standing was) r (standing is) o.0 h);
  child_to_start = asks_here (λ r old new. BossAsksProgram old r new) (λ r was is o h. calls_leave_here.ask (standing was) r (standing is) o.0 h);
  child_started = λ id child. asks_here (λ r old new. BossAnswersStarted id child old r new) (λ r was is o h. calls_leave_here.started id child (standing was) r (standing is) o.0 h);
  child_not_started = λ id fault. asks_here (λ r old new. BossAnswersNotStarted id fault old r new) (λ r was is o h. calls_leave_here.not_started id fault (standing was) r (standing is) o.0 h);
}

-- all schedulers of a node ------------------------------------------------------------------------------------------

pub schedulers_stay_here : SchedulersStayHere
schedulers_stay_here merged schedulers later o h d t l =
    let count = o.count in
    let within : d < length schedulers = omega (arith, l, count) in
    goes_on merged (get_or schedulers d t) (get_or later d t) (o.each d t within) (h d t within)

pub schedulers_here_live : StillLaws → SchedulersHereLive
schedulers_here_live laws past schedulers desks g u idle shards node still here =
    gathered_here_live boss_part laws past (map crew_of schedulers) desks g (crews_uphold past schedulers desks u) (crews_idle past schedulers desks u idle) shards node still
    (λ d c l.
    let count = u.count in
    let all = length-map schedulers crew_of in
    let within : d < length desks = omega (arith, l, count, all) in
    let t = any_scheduler past schedulers desks u d within in
    subst (CrewHere boss_part) (sym (crew_at past schedulers desks u d c t within)) (here d t (omega (arith, l, all))))
