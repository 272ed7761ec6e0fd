-- What the supervisors of schedulers uphold stays so over a pause.
use Rattle.std.proofs.Common.{◌≡◌, ℕ, ◌<◌, ◌==◌, Bool, true, false, cond, List, [], ◌∷◌, ◌++◌, length, get_or, Option, None, refl, sym, subst, ◌∙◌, arith}
use Rattle.pt_signal.specs.declared.pid.Pid.{Pid}
use Rattle.pt_signal.specs.declared.reason.Reason.{Reason}
use Rattle.pt_events.specs.declared.event.Event.{Event}
use Rattle.pt_events.specs.declared.event.Stamped.{Stamped}
use Rattle.pt_events.specs.History.{Past}
use Rattle.pt_events.specs.Journal.{events, of_desk}
use Rattle.pt_shard.specs.ShardState.{ShardState}
use Rattle.pt_desk.specs.DeskState.{DeskState}
use Rattle.pt_node.specs.Pasts.{GoOnFrom}
use Rattle.pt_crew.specs.Crews.{AreBorn, roles}
use Rattle.pt_behaviour.specs.Upholding.{AllFirst}
use Rattle.pt_crew.specs.Upholding.{AllStand}
use Rattle.pt_supervisor.specs.Keeping.{Keeps}
use Rattle.pt_scheduler.specs.declared.member.Member.{Member}
use Rattle.pt_scheduler.specs.declared.scheduler.Scheduler.{Scheduler}
use Rattle.pt_scheduler.specs.Exits.{HasExitsOf, exit_by, exit_in}
use Rattle.pt_scheduler.specs.Members.{boss_part, member_answers}
use Rattle.pt_scheduler.specs.Scheduling.{SchedulerAttends, SchedulerGoesOn, SchedulerUpholds}
use Rattle.pt_scheduler.proofs.Exits.{exit_before, none_before}
use Rattle.pt_pauses.specs.Pauses.{Pauses}
use Rattle.pt_scheduler_laws.specs.Schedulers.{SchedulersPause, SchedulerPausesHold}
use Rattle.pt_pauses.proofs.Pausing.{born_at, count_both, crew_from_at, goes_on, journal_at}

-- a history that has no exit of p has none in a part of it ----------------------------------------------

-- an event without an exit of p leaves it as it was before
by_none : (p : Pid) (e : Event) (before after : Option Reason) → exit_by p e before ≡ None → after ≡ None → exit_by p e after ≡ None
by_none p e before after none is = subst (λ (o : Option Reason). exit_by p e o ≡ None) (exit_before p e before none ∙ sym is) none

among_one : (p : Pid) (t : Bool) (s : Stamped) (merged mine : List Stamped) → exit_in p (s ∷ merged) ≡ None → exit_in p mine ≡ None → exit_in p (cond t (s ∷ mine) mine) ≡ None
among_one p true s merged mine none rest = by_none p s.event (exit_in p merged) (exit_in p mine) none rest
among_one p false s merged mine none rest = rest

none_among : (p : Pid) (d : ℕ) (merged : List Stamped) → exit_in p merged ≡ None → exit_in p (of_desk d merged) ≡ None
none_among p d [] none = refl
none_among p d (s ∷ merged) none =
    among_one p (s.desk == d) s merged (of_desk d merged) none (none_among p d merged (exit_before p s.event (exit_in p merged) none))

-- the schedulers over a pause ---------------------------------------------------------------------------------

module _ (past : Past) (merged : List Stamped) (desks new : List DeskState) (schedulers later : List Scheduler) (p : SchedulersPause merged desks schedulers new later) where
  -- the pause of the node, whatever crews go over it
  bare : Pauses {B = Member} merged desks [] new []
  bare = record {
    gathered = p.gathered;
    gathers = p.gathers;
    node = p.node;
    settled = p.settled;
    settles = p.settles;
    settled_node = p.settled_node;
    merge = p.merge;
    resumes = record { resumes = p.resumes; begins = record { count = refl; each = λ d c l. absurd (omega (arith, l)) } };
  }

  module _ (from : GoOnFrom past desks) (d : ℕ) (x : DeskState) (within : d < length desks) (old young : Scheduler) (on : SchedulerGoesOn merged old young)
      (attends : SchedulerAttends old (get_or desks d x).shard) (upholds : SchedulerUpholds past old (get_or desks d x).shard) where
    abbrev at : ShardState
    at = (get_or desks d x).shard

    stand : AllStand (Keeps past boss_part) (roles on.mid.crew) at
    stand = (on.kept past at upholds).members

    has_exits : HasExitsOf at.journal merged
    has_exits q none =
        let part = journal_at member_answers boss_part (λ time b f me item next now e births h. h.0) past merged desks new [] [] bare from d x within in
        none_before q part.0 at.journal (subst (λ (j : List Stamped). exit_in q j ≡ None) part.1 (none_among q d merged none))

    born : AreBorn (roles old.crew) (get_or new d x).shard
    born = born_at member_answers boss_part (λ time b f me item next now e births h. h.0) past merged desks new [] [] bare from d x within old.crew upholds.members

    pub attends_then : SchedulerAttends young (get_or new d x).shard
    attends_then = on.attends at (get_or new d x).shard attends has_exits born

    pub upholds_then : SchedulerUpholds (events merged ++ past) young (get_or new d x).shard
    upholds_then =
        crew_from_at member_answers boss_part (λ time b f me item next now e births h. h.0) past merged desks new [] [] bare from d x within on.mid.crew stand young.crew on.again
        (subst (AllFirst (Keeps past boss_part)) (sym on.rest.waiting) upholds.waiting)

pub scheduler_pauses_hold : SchedulerPausesHold
scheduler_pauses_hold past merged desks new schedulers later p h from =
    let both = count_both member_answers boss_part (λ time b f me item next now e births h. h.0) past merged desks new [] [] (bare past merged desks new schedulers later p) in (
      record {
        count = p.begins.count ∙ (h.count ∙ sym both);
        attends = λ d t x l.
            let within : d < length desks = omega (arith, l, both) in
            let inside : d < length schedulers = (let count = h.count in omega (arith, within, count)) in
            attends_then past merged desks new schedulers later p from d x within (get_or schedulers d t) (get_or later d t) (p.begins.each d t inside) (h.attends d t x within) (h.upholds d t x within);
        upholds = λ d t x l.
            let within : d < length desks = omega (arith, l, both) in
            let inside : d < length schedulers = (let count = h.count in omega (arith, within, count)) in
            upholds_then past merged desks new schedulers later p from d x within (get_or schedulers d t) (get_or later d t) (p.begins.each d t inside) (h.attends d t x within) (h.upholds d t x within);
      },
      goes_on member_answers boss_part (λ time b f me item next now e births h. h.0) past merged desks new [] [] (bare past merged desks new schedulers later p) from,
    )
