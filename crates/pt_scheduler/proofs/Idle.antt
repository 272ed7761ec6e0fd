-- Where nobody has anything to do, no exit was noted that was not told. And a scheduler begins again.
use Rattle.std.proofs.Common.{◌≡◌, true, false, [], Option, Some, None, refl, sym, ap, ◌∙◌, append-nil, Result, Ok, Err}
use Rattle.std.specs.Prelude.{OnOk}
use Rattle.std.specs.Option.{option_map}
use Rattle.pt_signal.specs.declared.item.Pick.{Pick}
use Rattle.pt_signal.specs.declared.reason.Reason.{Reason}
use Rattle.pt_events.specs.History.{Phase, unborn, living, ended, is_ended}
use Rattle.pt_events.specs.Journal.{IsLocal}
use Rattle.pt_shard.specs.ShardState.{ShardState, phase_of}
use Rattle.pt_workers.specs.Waking.{need_not_wait}
use Rattle.pt_behaviour.specs.declared.behaviour.Next.{Next}
use Rattle.pt_behaviour.specs.declared.behaviour.Next.TheVariants.{Wait, WaitUntil, Proceed, Running, Stop}
use Rattle.pt_crew.specs.declared.crew.Member.{Member as InCrew}
use Rattle.pt_crew.specs.Visiting.{AreSame}
use Rattle.pt_crew.specs.Crews.{AreBorn, Attends, KeepsRest, members, queue, role, roles, waiting}
use Rattle.pt_crew.specs.Waking.{IsAwake, has_work, in_queue}
use Rattle.pt_scheduler.specs.declared.member.Member.{Member}
use Rattle.pt_scheduler.specs.declared.scheduler.Scheduler.{Scheduler}
use Rattle.pt_scheduler.specs.Exits.{exit_in}
use Rattle.pt_scheduler.specs.Scheduling.{SchedulerAttends, NoneNoted}
use Rattle.pt_scheduler.proofs.Exits.{exit_ended, none_before}
use Rattle.pt_scheduler.proofs.Noting.{fresh_is}

-- who has exited has something to do: it leaves
picks_ended : (k : Pick) (f : Phase) → is_ended f ≡ true → need_not_wait k f ≡ true
picks_ended k unborn h = absurd (cc)
picks_ended k (living s) h = absurd (cc)
picks_ended k (ended r s) h = refl

needs : (n : Next) (f : Phase) → is_ended f ≡ true → has_work n f ≡ true
needs (Wait k) f h = picks_ended k f h
needs (WaitUntil k at) f h = picks_ended k f h
needs Proceed f h = refl
needs Running f h = h
needs (Stop r) f h = refl

its_place : (o : Option (InCrew Member)) (b : Member) (n : Next) → option_map role o ≡ Some (b, n) → (m : InCrew Member) × (o ≡ Some m)
its_place None b n h = absurd (cc)
its_place (Some m) b n h = (m, refl)

pub none_noted : (h : Scheduler) (d : ShardState) → SchedulerAttends h d → IsLocal d.start d.config.start d.config.top_version d.number d.journal → queue h.crew ≡ [] → IsAwake (members h.crew) (queue h.crew) d → NoneNoted h
none_noted h d a local bare awake p b n is = noted (exit_in p a.noted.seen) refl
  where
    queued : (r : Reason) → exit_in p d.journal ≡ Some r → ⊥
    queued r exits =
        let m = its_place (members h.crew p) b n is in
        let stands : in_queue p (queue h.crew) ≡ true = awake p m.0 m.1 (needs m.0.next (phase_of d p) (exit_ended d.start d.config.start d.config.top_version d.number p d.journal r local exits)) in
        let none : in_queue p (queue h.crew) ≡ false = ap (in_queue p) bare in
        absurd (cc)

    all : (r : Reason) (o : Option Reason) → exit_in p a.noted.seen ≡ Some r → exit_in p d.journal ≡ o → ⊥
    all r None seen whole = absurd (cc (sym seen ∙ none_before p a.noted.more a.noted.seen (ap (exit_in p) (sym a.noted.journal) ∙ whole)))
    all r (Some q) seen whole = queued q whole

    noted : (o : Option Reason) → exit_in p a.noted.seen ≡ o → b.notes.ended ≡ None
    noted None e = a.noted.ends p b n is ∙ e
    noted (Some r) e = absurd (all r (exit_in p d.journal) e refl)

-- it goes on over the desk of a node that was resumed, where no exit was noted
pub attends_again : (old new : Scheduler) (d e : ShardState) → SchedulerAttends old d → NoneNoted old → Attends new.crew e → AreSame (roles old.crew) (roles new.crew) → KeepsRest old.crew new.crew → new.read ≡ 0 → SchedulerAttends new e
attends_again old new d e a none crew same rest reads = record {
  crew = crew;
  fresh = fresh_is (waiting old.crew) (waiting new.crew) rest.waiting a.fresh;
  noted = record {
    more = e.journal;
    seen = [];
    journal = sym (append-nil e.journal);
    counted = sym reads;
    ends = λ p b n is. none p b n (sym (same p) ∙ is);
  };
}

pub again : {E : Type 0} (old new : Scheduler) (result : Result (Unit {0}) E) → OnOk result ((d e : ShardState) → Attends old.crew d → AreBorn (roles old.crew) e → Attends new.crew e) → OnOk result (new.read ≡ 0)
    → AreSame (roles old.crew) (roles new.crew) → KeepsRest old.crew new.crew
    → OnOk result ((d e : ShardState) → SchedulerAttends old d → NoneNoted old → AreBorn (roles old.crew) e → SchedulerAttends new e)
again old new (Ok x) crew reads same rest = λ d e a none born. attends_again old new d e a none (crew d e a.crew born) same rest reads
again old new (Err x) crew reads same rest = tt
