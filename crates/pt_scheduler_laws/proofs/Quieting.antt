-- The schedulers of a node that is still are crews of which no one has anything to do.
use Rattle.std.proofs.Common.{◌≡◌, ℕ, ◌<◌, List, [], ◌∷◌, length, map, get_or, sym, ap, subst, ◌∙◌, arith}
use Rattle.std.proofs.lemmas.List.{get_or-map, length-map}
use Rattle.pt_events.specs.History.{Past}
use Rattle.pt_desk.specs.DeskState.{DeskState}
use Rattle.pt_crew.specs.declared.crew.Crew.{Crew}
use Rattle.pt_crew.specs.Running.{AllUphold, AreIdle, UpholdsOn, is_idle}
use Rattle.pt_supervisor.specs.Keeping.{Keeps}
use Rattle.pt_scheduler.specs.declared.member.Member.{Member}
use Rattle.pt_scheduler.specs.declared.scheduler.Scheduler.{Scheduler}
use Rattle.pt_scheduler.specs.Members.{boss_part}
use Rattle.pt_scheduler.specs.Scheduling.{crew_of}
use Rattle.pt_scheduler_laws.specs.Quieting.{AllSchedulersUphold, AreSchedulersIdle}

first_scheduler : (ts : List Scheduler) → 0 < length ts → Scheduler
first_scheduler [] l = absurd (omega (arith, l))
first_scheduler (t ∷ ts) l = t

module _ (past : Past) (schedulers : List Scheduler) (desks : List DeskState) (u : AllSchedulersUphold past schedulers desks) where
  pub any_scheduler : (d : ℕ) → d < length desks → Scheduler
  any_scheduler d l = first_scheduler schedulers (let c = u.count in omega (arith, c, l))

  pub crew_at : (d : ℕ) (c : Crew Member) (t : Scheduler) → d < length desks → get_or (map crew_of schedulers) d c ≡ crew_of (get_or schedulers d t)
  crew_at d c t l = get_or-map crew_of schedulers d t c (let n = u.count in omega (arith, n, l))

  pub crews_uphold : AllUphold (Keeps past boss_part) (map crew_of schedulers) desks
  crews_uphold = record {
    count = length-map schedulers crew_of ∙ u.count;
    each = λ d c x l.
        let t = any_scheduler d l in
        subst (λ (k : Crew Member). UpholdsOn (Keeps past boss_part) k (get_or desks d x).shard) (sym (crew_at d c t l))
        (record { attends = (u.attends d t x l).crew; upholds = u.upholds d t x l });
  }

  pub crews_idle : AreSchedulersIdle schedulers desks → AreIdle (map crew_of schedulers) desks
  crews_idle idle = record {
    count = length-map schedulers crew_of ∙ u.count;
    each = λ d c x l. let t = any_scheduler d l in ap (λ (k : Crew Member). is_idle k (get_or desks d x).shard) (crew_at d c t l) ∙ idle d t x l;
  }
