-- `TeammateBehaviour::handle`: its clause `answers`.
use Rattle.std.proofs.Common.{◌≡◌, ℕ, List, [], ◌∷◌, Option, Some, None, Ok, refl, sym, ap, subst, ◌∙◌}
use Rattle.std.specs.Option.{option_map}
use Rattle.std.proofs.Math.Seq.{drop-append_seam}
use Rattle.pt_signal.specs.declared.pid.Pid.{Pid}
use Rattle.pt_behaviour.specs.declared.behaviour.Next.{Next}
use Rattle.pt_behaviour.specs.declared.births.Role.{Role}
use Rattle.pt_behaviour.specs.Births.{bore, born}
use Rattle.pt_supervisor.specs.declared.supervisor.Supervisor.{Supervisor}
use Rattle.pt_supervisor.specs.Hearing.{standing}
use Rattle.pt_supervisor.specs.Supervising.{StartsOf}
use Rattle.pt_supervisor.specs.Keeping.{ActsAs, AllStarted, SupervisorBegins}
use Rattle.pt_supervisor.proofs.Bearing.{bore_begin}
use Rattle.pt_pauses.specs.Here.{AreHere, IsHere}
use Rattle.example_scenes.specs.declared.team.Workers.{Workers}
use Rattle.example_scenes.specs.declared.team.Teammate.{Teammate}
use Rattle.example_scenes.specs.Team.{boss_of}
use Rattle.example_scenes.proofs.team.TeammateBehaviour.handle.Goals as goal

abbrev starts : StartsOf Workers Teammate
starts old boss place result new = (b : Teammate) (first : Next) → result ≡ Ok (b, first) → b.boss ≡ None

-- a worker is no supervisor
is_worker : (b : Teammate) (first : Next) → b.boss ≡ None → SupervisorBegins (boss_of b) first
is_worker b first none = subst (λ (o : Option (Supervisor Workers)). SupervisorBegins (option_map standing o) first) (sym none) tt

workers_here : (me : Pid) (rs : List (Role Teammate)) → AllStarted starts me rs → AreHere boss_of rs
workers_here me [] a = tt
workers_here me (r ∷ rs) a = (subst (λ (o : Option (Supervisor Workers)). IsHere (option_map standing o)) (sym (a.0.3 r.behaviour r.next refl)) tt, workers_here me rs a.1)

pub returns-in-Some-clause-answers : goal.returns-in-Some-clause-answers
returns-in-Some-clause-answers c = (
  (
    subst (λ (o : Option (Supervisor Workers)). ActsAs (option_map standing o) c.args.me c.args.item c.args.desk.now.shard c.handle.result (Some (standing c.handle.new.self)) c.handle.new.desk.shard)
        (sym c.in-Some.is) (standing c.handle.new.self, refl, c.handle.ensures.tends),
    bore_begin starts c.args.me boss_of (λ (was : Workers) (place : ℕ) (b : Teammate) (first : Next) (later : Workers) (s : starts was c.args.me place (Ok (b, first)) later). is_worker b first (s b first refl)) (born c.args.births.now) (born c.handle.new.births) c.handle.ensures.bears,
  ),
  λ here. c.children_stay_here.ensures.items c.args.me _ c.args.item _ c.handle.result _ c.handle.ensures.does
      (subst (λ (o : Option (Supervisor Workers)). IsHere (option_map standing o)) c.in-Some.is here),
  subst (AreHere boss_of) (sym (ap (bore (born c.args.births.now)) c.handle.ensures.bears.1 ∙ drop-append_seam (born c.args.births.now) c.handle.ensures.bears.0))
      (workers_here c.args.me c.handle.ensures.bears.0 c.handle.ensures.bears.2),
)
