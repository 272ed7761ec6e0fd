-- `Supervisor::advance`: its clauses `supervises`, `permanent` and `does`.
use Rattle.std.proofs.Common.{rules, ◌≡◌, ℕ, length, Option, None, Some, refl, sym, ap, subst, ◌∙◌, arith}
use Rattle.pt_signal.specs.declared.pid.Pid.{Pid}
use Rattle.pt_signal.specs.declared.reason.Reason.{Reason}
use Rattle.pt_shard.specs.ShardState.{phase_of}
use Rattle.pt_behaviour.specs.declared.behaviour.Next.{Next}
use Rattle.pt_children.specs.declared.children.Shutdown.{Shutdown}
use Rattle.pt_children.specs.Children.{PermanentAreWanted, last_alive}
use Rattle.pt_children.specs.Ending.{stage_of}
use Rattle.pt_children.specs.Hearing.{Standing}
use Rattle.pt_supervisor.specs.Hearing.{standing}
use Rattle.pt_supervisor.proofs.Ending.{ends_supervise}
use Rattle.pt_supervisor.specs.Supervising.{AdvancesAs, SupervisorSettles, Supervises, supervisor_scene}
use Rattle.pt_supervisor.proofs.Joining.{settled_waits}
use Rattle.pt_children.proofs.Wanting.{first_rest}
use Rattle.pt_supervisor.proofs.Starting.{none_live, none_unwanted, settles, tried_supervises}
use Rattle.pt_supervisor.proofs.supervisor.Supervisor.advance.Goals as goal

pub returns-in-Some-clause-supervises : goal.returns-in-Some-clause-supervises
returns-in-Some-clause-supervises g c =
    let s = standing c.args.self.now in
    let last : last_alive s.children s.ending (length s.children) ≡ Some (c.in-Some.pid, c.in-Some.shutdown) = cc in
    ends_supervise c.args.me c.in-Some.pid c.in-Some.shutdown s c.args.desk.now c.end.result (standing c.end.new.self) c.end.new.desk last c.args.now
    (stage_of s.asked c.in-Some.pid) refl c.end.ensures.does

pub returns-in-Some-clause-permanent : goal.returns-in-Some-clause-permanent
returns-in-Some-clause-permanent g c = λ k. subst (λ (s : Standing). PermanentAreWanted s.children) (sym c.end.ensures.rest) k

pub returns-in-Some-stopping-clause-supervises : goal.returns-in-Some-stopping-clause-supervises
returns-in-Some-stopping-clause-supervises g c =
    let s = c.args.self.now in
    let none : last_alive s.children s.ending (length s.children) ≡ None = sym c.last_alive.ensures ∙ c.in_default.is in
    let lives = none_live s.children s.ending (s.all c.in-Some-stopping.reason c.in-Some-stopping.is) none in
    (first_of (search rules, cc), lives)

pub returns-then-start_missing-clause-supervises :
    goal.returns-then-start_missing-clause-supervises
returns-then-start_missing-clause-supervises g c =
    let rest = c.start_missing.ensures.rest in
    let len : c.len-self.result ≡ length c.args.self.now.children = omega arith in
    let items = c.args.self.now.children in
    let none : last_alive items c.args.self.now.ending (length items) ≡ None = sym c.last_alive.ensures ∙ c.in_default.is in
    settled_waits (standing c.start_missing.new.self) (
      c.if-start_missing.ensures.started refl,
      ap (λ (s : Standing). s.ending) rest ∙ (len ∙ sym c.start_missing.ensures.count),
      ap (λ (s : Standing). s.stopping) rest ∙ c.in_default-stopping.is,
      ap (λ (s : Standing). s.asked) rest,
      c.start_missing.ensures.unwanted (none_unwanted items c.args.self.now.ending none),
    )

pub returns-clause-supervises : goal.returns-clause-supervises
returns-clause-supervises g c =
    subst (λ (n : Next). Supervises n (standing c.heed_first.new.self)) (sym c.next_tried.ensures) (tried_supervises (phase_of c.start_missing.new.desk.shard c.args.me) (standing c.heed_first.new.self))

pub returns-clause-permanent : goal.returns-clause-permanent
returns-clause-permanent g c = λ k.
    subst (λ (s : Standing). PermanentAreWanted s.children) (sym c.heed_first.ensures.standing)
    (subst PermanentAreWanted (sym (first_rest (standing c.start_missing.new.self)).0) (c.if-start_missing.ensures.permanent k))

pub returns-clause-does : goal.returns-clause-does
returns-clause-does g c =
    let old = supervisor_scene c.args.self.now c.args.desk.now c.args.births.now in
    let mid = supervisor_scene c.start_missing.new.self c.start_missing.new.desk c.start_missing.new.births in
    let new = supervisor_scene c.heed_first.new.self c.start_missing.new.desk c.start_missing.new.births in
    let items = c.args.self.now.children in
    let len : c.len-self.result ≡ length items = omega arith in
    let none : last_alive items c.args.self.now.ending (length items) ≡ None = sym c.last_alive.ensures ∙ c.in_default.is in
    let rest = c.if-start_missing.ensures.rest ∙ ap (λ (n : ℕ). record (old.standing) { children = mid.standing.children; started = mid.standing.started; ending = n; asked = None }) len in
    subst (λ (o : Option (Pid × Shutdown)). AdvancesAs g.S.Start.starts c.args.me c.args.now o old c.next_tried.result new) (sym none)
    (subst (λ (o : Option Reason). SupervisorSettles g.S.Start.starts c.args.me o old c.next_tried.result new) (sym c.in_default-stopping.is)
    (settles g.S.Start.starts c.args.me old mid new c.next_tried.result c.if-start_missing.ensures.does rest c.heed_first.ensures.standing c.heed_first.ensures.start refl refl c.next_tried.ensures))
