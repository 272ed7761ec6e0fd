-- `Supervisor::handle`: its clauses `does`, `tends`, `bears` and `counts`.
use Rattle.std.proofs.Common.{ℕ, true, false, refl, subst}
use Rattle.pt_supervisor.specs.Hearing.{standing}
use Rattle.pt_children.specs.Homes.{place_coming}
use Rattle.pt_supervisor.specs.Supervising.{GoesForward, SupervisorAttends, supervisor_scene}
use Rattle.pt_supervisor.proofs.Bearing.{handles_bear}
use Rattle.pt_supervisor.proofs.Counted.{handles_count}
use Rattle.pt_supervisor.proofs.Tending.{handles_tend}
use Rattle.pt_supervisor.proofs.supervisor.Supervisor.handle.Goals as goal

pub returns-then-not-attend-clause-does : goal.returns-then-not-attend-clause-does
returns-then-not-attend-clause-does g c = record {
  mid = supervisor_scene c.attend.new.self c.attend.new.desk c.args.births.now;
  answer = false;
  attends = subst (λ (t : ℕ). SupervisorAttends c.args.me t c.args.item (standing c.args.self.now) c.args.desk.now false (standing c.attend.new.self) c.attend.new.desk) c.now-now.ensures
      c.if-not-attend.ensures.does;
  same = (c.attend.ensures.start, refl);
  goes = (refl, refl);
}

pub returns-clause-does : goal.returns-clause-does
returns-clause-does g c = record {
  mid = supervisor_scene c.attend.new.self c.attend.new.desk c.args.births.now;
  answer = true;
  attends = subst (λ (t : ℕ). SupervisorAttends c.args.me t c.args.item (standing c.args.self.now) c.args.desk.now true (standing c.attend.new.self) c.attend.new.desk) c.now-now.ensures
      c.if-not-attend.ensures.does;
  same = (c.attend.ensures.start, refl);
  goes = subst (λ (t : ℕ). GoesForward g.S.Start.starts c.args.me t (place_coming (standing c.attend.new.self).children) (supervisor_scene c.attend.new.self c.attend.new.desk c.args.births.now) c.go_forward.result
      (supervisor_scene c.go_forward.new.self c.go_forward.new.desk c.go_forward.new.births)) c.now-now.ensures c.go_forward.ensures.does;
}

pub returns-then-not-attend-clause-tends : goal.returns-then-not-attend-clause-tends
returns-then-not-attend-clause-tends g c =
    handles_tend g.S.Start.starts c.args.me _ c.args.item _ _ _ (returns-then-not-attend-clause-does g c) tt

pub returns-clause-tends : goal.returns-clause-tends
returns-clause-tends g c =
    handles_tend g.S.Start.starts c.args.me _ c.args.item _ _ _ (returns-clause-does g c) c.go_forward.ensures.supervises

pub returns-then-not-attend-clause-bears : goal.returns-then-not-attend-clause-bears
returns-then-not-attend-clause-bears g c =
    handles_bear g.S.Start.starts c.args.me _ c.args.item _ _ _ (returns-then-not-attend-clause-does g c)

pub returns-clause-bears : goal.returns-clause-bears
returns-clause-bears g c = handles_bear g.S.Start.starts c.args.me _ c.args.item _ _ _ (returns-clause-does g c)

pub returns-then-not-attend-clause-counts : goal.returns-then-not-attend-clause-counts
returns-then-not-attend-clause-counts g c =
    handles_count c.args.me g.S.Start.starts _ c.args.item _ _ _ (returns-then-not-attend-clause-does g c)

pub returns-clause-counts : goal.returns-clause-counts
returns-clause-counts g c = handles_count c.args.me g.S.Start.starts _ c.args.item _ _ _ (returns-clause-does g c)

pub returns-clause-permanent : goal.returns-clause-permanent
returns-clause-permanent g c = λ k. c.go_forward.ensures.permanent (c.if-not-attend.ensures.permanent k)
