-- `Supervisor::start_missing`: its clauses `goes_on`, `does`, `permanent`, `unwanted` and `started`, and its loop over `place`.
use Rattle.std.proofs.Common.{◌≡◌, ℕ, length, true, false, not, refl, ◌∙◌, ap, subst, arith}
use Rattle.std.specs.List.{list_all}
use Rattle.pt_desk.proofs.Turning.{goes_on_then}
use Rattle.pt_children.specs.Hearing.{Standing}
use Rattle.pt_supervisor.specs.Hearing.{standing}
use Rattle.pt_children.specs.declared.children.Child.{Child}
use Rattle.pt_children.specs.declared.restart.Strategy.{Strategy}
use Rattle.pt_children.specs.Children.{is_missing}
use Rattle.pt_supervisor.specs.Supervising.{StartsFirst, StartsOne, nursery, supervisor_scene}
use Rattle.pt_supervisor.proofs.Starting.{all_are_started, first_more, first_past}
use Rattle.pt_supervisor.proofs.supervisor.Supervisor.start_missing.Goals as goal

pub overflow_add-from : goal.overflow_add-from
overflow_add-from g c =
    let within = c.in-Some.ensures.1 in
    let count = c.loop-place.invariant.count in
    omega (arith, within, count)

-- those before the next one that is missing are passed over
pub loop-place-preserved : goal.loop-place-preserved
loop-place-preserved g c =
    let inv = c.loop-place.invariant in
    let next = c.in-Some.ensures in
    let mid = nursery (supervisor_scene c.loop-place.self c.loop-place.desk c.loop-place.births) in
    let within = next.1 in
    let past = first_past g.S.Start.starts c.args.me c.args.self.now.strategy c.loop-place.from c.in-Some.place _ mid inv.does next.0 (omega (arith, within)) next.3 in
    record {
      does = first_more g.S.Start.starts c.args.me c.args.self.now.strategy c.in-Some.place _ _ _ past (subst (λ (k : Strategy). StartsOne g.S.Start.starts c.args.me k c.in-Some.place mid true
          (nursery (supervisor_scene c.start_at.new.self c.start_at.new.desk c.start_at.new.births))) (ap (λ (s : Standing). s.strategy) inv.rest) c.if-not-start_at.ensures.does);
      rest = c.start_at.ensures.rest ∙ ap (λ (s : Standing). record s { children = (standing c.start_at.new.self).children; started = (standing c.start_at.new.self).started }) inv.rest;
      permanent = λ k. c.start_at.ensures.at.permanent (inv.permanent k);
      unwanted = λ k. c.start_at.ensures.at.unwanted (inv.unwanted k);
      within = let count = c.start_at.ensures.at.count in omega (arith, within, count);
      count = c.start_at.ensures.at.count ∙ inv.count;
      takes = c.start_at.ensures.takes ∙ inv.takes;
      kept = c.start_at.ensures.kept ∙ inv.kept;
      goes_on = goes_on_then c.args.desk.now c.loop-place.desk c.start_at.new.desk inv.goes_on c.start_at.ensures.goes_on;
    }

pub returns-then-not-start_at-clause-goes_on : goal.returns-then-not-start_at-clause-goes_on
returns-then-not-start_at-clause-goes_on g c =
    goes_on_then c.args.desk.now c.loop-place.desk c.start_at.new.desk c.loop-place.invariant.goes_on c.start_at.ensures.goes_on

pub returns-then-not-start_at-clause-does : goal.returns-then-not-start_at-clause-does
returns-then-not-start_at-clause-does g c =
    let inv = c.loop-place.invariant in
    let next = c.in-Some.ensures in
    let mid = nursery (supervisor_scene c.loop-place.self c.loop-place.desk c.loop-place.births) in
    let within = next.1 in
    let count = inv.count in (
      false,
      (
        c.in-Some.place,
        omega (arith, within, count),
        mid,
        first_past g.S.Start.starts c.args.me c.args.self.now.strategy c.loop-place.from c.in-Some.place _ mid inv.does next.0 (omega (arith, within)) next.3,
        (subst (λ (k : Strategy). StartsOne g.S.Start.starts c.args.me k c.in-Some.place mid false
            (nursery (supervisor_scene c.start_at.new.self c.start_at.new.desk c.start_at.new.births))) (ap (λ (s : Standing). s.strategy) inv.rest) c.if-not-start_at.ensures.does),
      ),
      refl,
    )

-- those behind the last one that was missing are passed over
pub returns-clause-does : goal.returns-clause-does
returns-clause-does g c =
    let inv = c.loop-place.invariant in
    let old = nursery (supervisor_scene c.args.self.now c.args.desk.now c.args.births.now) in
    let mid = nursery (supervisor_scene c.loop-place.self c.loop-place.desk c.loop-place.births) in (
      true,
      subst (λ (n : ℕ). StartsFirst g.S.Start.starts c.args.me c.args.self.now.strategy n old mid) inv.count
          (first_past g.S.Start.starts c.args.me c.args.self.now.strategy c.loop-place.from (length mid.children) old mid inv.does inv.within (omega arith) c.in_default.ensures),
      c.all_started.ensures,
    )

pub returns-then-not-start_at-clause-permanent : goal.returns-then-not-start_at-clause-permanent
returns-then-not-start_at-clause-permanent g c = λ k. c.start_at.ensures.at.permanent (c.loop-place.invariant.permanent k)

pub returns-clause-permanent : goal.returns-clause-permanent
returns-clause-permanent g c = c.loop-place.invariant.permanent

pub returns-then-not-start_at-clause-unwanted : goal.returns-then-not-start_at-clause-unwanted
returns-then-not-start_at-clause-unwanted g c = λ k. c.start_at.ensures.at.unwanted (c.loop-place.invariant.unwanted k)

pub returns-clause-unwanted : goal.returns-clause-unwanted
returns-clause-unwanted g c = c.loop-place.invariant.unwanted

pub returns-clause-started : goal.returns-clause-started
returns-clause-started g c = λ is.
    let all : list_all (λ (x : Child). not (is_missing x)) (standing c.loop-place.self).children ≡ true = cc in
    all_are_started (standing c.loop-place.self).children _ all
