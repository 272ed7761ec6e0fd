-- `Crew::answer`: its clauses `is`, `answered`, `refused` and `attends`.
use Rattle.std.proofs.Common.{[], Some, cond, ap, sym, refl, ◌∙◌, append-nil}
use Rattle.std.specs.Option.{option_map}
use Rattle.pt_signal.specs.Values.{same_pid}
use Rattle.pt_behaviour.specs.declared.behaviour.Next.TheVariants.{Running}
use Rattle.pt_crew.specs.Crews.{members, queue, role, roles}
use Rattle.pt_crew.specs.Stepping.{is_running}
use Rattle.pt_behaviour.specs.Behaving.{limit_of}
use Rattle.pt_crew.specs.Waking.{has_work}
use Rattle.pt_crew.proofs.Answering.{is_role, knows_replaced, put_at, put_attends, put_back_same, put_room, rests_endless, rests_task, role_set, runs_next, set_at, same_both, timed_replaced, was_running}
use Rattle.pt_crew.proofs.Reading.{woke_knows}
use Rattle.pt_crew.proofs.Room.{on_err}
use Rattle.pt_crew.proofs.Visiting.{rest_then}
use Rattle.pt_crew.proofs.crew.Crew.answer.Goals as goal

pub returns-then-not-runs-clause-is : goal.returns-then-not-runs-clause-is
returns-then-not-runs-clause-is g c =
    let e = c.pair_mut-member.ensures in
    sym (ap is_running (is_role c.args.self.now c.args.p c.in-Some.place c.pair_mut-member.result.0.now c.pair_mut-member.result.1.now c.place_of.new.self c.in-Some.ensures.index e.value e.unique) ∙ sym c.runs.ensures ∙ c.if-not-runs.true)

pub returns-then-not-runs-clause-answered : goal.returns-then-not-runs-clause-answered
returns-then-not-runs-clause-answered g c =
    let e = c.pair_mut-member.ensures in
    put_back_same c.args.self.now c.args.p c.in-Some.place c.pair_mut-member.result.0.now c.pair_mut-member.result.1.now c.place_of.new.self c.in-Some.ensures.index e.value e.unique

pub returns-then-not-runs-clause-attends : goal.returns-then-not-runs-clause-attends
returns-then-not-runs-clause-attends g c =
    let e = c.pair_mut-member.ensures in
    λ d a. (refl, put_attends c.args.self.now c.args.p c.in-Some.place c.pair_mut-member.result.0.now c.pair_mut-member.result.1.now c.place_of.new.self c.in-Some.ensures.index e.value e.unique d a)

pub returns-then-rests-clause-is : goal.returns-then-rests-clause-is
returns-then-rests-clause-is g c =
    let e = c.pair_mut-member.ensures in
    sym (ap is_running (is_role c.args.self.now c.args.p c.in-Some.place c.pair_mut-member.result.0.now c.pair_mut-member.result.1.now c.place_of.new.self c.in-Some.ensures.index e.value e.unique) ∙ sym c.runs.ensures ∙ c.if-not-runs.false)

pub returns-then-rests-clause-answered : goal.returns-then-rests-clause-answered
returns-then-rests-clause-answered g c =
    let v = c.pair_mut-member.result.1.now in
    let e = c.pair_mut-member.ensures in
    let at = set_at c.args.self.now c.args.p c.in-Some.place c.pair_mut-member.result.0.now v c.place_of.new.self c.in-Some.ensures.index e.value e.unique (record v { next = c.args.next }) in
    let old = c.args.self.now in
    record {
      behaviour = v.behaviour;
      ran = was_running old c.args.p c.in-Some.place c.pair_mut-member.result.0.now v c.place_of.new.self c.in-Some.ensures.index e.value e.unique (sym c.runs.ensures ∙ c.if-not-runs.false);
      does = role_set (members old) _ c.args.p v _ at.0 at.1 v.behaviour c.args.next refl refl;
      longer = ([], sym (append-nil (queue old)));
      read = refl;
      rest = record { waiting = refl; left = refl; refused = refl; rounds = refl; time = refl };
    }

pub returns-then-rests-clause-attends : goal.returns-then-rests-clause-attends
returns-then-rests-clause-attends g c =
    let v = c.pair_mut-member.result.1.now in
    let e = c.pair_mut-member.ensures in
    let at = set_at c.args.self.now c.args.p c.in-Some.place c.pair_mut-member.result.0.now v c.place_of.new.self c.in-Some.ensures.index e.value e.unique (record v { next = c.args.next }) in
    let old = c.args.self.now in
    let rests = sym c.rests.ensures ∙ c.if-rests.true in
    let ran = runs_next v.next (sym c.runs.ensures ∙ c.if-not-runs.false) in
    λ d a. (
      refl,
      record {
        knows = knows_replaced (members old) _ c.args.p v _ at.0 at.1 refl (λ f work. rests_task c.args.next v.clear f (has_work v.next f) rests work) (queue old) old.read d a.knows;
        room = put_room old c.args.p c.in-Some.place c.pair_mut-member.result.0.now v c.place_of.new.self c.in-Some.ensures.index e.value e.unique (record v { next = c.args.next }) refl a.room;
        timers = timed_replaced (members old) _ c.args.p v _ at.0 at.1 refl (rests_endless c.args.next v.clear rests ∙ sym (ap limit_of ran)) old.timers refl a.timers;
      },
    )

pub returns-in_err-wake-clause-refused : goal.returns-in_err-wake-clause-refused
returns-in_err-wake-clause-refused g c =
    let e = c.pair_mut-member.ensures in
    let old = c.args.self.now in
    let i = c.in-Some.place in
    let v = c.pair_mut-member.result.1.now in
    let same = put_back_same old c.args.p i c.pair_mut-member.result.0.now v c.place_of.new.self c.in-Some.ensures.index e.value e.unique in
    on_err _ c.from_residual.result (same_both old (put_at old i v c.place_of.new.self) c.wake.new.self same c.in_err-wake.ensures.refused)

pub returns-in_err-wake-clause-attends : goal.returns-in_err-wake-clause-attends
returns-in_err-wake-clause-attends g c =
    let e = c.pair_mut-member.ensures in
    λ d a.
    let room = put_room c.args.self.now c.args.p c.in-Some.place c.pair_mut-member.result.0.now c.pair_mut-member.result.1.now c.place_of.new.self c.in-Some.ensures.index e.value e.unique c.pair_mut-member.result.1.now refl a.room in
    absurd (let bad = (c.in_err-wake.ensures.room room).0 in cc)

pub returns-clause-is : goal.returns-clause-is
returns-clause-is g c =
    let e = c.pair_mut-member.ensures in
    sym (ap is_running (is_role c.args.self.now c.args.p c.in-Some.place c.pair_mut-member.result.0.now c.pair_mut-member.result.1.now c.place_of.new.self c.in-Some.ensures.index e.value e.unique) ∙ sym c.runs.ensures ∙ c.if-not-runs.false)

pub returns-clause-answered : goal.returns-clause-answered
returns-clause-answered g c =
    let e = c.pair_mut-member.ensures in
    let old = c.args.self.now in
    let p = c.args.p in
    let i = c.in-Some.place in
    let k = c.pair_mut-member.result.0.now in
    let v = c.pair_mut-member.result.1.now in
    let mid = put_at old i v c.place_of.new.self in
    let same = put_back_same old p i k v c.place_of.new.self c.in-Some.ensures.index e.value e.unique in
    let ran = was_running old p i k v c.place_of.new.self c.in-Some.ensures.index e.value e.unique (sym c.runs.ensures ∙ c.if-not-runs.false) in
    let w = c.in_ok-wake.ensures.wakes in
    let s = c.set_next.ensures in
    record {
      behaviour = v.behaviour;
      ran = ran;
      does = λ q. s.set v.behaviour Running (w.roles p ∙ ap (option_map role) (same.members p) ∙ ran) q ∙ ap (λ o. cond (same_pid p q) (Some (v.behaviour, c.args.next)) o) (w.roles q ∙ ap (option_map role) (same.members q));
      longer = (w.longer.0, s.queue ∙ w.longer.1);
      read = s.read ∙ w.read;
      rest = rest_then old mid c.set_next.new.self same.rest (rest_then mid c.wake.new.self c.set_next.new.self w.rest s.rest);
    }

pub returns-clause-attends : goal.returns-clause-attends
returns-clause-attends g c =
    let e = c.pair_mut-member.ensures in
    let old = c.args.self.now in
    let i = c.in-Some.place in
    let v = c.pair_mut-member.result.1.now in
    let mid = put_at old i v c.place_of.new.self in
    let w = c.in_ok-wake.ensures.wakes in
    let s = c.set_next.ensures in
    λ d a.
    let b = put_attends old c.args.p i c.pair_mut-member.result.0.now v c.place_of.new.self c.in-Some.ensures.index e.value e.unique d a in (
      refl,
      record {
        knows = s.knows d w.marked (woke_knows c.args.p mid c.wake.new.self d w b.knows);
        room = s.room (c.wake.ensures.room b.room).1;
        timers = s.timers w.marked (w.timers b.timers);
      },
    )
