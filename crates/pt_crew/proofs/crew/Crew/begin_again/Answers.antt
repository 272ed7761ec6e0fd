-- `Crew::begin_again`: its clause `attends`, and its loop over `place`.
use Rattle.std.proofs.Common.{◌+◌, List, [], drop, refl, sym, subst, ◌∙◌, append-nil, arith}
use Rattle.pt_signal.specs.declared.pid.Pid.{Pid}
use Rattle.pt_crew.specs.Crews.{queue, roles}
use Rattle.pt_crew.specs.Parts.{MarkedBut}
use Rattle.pt_crew.proofs.Beginning.{begun_again, all_marked, marked_first}
use Rattle.pt_crew.proofs.Visiting.{same_then, longer_then, rest_then}
use Rattle.pt_crew.proofs.crew.Crew.begin_again.Goals as goal

pub loop-place-init : goal.loop-place-init
loop-place-init g c = record {
  keys = refl;
  marked = marked_first c.args.self.now;
  queued = λ k. k;
  kept = λ p. refl;
  longer = ([], sym (append-nil (queue c.args.self.now)));
  rest = record { waiting = refl; left = refl; refused = refl; rounds = refl; time = refl };
  timers = λ k. k;
  room = λ r. r;
}

pub loop-place-preserved : goal.loop-place-preserved
loop-place-preserved g c = record {
  keys = c.in_ok-wake_at.ensures.wakes.keys ∙ c.loop-place.invariant.keys;
  marked = subst (λ (ps : List Pid). MarkedBut (drop (c.loop-place.place + 1) ps) c.wake_at.new.self) (sym c.in_ok-wake_at.ensures.wakes.keys) (c.in_ok-wake_at.ensures.wakes.marked c.loop-place.invariant.marked);
  queued = λ k. c.in_ok-wake_at.ensures.wakes.queued (c.loop-place.invariant.queued k);
  kept = same_then (roles c.args.self.now) (roles c.loop-place.self) (roles c.wake_at.new.self) c.loop-place.invariant.kept c.in_ok-wake_at.ensures.wakes.roles;
  longer = longer_then (queue c.args.self.now) (queue c.loop-place.self) (queue c.wake_at.new.self) c.loop-place.invariant.longer c.in_ok-wake_at.ensures.wakes.longer;
  rest = rest_then c.args.self.now c.loop-place.self c.wake_at.new.self c.loop-place.invariant.rest c.in_ok-wake_at.ensures.wakes.rest;
  timers = λ k. c.in_ok-wake_at.ensures.wakes.timers (c.loop-place.invariant.timers k);
  room = λ r. (c.wake_at.ensures.room (c.loop-place.invariant.room r)).1;
}

pub returns-clause-attends : goal.returns-clause-attends
returns-clause-attends g c =
    λ d e a born. begun_again c.args.self.now _ d e refl
    (all_marked c.args.self.now c.loop-place.self c.loop-place.place (omega (arith, c.loop-place-test.false, c.len-place-end.ensures.len)) c.loop-place.invariant.keys c.loop-place.invariant.marked)
    c.loop-place.invariant.kept c.loop-place.invariant.queued c.loop-place.invariant.room c.loop-place.invariant.timers a born
