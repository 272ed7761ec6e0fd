-- `Crew::ring`: its contract, and its loop over `due`.
use Rattle.std.proofs.Common.{[], refl, sym, ◌∙◌, append-nil, arith}
use Rattle.pt_crew.specs.Crews.{queue, roles}
use Rattle.pt_crew.proofs.Reading.{on_ok, woke_knows}
use Rattle.pt_crew.proofs.Room.{on_err_of}
use Rattle.pt_crew.proofs.Timing.{timers_is}
use Rattle.pt_crew.proofs.Visiting.{longer_then, rest_then, same_then}
use Rattle.pt_crew.proofs.Waking.{knows_is}
use Rattle.pt_crew.proofs.crew.Crew.ring.Goals as goal

pub loop-due-init : goal.loop-due-init
loop-due-init g c = record {
  knows = λ d k. k;
  kept = λ p. refl;
  longer = ([], sym (append-nil (queue c.args.self.now)));
  read = refl;
  rest = record { waiting = refl; left = refl; refused = refl; rounds = refl; time = refl };
  timers = λ k. k;
  room = λ r. r;
  fewer = λ k. omega arith;
}

pub loop-due-preserved : goal.loop-due-preserved
loop-due-preserved g c =
    let inv = c.loop-due.invariant in
    let old = c.args.self.now in
    let mid = c.loop-due.self in
    let new = c.wake.new.self in
    let wakes = on_ok _ c.wake.result (sym c.if-is_err.ensures.value) c.wake.ensures.wakes in
    record {
      knows = λ d k. woke_knows c.in-Some.p.now mid new d wakes (inv.knows d k);
      kept = same_then (roles old) (roles mid) (roles new) inv.kept wakes.roles;
      longer = longer_then (queue old) (queue mid) (queue new) inv.longer wakes.longer;
      read = wakes.read ∙ inv.read;
      rest = rest_then old mid new inv.rest wakes.rest;
      timers = λ k. wakes.timers (inv.timers k);
      room = λ r. (c.wake.ensures.room (inv.room r)).1;
      fewer = λ k.
          let mine = inv.timers k in
          let was = inv.fewer k in
          let one = wakes.fewer mine _ (mine.owned _ _ c.in-Some.ensures.pending) in
          omega (arith, was, one);
    }

pub returns-then-is_err-clause-knows : goal.returns-then-is_err-clause-knows
returns-then-is_err-clause-knows g c =
    λ d k. knows_is c.loop-due.self c.wake.new.self d (on_err_of _ c.wake.result (sym c.is_err.ensures.value ∙ c.if-is_err.true) c.wake.ensures.refused) (c.loop-due.invariant.knows d k)

pub returns-then-is_err-clause-timers : goal.returns-then-is_err-clause-timers
returns-then-is_err-clause-timers g c =
    λ k. timers_is c.loop-due.self c.wake.new.self (on_err_of _ c.wake.result (sym c.is_err.ensures.value ∙ c.if-is_err.true) c.wake.ensures.refused) (c.loop-due.invariant.timers k)
