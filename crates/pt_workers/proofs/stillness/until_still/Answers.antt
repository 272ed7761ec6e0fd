-- `until_still`: its clauses `node`, `rounds` and `lanes`, and its loop over `quiet`, and what its call of `turn_each` asks.
use Rattle.std.proofs.Common.{◌≡◌, ℕ, ◌++◌, List, length, map, take, drop, None, inr, sym, ap, ◌∙◌, subst, arith}
use Rattle.pt_carrier.proofs.Lists.{written}
use Rattle.pt_desk.specs.DeskState.{DeskState}
use Rattle.pt_workers.specs.Desks.{AreDesks, desk_kept}
use Rattle.pt_workers.specs.Looking.{HaveLanes}
use Rattle.pt_workers.specs.Stillness.{RunsRounds, TurnEach}
use Rattle.pt_workers.specs.declared.stillness.Rested.{Rested}
use Rattle.pt_workers.proofs.StillDesks.{kept_desks}
use Rattle.pt_workers.proofs.Meeting.{kept_count}
use Rattle.pt_workers.proofs.TurnsOf.{next_none}
use Rattle.pt_workers.proofs.Laned.{first_looked, met_lanes, still_lanes, were_looked}
use Rattle.pt_workers.proofs.AtRest.{look_again, no_look_again, none_stopped, quiet_round, room_falls, rounds_more, second_quiet}
use Rattle.pt_workers.proofs.stillness.until_still.Goals as goal

-- the list is written over whole by what the looks made of it
looked : (desks met : List DeskState) (n : ℕ) → length desks ≡ n → map desk_kept met ≡ map desk_kept desks → take n (met ++ drop (length met) desks) ≡ met
looked desks met n count kept = written desks met n (kept_count met desks kept) (sym count)

turned : (budget : ℕ) (desks met new : List DeskState) (n : ℕ) (round : Rested) → length desks ≡ n → map desk_kept met ≡ map desk_kept desks
    → TurnEach budget (length (take n (met ++ drop (length met) desks))) (take n (met ++ drop (length met) desks)) round new → TurnEach budget (length met) met round new
turned budget desks met new n round count kept turns = subst (λ z. TurnEach budget (length z) z round new) (looked desks met n count kept) turns

pub turn_each-round-requires : goal.turn_each-round-requires
turn_each-round-requires c =
    let desks = c.loop-quiet.desks.items in
    let met = c.meet_all.new.desks in
    let kept : map desk_kept met ≡ map desk_kept desks = c.meet_all.ensures.kept ∙ ap (map desk_kept) c.deref_mut.ensures.value in
    subst AreDesks (sym (looked desks met c.loop-quiet.desks.len (omega (arith, c.loop-quiet.desks.ok.0)) kept)) (kept_desks met desks kept c.loop-quiet.invariant.node)

-- behind a turn that was stopped
pub returns-then-is_some-clause-node : goal.returns-then-is_some-clause-node
returns-then-is_some-clause-node c =
    let last = c.turn_each-round.new.desks.items in
    let new = c.meet_all-then-is_some.new.desks in
    let kept : map desk_kept new ≡ map desk_kept last = c.meet_all-then-is_some.ensures.kept ∙ ap (map desk_kept) c.deref_mut-then-is_some.ensures.value in
    subst AreDesks (sym (looked last new c.turn_each-round.new.desks.len (omega (arith, c.turn_each-round.new.desks.ok.0)) kept)) (kept_desks new last kept c.turn_each-round.ensures.node)

pub returns-then-is_some-clause-rounds : goal.returns-then-is_some-clause-rounds
returns-then-is_some-clause-rounds c =
    let inv = c.loop-quiet.invariant in
    let desks = c.loop-quiet.desks.items in
    let met = c.meet_all.new.desks in
    let kept : map desk_kept met ≡ map desk_kept desks = c.meet_all.ensures.kept ∙ ap (map desk_kept) c.deref_mut.ensures.value in
    let turns = turned c.args.budget desks met c.turn_each-round.new.desks.items c.loop-quiet.desks.len c.turn_each-round.result (omega (arith, c.loop-quiet.desks.ok.0)) kept c.turn_each-round.ensures.turns in
    let rounds = rounds_more c.args.budget desks met c.turn_each-round.new.desks.items c.turn_each-round.result kept turns c.args.desks.now.items c.loop-quiet.did c.both-did.result inv.on c.both-did.ensures inv.rounds in
    let last = c.turn_each-round.new.desks.items in
    let new = c.meet_all-then-is_some.new.desks in
    let again : map desk_kept new ≡ map desk_kept last = c.meet_all-then-is_some.ensures.kept ∙ ap (map desk_kept) c.deref_mut-then-is_some.ensures.value in
    subst (RunsRounds c.args.budget c.args.desks.now.items c.both-did.result) (sym (looked last new c.turn_each-round.new.desks.len (omega (arith, c.turn_each-round.new.desks.ok.0)) again))
    (record { count = rounds.0; last = last; rounds = rounds.1; looks = look_again c.both-did.result.stopped c.is_some.result last new c.is_some.ensures c.if-is_some.true again })

pub returns-then-is_some-clause-lanes : goal.returns-then-is_some-clause-lanes
returns-then-is_some-clause-lanes c =
    let desks = c.loop-quiet.desks.items in
    let met = c.meet_all.new.desks in
    let kept : map desk_kept met ≡ map desk_kept desks = c.meet_all.ensures.kept ∙ ap (map desk_kept) c.deref_mut.ensures.value in
    let last = c.turn_each-round.new.desks.items in
    let new = c.meet_all-then-is_some.new.desks in
    let again : map desk_kept new ≡ map desk_kept last = c.meet_all-then-is_some.ensures.kept ∙ ap (map desk_kept) c.deref_mut-then-is_some.ensures.value in (
      first_looked c.args.desks.now.items desks met c.loop-quiet.quiet c.loop-quiet.invariant.lanes kept c.meet_all.ensures.met,
      subst HaveLanes (sym (looked last new c.turn_each-round.new.desks.len (omega (arith, c.turn_each-round.new.desks.ok.0)) again)) (met_lanes new c.meet_all-then-is_some.ensures.met),
    )

-- behind two rounds in a row that handled nothing
pub returns-clause-rounds : goal.returns-clause-rounds
returns-clause-rounds c =
    let inv = c.loop-quiet.invariant in
    record { count = inv.rounds.0; last = c.loop-quiet.desks.items; rounds = inv.rounds.1; looks = no_look_again c.loop-quiet.did.stopped c.loop-quiet.desks.items inv.on }

pub returns-clause-lanes : goal.returns-clause-lanes
returns-clause-lanes c =
    let inv = c.loop-quiet.invariant in (
      were_looked c.args.desks.now.items c.loop-quiet.desks.items c.loop-quiet.quiet (omega (arith, c.loop-quiet-test.false)) inv.lanes,
      still_lanes c.loop-quiet.desks.items (inv.twice (omega (arith, inv.few, c.loop-quiet-test.false))),
    )

pub loop-quiet-smaller-then-round-gt0 : goal.loop-quiet-smaller-then-round-gt0
loop-quiet-smaller-then-round-gt0 c =
    let desks = c.loop-quiet.desks.items in
    let met = c.meet_all.new.desks in
    let kept : map desk_kept met ≡ map desk_kept desks = c.meet_all.ensures.kept ∙ ap (map desk_kept) c.deref_mut.ensures.value in
    let turns = turned c.args.budget desks met c.turn_each-round.new.desks.items c.loop-quiet.desks.len c.turn_each-round.result (omega (arith, c.loop-quiet.desks.ok.0)) kept c.turn_each-round.ensures.turns in
    let falls = room_falls c.args.budget desks met c.turn_each-round.new.desks.items c.turn_each-round.result kept turns (omega (arith, c.ranges.budget)) in
    omega (arith, falls, c.if-round-gt0.true, c.loop-quiet-test.true)

pub loop-quiet-smaller : goal.loop-quiet-smaller
loop-quiet-smaller c =
    let desks = c.loop-quiet.desks.items in
    let met = c.meet_all.new.desks in
    let kept : map desk_kept met ≡ map desk_kept desks = c.meet_all.ensures.kept ∙ ap (map desk_kept) c.deref_mut.ensures.value in
    let turns = turned c.args.budget desks met c.turn_each-round.new.desks.items c.loop-quiet.desks.len c.turn_each-round.result (omega (arith, c.loop-quiet.desks.ok.0)) kept c.turn_each-round.ensures.turns in
    let falls = room_falls c.args.budget desks met c.turn_each-round.new.desks.items c.turn_each-round.result kept turns (omega (arith, c.ranges.budget)) in
    omega (arith, falls, c.loop-quiet-test.true)

pub loop-quiet-preserved-then-round-gt0 : goal.loop-quiet-preserved-then-round-gt0
loop-quiet-preserved-then-round-gt0 c =
    let inv = c.loop-quiet.invariant in
    let desks = c.loop-quiet.desks.items in
    let met = c.meet_all.new.desks in
    let kept : map desk_kept met ≡ map desk_kept desks = c.meet_all.ensures.kept ∙ ap (map desk_kept) c.deref_mut.ensures.value in
    let turns = turned c.args.budget desks met c.turn_each-round.new.desks.items c.loop-quiet.desks.len c.turn_each-round.result (omega (arith, c.loop-quiet.desks.ok.0)) kept c.turn_each-round.ensures.turns in
    record {
      node = c.turn_each-round.ensures.node;
      rounds = rounds_more c.args.budget desks met c.turn_each-round.new.desks.items c.turn_each-round.result kept turns c.args.desks.now.items c.loop-quiet.did c.both-did.result inv.on c.both-did.ensures inv.rounds;
      on = none_stopped c.both-did.result.stopped c.is_some.result c.is_some.ensures c.if-is_some.false;
      few = omega arith;
      lanes = inr (first_looked c.args.desks.now.items desks met c.loop-quiet.quiet inv.lanes kept c.meet_all.ensures.met);
      once = λ h. absurd (omega (arith, h));
      twice = λ h. absurd (omega (arith, h));
    }

pub loop-quiet-preserved : goal.loop-quiet-preserved
loop-quiet-preserved c =
    let inv = c.loop-quiet.invariant in
    let desks = c.loop-quiet.desks.items in
    let met = c.meet_all.new.desks in
    let round = c.turn_each-round.result in
    let kept : map desk_kept met ≡ map desk_kept desks = c.meet_all.ensures.kept ∙ ap (map desk_kept) c.deref_mut.ensures.value in
    let turns = turned c.args.budget desks met c.turn_each-round.new.desks.items c.loop-quiet.desks.len round (omega (arith, c.loop-quiet.desks.ok.0)) kept c.turn_each-round.ensures.turns in
    let node = kept_desks met desks kept inv.node in
    let on : c.both-did.result.stopped ≡ None = none_stopped c.both-did.result.stopped c.is_some.result c.is_some.ensures c.if-is_some.false in
    let round_on : round.stopped ≡ None = next_none c.loop-quiet.did.stopped round.stopped (sym (ap (λ (r : Rested). r.stopped) c.both-did.ensures) ∙ on) in
    let none : round.handled ≡ 0 = omega (arith, c.if-round-gt0.false) in
    record {
      node = c.turn_each-round.ensures.node;
      rounds = rounds_more c.args.budget desks met c.turn_each-round.new.desks.items round kept turns c.args.desks.now.items c.loop-quiet.did c.both-did.result inv.on c.both-did.ensures inv.rounds;
      on = on;
      few = omega (arith, c.loop-quiet-test.true);
      lanes = inr (first_looked c.args.desks.now.items desks met c.loop-quiet.quiet inv.lanes kept c.meet_all.ensures.met);
      once = λ h. quiet_round c.args.budget desks met c.turn_each-round.new.desks.items round kept turns node c.meet_all.ensures.met none round_on;
      twice = λ h. second_quiet c.args.budget desks met c.turn_each-round.new.desks.items round kept turns c.requires.some node c.meet_all.ensures.met (inv.once (omega (arith, h))) none round_on;
    }
