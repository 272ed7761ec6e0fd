-- `meet_at`: its contract, and what its calls of `meet_itself` and `meet` ask.
use Rattle.std.proofs.Common.{◌≡◌, ◌<◌, get_or, ap, arith}
use Rattle.pt_workers.proofs.Meeting.{can_meet, one_meets, can_meet_up, meet_up, can_meet_down, meet_down}
use Rattle.pt_workers.proofs.stillness.meet_at.Goals as goal

pub meet_itself-requires : goal.meet_itself-requires
meet_itself-requires c =
    let desks = c.args.desks.now in
    let d = c.args.d in
    let p = get_or desks d c.index-desks-d.result in
    let d_in = c.requires.within.0 in
    let p_is : p ≡ get_or desks d p = ap (get_or desks d) c.index-desks-d.is in
    can_meet desks c.requires.node d d p p d_in d_in p_is p_is

pub returns-then-d-e : goal.returns-then-d-e
returns-then-d-e c =
    let desks = c.args.desks.now in
    let d = c.args.d in
    let p = get_or desks d c.index-desks-d.result in
    let p_is : p ≡ get_or desks d p = ap (get_or desks d) c.index-desks-d.is in
    rw (← c.if-d-e.true) (one_meets desks c.requires.node d p c.meet_itself.new.self c.requires.within.0 p_is c.meet_itself.ensures)

pub meet-requires : goal.meet-requires
meet-requires c =
    let cut = c.split_at_mut-front.ensures in
    can_meet_up c.args.desks.now _ _ cut.value c.requires.node c.args.d c.args.e cut.front_len c.if-d-e-2.true c.requires.within.1 _ _ (ap (get_or c.split_at_mut-front.result.0.now c.args.d) c.index-front-d.is) (ap (get_or c.split_at_mut-front.result.1.now 0) c.index-back-0.is)

pub returns-then-d-e-2 : goal.returns-then-d-e-2
returns-then-d-e-2 c =
    let cut = c.split_at_mut-front.ensures in
    meet_up c.args.desks.now _ _ cut.value c.requires.node c.args.d c.args.e cut.front_len c.if-d-e-2.true c.requires.within.1 _ _ (ap (get_or c.split_at_mut-front.result.0.now c.args.d) c.index-front-d.is) (ap (get_or c.split_at_mut-front.result.1.now 0) c.index-back-0.is) c.meet.new.from c.meet.new.self c.meet.ensures

pub meet-requires-else-d-e-2 : goal.meet-requires-else-d-e-2
meet-requires-else-d-e-2 c =
    let cut = c.split_at_mut-front-else-d-e-2.ensures in
    let below : c.args.e < c.args.d = omega arith in
    can_meet_down c.args.desks.now _ _ cut.value c.requires.node c.args.e c.args.d cut.front_len below c.requires.within.0 _ _ (ap (get_or c.split_at_mut-front-else-d-e-2.result.0.now c.args.e) c.index-front-e.is) (ap (get_or c.split_at_mut-front-else-d-e-2.result.1.now 0) c.index-back-0-else-d-e-2.is)

pub returns-else-d-e-2 : goal.returns-else-d-e-2
returns-else-d-e-2 c =
    let cut = c.split_at_mut-front-else-d-e-2.ensures in
    let below : c.args.e < c.args.d = omega arith in
    meet_down c.args.desks.now _ _ cut.value c.requires.node c.args.e c.args.d cut.front_len below c.requires.within.0 _ _ (ap (get_or c.split_at_mut-front-else-d-e-2.result.0.now c.args.e) c.index-front-e.is) (ap (get_or c.split_at_mut-front-else-d-e-2.result.1.now 0) c.index-back-0-else-d-e-2.is) c.meet-else-d-e-2.new.self c.meet-else-d-e-2.new.from c.meet-else-d-e-2.ensures
