-- `meet_at`: its contract, and what its call of `meet` asks.
use Rattle.std.proofs.Common.{◌≡◌, ◌≢◌, ◌<◌, get_or, ◌++◌, arith, ap, sym, ◌∙◌, subst}
use Rattle.std.proofs.lemmas.List.{get_or-set_same, get_or-set_other, set-set}
use Rattle.pt_carrier.specs.Ends.{OutEnds, InEnds}
use Rattle.pt_carrier.specs.Node.{places}
use Rattle.pt_carrier.specs.Reunion.{MeetAt}
use Rattle.pt_carrier.proofs.Lists.{set_parts, set_parts_back, front_read, back_read}
use Rattle.pt_carrier.proofs.Places.{out_number, in_number}
use Rattle.pt_carrier.proofs.Meeting.{can_meet, MeetAt-met}
use Rattle.pt_carrier.proofs.reunion.meet_at.Goals as goal

pub meet-requires : goal.meet-requires
meet-requires c =
    let pairs = c.args.pairs.now in
    let d = c.args.d in
    let p = get_or pairs d c.index-pairs-d.result in
    let p_is : p ≡ get_or pairs d p = ap (λ x. get_or pairs d x) c.index-pairs-d.is in
    can_meet pairs c.requires.node d d p p c.requires.within.0 c.requires.within.0 p_is p_is

pub returns-then-d-e : goal.returns-then-d-e
returns-then-d-e c =
    let pairs = c.args.pairs.now in
    let d = c.args.d in
    let l = c.requires.within.0 in
    let p = get_or pairs d c.index-pairs-d.result in
    let p_is : p ≡ get_or pairs d p = ap (λ x. get_or pairs d x) c.index-pairs-d.is in
    let q : OutEnds × InEnds = (c.meet.new.outs, p.1) in
    rw (← c.if-d-e.true) (subst (λ new. MeetAt pairs new d d) (set-set pairs d q (c.meet.new.outs, c.meet.new.self))
    (MeetAt-met pairs d d p q l l c.meet.new.outs c.meet.new.self p_is (sym (get_or-set_same pairs d q q l))
    (out_number places pairs c.requires.node d p l p_is) (in_number places pairs c.requires.node d p l p_is)
    c.meet.ensures.outs c.meet.ensures.ins c.meet.ensures.known c.meet.ensures.whole))

pub meet-requires-then-d-e-2 : goal.meet-requires-then-d-e-2
meet-requires-then-d-e-2 c =
    let cut = c.split_at_mut-front.ensures in
    let front = c.split_at_mut-front.result.0.now in
    let back = c.split_at_mut-front.result.1.now in
    let p = get_or front c.args.d c.index-front-d.result in
    let q = get_or back 0 c.index-back-0.result in
    let p_is : p ≡ get_or front c.args.d p = ap (λ x. get_or front c.args.d x) c.index-front-d.is in
    let q_is : q ≡ get_or back 0 q = ap (λ x. get_or back 0 x) c.index-back-0.is in
    let node = rw cut.value at c.requires.node in
    let within = rw cut.value at c.requires.within in
    can_meet (front ++ back) node c.args.d c.args.e p q within.0 within.1
    (front_read front back c.args.e cut.front_len c.args.d p c.if-d-e-2.true p_is)
    (back_read front back c.args.e cut.front_len q q_is)

pub returns-then-d-e-2 : goal.returns-then-d-e-2
returns-then-d-e-2 c =
    let cut = c.split_at_mut-front.ensures in
    let d = c.args.d in
    let e = c.args.e in
    let front = c.split_at_mut-front.result.0.now in
    let back = c.split_at_mut-front.result.1.now in
    let p = get_or front d c.index-front-d.result in
    let q = get_or back 0 c.index-back-0.result in
    let p_is = front_read front back e cut.front_len d p c.if-d-e-2.true (ap (λ x. get_or front d x) c.index-front-d.is) in
    let q_is = back_read front back e cut.front_len q (ap (λ x. get_or back 0 x) c.index-back-0.is) in
    let node = rw cut.value at c.requires.node in
    let within = rw cut.value at c.requires.within in
    let o = c.meet-then-d-e-2.new.outs in
    let i = c.meet-then-d-e-2.new.self in
    let apart : e ≢ d = λ w. omega arith in
    rw (cut.value, set_parts front back e cut.front_len d (o, p.1) (q.0, i) c.if-d-e-2.true)
    (MeetAt-met (front ++ back) d e p q within.0 within.1 o i p_is (q_is ∙ sym (get_or-set_other (front ++ back) d e (o, p.1) q apart))
    (out_number places (front ++ back) node d p within.0 p_is) (in_number places (front ++ back) node e q within.1 q_is)
    c.meet-then-d-e-2.ensures.outs c.meet-then-d-e-2.ensures.ins c.meet-then-d-e-2.ensures.known c.meet-then-d-e-2.ensures.whole)

pub meet-requires-else-d-e-2 : goal.meet-requires-else-d-e-2
meet-requires-else-d-e-2 c =
    let cut = c.split_at_mut-front-else-d-e-2.ensures in
    let front = c.split_at_mut-front-else-d-e-2.result.0.now in
    let back = c.split_at_mut-front-else-d-e-2.result.1.now in
    let p = get_or back 0 c.index-back-0-else-d-e-2.result in
    let q = get_or front c.args.e c.index-front-e.result in
    let below : c.args.e < c.args.d = omega arith in
    let node = rw cut.value at c.requires.node in
    let within = rw cut.value at c.requires.within in
    can_meet (front ++ back) node c.args.d c.args.e p q within.0 within.1
    (back_read front back c.args.d cut.front_len p (ap (λ x. get_or back 0 x) c.index-back-0-else-d-e-2.is))
    (front_read front back c.args.d cut.front_len c.args.e q below (ap (λ x. get_or front c.args.e x) c.index-front-e.is))

pub returns-else-d-e-2 : goal.returns-else-d-e-2
returns-else-d-e-2 c =
    let cut = c.split_at_mut-front-else-d-e-2.ensures in
    let d = c.args.d in
    let e = c.args.e in
    let front = c.split_at_mut-front-else-d-e-2.result.0.now in
    let back = c.split_at_mut-front-else-d-e-2.result.1.now in
    let p = get_or back 0 c.index-back-0-else-d-e-2.result in
    let q = get_or front e c.index-front-e.result in
    let below : e < d = omega arith in
    let p_is = back_read front back d cut.front_len p (ap (λ x. get_or back 0 x) c.index-back-0-else-d-e-2.is) in
    let q_is = front_read front back d cut.front_len e q below (ap (λ x. get_or front e x) c.index-front-e.is) in
    let node = rw cut.value at c.requires.node in
    let within = rw cut.value at c.requires.within in
    let o = c.meet-else-d-e-2.new.outs in
    let i = c.meet-else-d-e-2.new.self in
    let apart : e ≢ d = λ w. omega arith in
    rw (cut.value, set_parts_back front back d cut.front_len e (q.0, i) (o, p.1) below)
    (MeetAt-met (front ++ back) d e p q within.0 within.1 o i p_is (q_is ∙ sym (get_or-set_other (front ++ back) d e (o, p.1) q apart))
    (out_number places (front ++ back) node d p within.0 p_is) (in_number places (front ++ back) node e q within.1 q_is)
    c.meet-else-d-e-2.ensures.outs c.meet-else-d-e-2.ensures.ins c.meet-else-d-e-2.ensures.known c.meet-else-d-e-2.ensures.whole)
