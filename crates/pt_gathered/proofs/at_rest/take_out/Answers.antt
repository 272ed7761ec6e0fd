-- `take_out`: its clauses `takes` and `shards`.
use Rattle.std.proofs.Common.{◌≡◌, ◌+◌, ◌*◌, ◌<◌, [], Some, length, get_or, sym, ap, ◌∙◌, arith}
use Rattle.std.specs.Prelude.{slice_get, is_some}
use Rattle.std.proofs.lemmas.List.{nil_from_length}
use Rattle.pt_carrier.proofs.Rooms.{place_before}
use Rattle.pt_shard.specs.ShardState.{ShardState}
use Rattle.pt_shard.specs.Outbox.{held_from}
use Rattle.pt_gathered.specs.Gathered.{hold_at}
use Rattle.pt_gathered.proofs.Stepping.{hold_is, lane_is, takes_hold, takes_lane, takes_box}
use Rattle.pt_gathered.proofs.Places.{held_is, held_is_not}
use Rattle.pt_gathered.proofs.Shards.{set_shard}
use Rattle.pt_gathered.proofs.at_rest.take_out.Goals as goal
use Rattle.pt_gathered.proofs.at_rest.take_out.Goals.{After-len-2}

-- no letter of the desk is held
none_held : (c : After-len-2) → held_from c.args.d (hold_at c.args.shards.now.items c.args.e) ≡ []
none_held c = held_is_not c.args.d (hold_at c.args.shards.now.items c.args.e)
    (ap (λ z. is_some (slice_get (held_from c.args.d (hold_at z c.args.e)) 0)) (sym c.as_slice.ensures.value) ∙ ap is_some (sym c.held_from.ensures) ∙ sym c.is_some.ensures ∙ c.if-is_some.false)

-- the place of the lane between the desks
lane_at : (c : After-len-2) → c.from-2.result * c.len.result + c.from-3.result ≡ c.args.d * length c.args.shards.now.items + c.args.e
lane_at c =
    let long : c.len.result ≡ length c.args.shards.now.items = omega (arith, c.len.ensures, c.args.shards.now.ok.0) in
    ap (λ k. k * c.len.result + c.from-3.result) c.from-2.ensures ∙ ap (λ k. c.args.d * k + c.from-3.result) long ∙ ap (λ k. c.args.d * length c.args.shards.now.items + k) c.from-3.ensures

pub returns-then-is_some-clause-takes : goal.returns-then-is_some-clause-takes
returns-then-is_some-clause-takes c =
    let shards = c.args.shards.now.items in
    let lanes = c.args.lanes.now.items in
    let d = c.args.d in
    let e = c.args.e in
    let s = c.index_mut.result.now in
    let s_is : s ≡ get_or shards e s = c.index_mut.ensures.value ∙ ap (λ k. get_or shards k s) c.from.ensures in
    let held = held_is d (hold_at shards e)
    (ap (λ z. is_some (slice_get (held_from d (hold_at z e)) 0)) (sym c.as_slice.ensures.value) ∙ ap is_some (sym c.held_from.ensures) ∙ sym c.is_some.ensures ∙ c.if-is_some.true) in
    let holds : s.hold ≡ Some held.0 = sym (hold_is shards e s c.requires.within.1 s_is) ∙ held.1 in
    rw (c.from.ensures, c.take_hold.ensures.rest) (takes_hold shards lanes d e c.requires.within.0 c.requires.within.1 s held.0 s_is holds held.2)

pub returns-then-len-gt0-clause-takes : goal.returns-then-len-gt0-clause-takes
returns-then-len-gt0-clause-takes c =
    let shards = c.args.shards.now.items in
    let lanes = c.args.lanes.now.items in
    let d = c.args.d in
    let e = c.args.e in
    let none = none_held (goal.at.returns-then-len-gt0-clause-takes c).After-len-2 in
    let n = c.from-2.result * c.len.result + c.from-3.result in
    let at = lane_at (goal.at.returns-then-len-gt0-clause-takes c).After-len-2 in
    let x = c.index_mut-then-len-gt0.result.now in
    let y = c.index.result.now in
    let x_is : x ≡ get_or lanes n x = c.index_mut-then-len-gt0.ensures.value in
    let within : d * length shards + e < length lanes = let t = place_before d e (length shards) (length shards) c.requires.within.0 c.requires.within.1 in omega (arith, c.requires.lanes) in
    let same : y ≡ x = sym (lane_is lanes n (d * length shards + e) y at within c.index.ensures) ∙ lane_is lanes n (d * length shards + e) x at within x_is in
    let some : 0 < length x = omega (arith, ap length same, c.len-2.ensures, c.if-len-gt0.true) in
    rw c.pop.ensures (takes_lane shards lanes d e c.requires.within.0 c.requires.within.1 c.requires.lanes none n x at x_is some)

pub returns-clause-takes : goal.returns-clause-takes
returns-clause-takes c =
    let shards = c.args.shards.now.items in
    let lanes = c.args.lanes.now.items in
    let d = c.args.d in
    let e = c.args.e in
    let none = none_held (goal.at.returns-clause-takes c).After-len-2 in
    let n = c.from-2.result * c.len.result + c.from-3.result in
    let at = lane_at (goal.at.returns-clause-takes c).After-len-2 in
    let y = c.index.result.now in
    let within : d * length shards + e < length lanes = let t = place_before d e (length shards) (length shards) c.requires.within.0 c.requires.within.1 in omega (arith, c.requires.lanes) in
    let empty : get_or lanes (d * length shards + e) [] ≡ [] = lane_is lanes n (d * length shards + e) y at within c.index.ensures ∙ nil_from_length y (omega (arith, c.len-2.ensures, c.if-len-gt0.false)) in
    let r = c.index_mut-2.result.now in
    let r_is : r ≡ get_or shards d r = c.index_mut-2.ensures.value ∙ ap (λ k. get_or shards k r) c.from-4.ensures in
    let shard = c.requires.shards d r c.requires.within.0 in
    let room : e < length r.outbox =
    omega (arith, c.requires.within.1, c.requires.desks, ap (λ (z : ShardState). length z.outbox) r_is, shard.fit.boxes, ap (λ z. z.desks) shard.config_is) in
    rw (c.from-4.ensures, c.next_out.ensures.rest) (takes_box shards lanes d e c.requires.within.0 c.requires.within.1 c.requires.lanes none r r_is empty room)

pub returns-then-is_some-clause-shards : goal.returns-then-is_some-clause-shards
returns-then-is_some-clause-shards c =
    let shards = c.args.shards.now.items in
    let e = c.args.e in
    let s = c.index_mut.result.now in
    let t = c.take_hold.new.self in
    let s_is : s ≡ get_or shards e s = c.index_mut.ensures.value ∙ ap (λ k. get_or shards k s) c.from.ensures in
    let was = c.requires.shards e s c.requires.within.1 in
    let at : c.from.result ≡ e = c.from.ensures in
    let within : c.from.result < length shards = omega (arith, at, c.requires.within.1) in
    set_shard c.args.config shards c.from.result t within c.requires.shards (record {
      number = ap (λ (z : ShardState). z.number) c.take_hold.ensures.rest ∙ ap (λ (z : ShardState). z.number) s_is ∙ was.number ∙ sym at;
      config_is = ap (λ (z : ShardState). z.config) c.take_hold.ensures.rest ∙ ap (λ (z : ShardState). z.config) s_is ∙ was.config_is;
      fit = c.take_hold.ensures.fit;
    })
