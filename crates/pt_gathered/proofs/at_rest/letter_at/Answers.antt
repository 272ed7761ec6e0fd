-- `letter_at`: its contract.
use Rattle.std.proofs.Common.{◌≡◌, ◌+◌, ◌-◌, ◌*◌, ◌<◌, ◌≤◌, [], length, get_or, sym, ap, ◌∙◌, arith}
use Rattle.std.specs.Prelude.{slice_get}
use Rattle.pt_carrier.proofs.Rooms.{place_before}
use Rattle.pt_shard.specs.Outbox.{held_from}
use Rattle.pt_gathered.specs.Gathered.{hold_at, box_at}
use Rattle.pt_gathered.proofs.Stepping.{box_is, lane_is}
use Rattle.pt_gathered.proofs.Places.{held_one, held_none, in_lane_at, in_box_at}
use Rattle.pt_gathered.proofs.at_rest.letter_at.Goals as goal
use Rattle.pt_gathered.proofs.at_rest.letter_at.Goals.{After-len, in-Some+else-place-eq0, in_default}

-- the place among the letters behind the held one
place_behind : (c : After-len) → (length (held_from c.args.d (hold_at c.args.shards.now c.args.e)) ≤ c.args.place) × (c.match-held_from.place ≡ c.args.place - length (held_from c.args.d (hold_at c.args.shards.now c.args.e)))
place_behind c = elim c.match-held_from.branch [
  | in-Some+else-place-eq0 w ↦
      let one = held_one c.args.d (hold_at c.args.shards.now c.args.e) w.in-Some.letter (sym w.in-Some.is ∙ c.held_from.ensures) in
      (omega (arith, one, w.if-place-eq0.false), omega (arith, one, w.place-is))
  | in_default w ↦
      let none = ap length (held_none c.args.d (hold_at c.args.shards.now c.args.e) (sym w.in_default.is ∙ c.held_from.ensures)) in
      (omega (arith, none), omega (arith, none, w.place-is))
]

-- the lane between the desks
the_lane : (c : After-len) → get_or c.args.lanes.now (c.args.d * length c.args.shards.now + c.args.e) [] ≡ c.index-lanes-from.result
the_lane c =
    let n = length c.args.shards.now in
    let within : c.args.d * n + c.args.e < length c.args.lanes.now = let t = place_before c.args.d c.args.e n n c.requires.within.0 c.requires.within.1 in omega (arith, c.requires.lanes) in
    lane_is c.args.lanes.now _ (c.args.d * n + c.args.e) c.index-lanes-from.result (ap (λ k. k * n + c.from-2.result) c.from.ensures ∙ ap (λ k. c.args.d * n + k) c.from-2.ensures) within c.index-lanes-from.is

pub returns-then-place-len : goal.returns-then-place-len
returns-then-place-len c =
    let place = place_behind (goal.at.returns-then-place-len c).After-len in
    let lane = the_lane (goal.at.returns-then-place-len c).After-len in
    c.at.ensures ∙ ap (λ z. slice_get z c.match-held_from.place) (sym lane)
    ∙ in_lane_at (held_from c.args.d (hold_at c.args.shards.now c.args.e)) (get_or c.args.lanes.now (c.args.d * length c.args.shards.now + c.args.e) []) (box_at c.args.shards.now c.args.d c.args.e) c.args.place c.match-held_from.place place.0 place.1 (omega (arith, ap length lane, c.len.ensures, c.if-place-len.true))

pub returns : goal.returns
returns c =
    let place = place_behind (goal.at.returns c).After-len in
    let lane = the_lane (goal.at.returns c).After-len in
    let r = c.index-shards-from.result in
    let r_is : r ≡ get_or c.args.shards.now c.args.d r = c.index-shards-from.is ∙ ap (λ k. get_or c.args.shards.now k r) c.from-3.ensures in
    let box = box_at c.args.shards.now c.args.d c.args.e in
    let waits = get_or c.args.lanes.now (c.args.d * length c.args.shards.now + c.args.e) [] in
    let count : length waits ≡ length c.index-lanes-from.result = ap length lane in
    let at : c.match-held_from.place - c.len-2.result ≡ c.match-held_from.place - length waits = omega (arith, count, c.len-2.ensures) in
    c.out_at.ensures ∙ ap (λ z. slice_get z (c.match-held_from.place - c.len-2.result)) (sym (box_is c.args.shards.now c.args.d c.args.e r c.requires.within.0 r_is))
    ∙ ap (slice_get box) at
    ∙ in_box_at (held_from c.args.d (hold_at c.args.shards.now c.args.e)) waits box c.args.place c.match-held_from.place place.0 place.1 (omega (arith, count, c.len.ensures, c.if-place-len.false))
