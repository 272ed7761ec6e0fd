-- `make_room`: its loop over `e` and `d`, and what its call of `known` asks.
use Rattle.std.proofs.Common.{◌≡◌, ◌+◌, ◌*◌, [], ◌∷◌, ◌++◌, length, get_or, arith, ap, below_more}
use Rattle.pt_carrier.specs.Ends.{OutEnds, InEnds}
use Rattle.pt_carrier.specs.Node.{places, entry}
use Rattle.pt_carrier.specs.Reunion.{VectorHasRoom, all_known}
use Rattle.pt_signal.proofs.Lists.{get_or-map_read}
use Rattle.pt_carrier.proofs.Places.{in_lanes}
use Rattle.pt_carrier.proofs.Rooms.{HasRoom-before, HasRoom-push, next_row}
use Rattle.pt_carrier.proofs.reunion.make_room.Goals as goal

pub known-requires : goal.known-requires
known-requires c =
    let pairs = c.args.pairs.now in
    let e = c.loop-e.e in
    let q = get_or pairs e c.index-pairs-e.result in
    let q_is : q ≡ get_or pairs e q = ap (λ x. get_or pairs e x) c.index-pairs-e.is in
    omega (arith, in_lanes places pairs c.requires e q c.loop-e-test.true q_is, c.loop-d-test.true)

pub loop-e-preserved : goal.loop-e-preserved
loop-e-preserved c =
    let pairs = c.args.pairs.now in
    let inv = c.loop-e.invariant in
    let d = c.loop-d.d in
    let e = c.loop-e.e in
    let lanes = c.loop-e.lanes.items in
    let v = c.in_ok-with_capacity.field-0 in
    let q = get_or pairs e c.index-pairs-e.result in
    let q_is : q ≡ get_or pairs e q = ap (λ x. get_or pairs e x) c.index-pairs-e.is in
    let column = get_or-map_read (λ (p : OutEnds × InEnds). p.1.known) pairs e q [] c.loop-e-test.true q_is in
    let known : entry (all_known pairs) e d ≡ get_or q.1.known d [] = ap (λ l. get_or l d []) column in
    rw c.in_ok-push.ensures.items (record {
      count = omega (arith, c.in_ok-push.ensures.len, inv.count);
      room = λ i j l m. HasRoom-before (entry (all_known pairs) j i) lanes v (i * length pairs + j) (inv.room i j l m);
      row = below_more (λ j. VectorHasRoom (entry (all_known pairs) j d) (lanes ++ v ∷ []) (d * length pairs + j)) e
          (λ j m. HasRoom-before (entry (all_known pairs) j d) lanes v (d * length pairs + j) (inv.row j m))
          (HasRoom-push (entry (all_known pairs) e d) lanes v (d * length pairs + e) (omega (arith, c.loop-e.lanes.ok.0, inv.count)) c.in_ok-with_capacity.ensures.items
          (omega (arith, c.in_ok-with_capacity.ensures.exact, c.known.ensures, ap length known)));
    })

pub loop-d-preserved : goal.loop-d-preserved
loop-d-preserved c =
    let pairs = c.args.pairs.now in
    let inv = c.loop-e.invariant in
    let d = c.loop-d.d in
    let all : c.loop-e.e ≡ length pairs = omega (arith, c.loop-e-test.false, c.loop-e.auto.e-end) in
    record {
      count = omega (arith, inv.count, all, next_row d (length pairs));
      room = λ i j l m. below_more (λ i. VectorHasRoom (entry (all_known pairs) j i) c.loop-e.lanes.items (i * length pairs + j)) d (λ i h. inv.room i j h m) (inv.row j (omega (arith, all))) i l;
    }
