-- `empty_all`: its clause `room`, and its loop over `outs`, and what its call of `empty_into` asks.
use Rattle.std.proofs.Common.{◌≡◌, ◌≢◌, ⊎_elim, ◌+◌, ◌*◌, ◌<◌, [], ◌∷◌, ◌++◌, length, take, get_or, arith, ap, sym, refl, ◌∙◌, vec_len}
use Rattle.std.proofs.lemmas.List.{get_or_push, get_or-take, take-take, take_at, length_push}
use Rattle.std.proofs.lemmas.Bool.{cases_eq}
use Rattle.pt_carrier.specs.Ends.{OutEnds, InEnds}
use Rattle.pt_carrier.specs.Node.{places, entry}
use Rattle.pt_carrier.specs.Reunion.{all_known}
use Rattle.pt_signal.proofs.Lists.{get_or-map_read}
use Rattle.pt_carrier.proofs.Places.{in_lanes, in_number}
use Rattle.pt_carrier.proofs.Rooms.{HasRoom-same, room_list}
use Rattle.pt_carrier.proofs.reunion.empty_all.Goals as goal

pub empty_into-requires-clause-room : goal.empty_into-requires-clause-room
empty_into-requires-clause-room c =
    let inv = c.loop-outs.invariant in
    let pairs = c.args.pairs.items in
    let n = vec_len c.args.pairs in
    let rest = c.pop.new.self.items in
    let e = length rest in
    let q : OutEnds × InEnds = (c.in-Some.outs, c.in-Some.ins) in
    let items : c.loop-outs.pairs.items ≡ rest ++ q ∷ [] = c.in-Some.ensures.items in
    let below : e < vec_len c.loop-outs.pairs = omega (arith, ap length items, length_push rest q, c.loop-outs.pairs.ok.0) in
    let within : e < length pairs = omega (arith, below, inv.count, c.args.pairs.ok.0) in
    let q_is : q ≡ get_or pairs e q = sym (get_or_push rest q q e refl) ∙ ap (λ xs. get_or xs e q) (sym items ∙ inv.rest) ∙ get_or-take (vec_len c.loop-outs.pairs) pairs e q below in
    let number = in_number places pairs c.requires.node e q within q_is in
    let rings : length c.in-Some.ins.place.rings ≡ n = in_lanes places pairs c.requires.node e q within q_is ∙ sym c.args.pairs.ok.0 in
    rw (rings, number) (λ d l.
    HasRoom-same (entry (all_known pairs) e d) (get_or q.1.known d []) c.args.left.now c.loop-outs.left (d * n + e)
    c.loop-outs.auto.left
    (inv.todo d e l below)
    (ap (λ l. length (get_or l d [])) (sym (get_or-map_read (λ (p : OutEnds × InEnds). p.1.known) pairs e q [] within q_is)))
    (c.requires.room d e l (omega (arith, below, inv.count))))

pub loop-outs-preserved : goal.loop-outs-preserved
loop-outs-preserved c =
    let inv = c.loop-outs.invariant in
    let pairs = c.args.pairs.items in
    let n = vec_len c.args.pairs in
    let rest = c.pop.new.self.items in
    let e = length rest in
    let q : OutEnds × InEnds = (c.in-Some.outs, c.in-Some.ins) in
    let items : c.loop-outs.pairs.items ≡ rest ++ q ∷ [] = c.in-Some.ensures.items in
    let is_e : vec_len c.pop.new.self ≡ e = c.pop.new.self.ok.0 in
    let below : e < vec_len c.loop-outs.pairs = omega (arith, ap length items, length_push rest q, c.loop-outs.pairs.ok.0) in
    let within : e < length pairs = omega (arith, below, inv.count, c.args.pairs.ok.0) in
    let q_is : q ≡ get_or pairs e q = sym (get_or_push rest q q e refl) ∙ ap (λ xs. get_or xs e q) (sym items ∙ inv.rest) ∙ get_or-take (vec_len c.loop-outs.pairs) pairs e q below in
    let number : q.1.place.number ≡ e = in_number places pairs c.requires.node e q within q_is in
    let rings : length q.1.place.rings ≡ n = in_lanes places pairs c.requires.node e q within q_is ∙ sym c.args.pairs.ok.0 in
    let one : vec_len c.loop-outs.pairs ≡ e + 1 = omega (arith, ap length items, length_push rest q, c.loop-outs.pairs.ok.0) in
    let known = rw (rings, number) at c.empty_into.ensures.known in
    let others = rw (rings, number) at c.empty_into.ensures.others in
    rw is_e (record {
      count = omega (arith, inv.count, below);
      rest = sym (take_at rest (q ∷ []) e refl) ∙ ap (take e) (sym items ∙ inv.rest) ∙ take-take e (vec_len c.loop-outs.pairs) pairs (omega arith);
      todo = λ d k l m. others d k (omega (arith, m, below, inv.count)) (λ w. omega arith) ∙ inv.todo d k l (omega (arith, m, below));
      done = λ d k l low high. ⊎_elim
          (λ (same : k ≡ e). rw same (known d l ∙ sym (ap (λ l. get_or l d []) (get_or-map_read (λ (p : OutEnds × InEnds). p.1.known) pairs e q [] within q_is))))
          (λ (apart : k ≢ e). sym (room_list c.empty_into.new.left (d * n + k)) ∙ ap (λ r. r.0) (others d k high apart) ∙ room_list c.loop-outs.left (d * n + k) ∙ inv.done d k l (omega (arith, apart, one)) high)
          (cases_eq k e);
    })
