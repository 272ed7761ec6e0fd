-- `pair_up`: its clauses `node`, `count` and `new`, and its loop over `d`, and what its call of `new` asks.
use Rattle.std.proofs.Common.{◌≡◌, ◌<◌, [], length, get_or, arith, ap, ◌∙◌}
use Rattle.pt_carrier.specs.Ends.{OutEnds, InEnds, out_ends, in_ends}
use Rattle.pt_carrier.specs.Node.{lists}
use Rattle.pt_signal.proofs.Lists.{get_or-map_set_other}
use Rattle.pt_carrier.proofs.Lists.{lists_read, each_push}
use Rattle.pt_carrier.proofs.Making.{outs_made, ins_made, IsNode-made, IsNew-made}
use Rattle.pt_carrier.proofs.opening.pair_up.Goals as goal

pub new-outs-requires : goal.new-outs-requires
new-outs-requires c =
    let inv = c.loop-d.invariant in
    let at = c.from-in-loop-d.ensures in
    let within : c.from-in-loop-d.result < length c.loop-d.rows.items = omega (arith, at, c.loop-d.rows.ok.0, inv.row_desks, c.loop-d-test.true) in
    let row : c.replace.result.items ≡ get_or (lists c.args.rows.items) c.loop-d.d [] = ap (λ v. v.items) c.replace.ensures.value ∙ lists_read c.loop-d.rows.items _ _ within c.index_mut.ensures.value ∙ ap (λ i. get_or (lists c.loop-d.rows.items) i []) at ∙ inv.rows c.loop-d.d (omega arith) in
    rw row (outs_made c.args.desks c.args.capacity _ _ c.requires.lanes c.requires.desks c.loop-d.d c.loop-d-test.true)

pub new-ins-requires : goal.new-ins-requires
new-ins-requires c =
    let inv = c.loop-d.invariant in
    let at = c.from-in-loop-d-2.ensures in
    let within : c.from-in-loop-d-2.result < length c.loop-d.columns.items = omega (arith, at, c.loop-d.columns.ok.0, inv.column_desks, c.loop-d-test.true) in
    let column : c.replace-in-loop-d.result.items ≡ get_or (lists c.args.columns.items) c.loop-d.d [] = ap (λ v. v.items) c.replace-in-loop-d.ensures.value ∙ lists_read c.loop-d.columns.items _ _ within c.index_mut-in-loop-d.ensures.value ∙ ap (λ i. get_or (lists c.loop-d.columns.items) i []) at ∙ inv.columns c.loop-d.d (omega arith) in
    rw column (ins_made c.args.desks c.args.capacity _ _ c.requires.lanes c.requires.desks c.loop-d.d c.loop-d-test.true)

pub loop-d-preserved : goal.loop-d-preserved
loop-d-preserved c =
    let inv = c.loop-d.invariant in
    let d = c.loop-d.d in
    let at = c.from-in-loop-d.ensures in
    let at_ins = c.from-in-loop-d-2.ensures in
    let within : c.from-in-loop-d.result < length c.loop-d.rows.items = omega (arith, at, c.loop-d.rows.ok.0, inv.row_desks, c.loop-d-test.true) in
    let row : c.replace.result.items ≡ get_or (lists c.args.rows.items) d [] = ap (λ v. v.items) c.replace.ensures.value ∙ lists_read c.loop-d.rows.items _ _ within c.index_mut.ensures.value ∙ ap (λ i. get_or (lists c.loop-d.rows.items) i []) at ∙ inv.rows d (omega arith) in
    let within_ins : c.from-in-loop-d-2.result < length c.loop-d.columns.items = omega (arith, at_ins, c.loop-d.columns.ok.0, inv.column_desks, c.loop-d-test.true) in
    let column : c.replace-in-loop-d.result.items ≡ get_or (lists c.args.columns.items) d [] = ap (λ v. v.items) c.replace-in-loop-d.ensures.value ∙ lists_read c.loop-d.columns.items _ _ within_ins c.index_mut-in-loop-d.ensures.value ∙ ap (λ i. get_or (lists c.loop-d.columns.items) i []) at_ins ∙ inv.columns d (omega arith) in
    record {
      row_desks = inv.row_desks;
      column_desks = inv.column_desks;
      count = omega (arith, c.push_reserved.ensures.len, inv.count);
      room = omega (arith, c.push_reserved.ensures.capacity, inv.room);
      rows = λ k l. get_or-map_set_other (λ v. v.items) c.loop-d.rows.items _ k _ [] (λ q. omega arith) ∙ inv.rows k (omega arith);
      columns = λ k l. get_or-map_set_other (λ v. v.items) c.loop-d.columns.items _ k _ [] (λ q. omega arith) ∙ inv.columns k (omega arith);
      pairs = rw c.push_reserved.ensures.items (λ k p l.
          each_push (λ k (q : OutEnds × InEnds). q ≡ (out_ends k (get_or (lists c.args.rows.items) k []), in_ends k 0 (get_or (lists c.args.columns.items) k []))) c.loop-d.pairs.items (c.new-outs.result, c.new-ins.result) p d (omega (arith, c.loop-d.pairs.ok.0, inv.count)) (λ k h. inv.pairs k p h)
          (λ i. ((c.new-outs.ensures ∙ ap (out_ends d) row) i, (c.new-ins.ensures ∙ ap (in_ends d 0) column) i)) k l);
    }

pub returns-clause-node : goal.returns-clause-node
returns-clause-node c =
    let inv = c.loop-d.invariant in
    let all : c.loop-d.d ≡ c.args.desks = omega (arith, c.loop-d-test.false, c.loop-d.auto.d-end) in
    IsNode-made c.args.desks c.args.capacity _ _ c.loop-d.pairs.items c.requires.lanes (omega (arith, c.loop-d.pairs.ok.0, inv.count, all)) (λ k p l. inv.pairs k p (omega (arith, all)))

pub returns-clause-count : goal.returns-clause-count
returns-clause-count c = omega (arith, c.loop-d.invariant.count, c.loop-d-test.false, c.loop-d.auto.d-end)

pub returns-clause-new : goal.returns-clause-new
returns-clause-new c =
    let inv = c.loop-d.invariant in
    let all : c.loop-d.d ≡ c.args.desks = omega (arith, c.loop-d-test.false, c.loop-d.auto.d-end) in
    IsNew-made c.args.desks c.args.capacity _ _ c.loop-d.pairs.items c.requires.lanes (omega (arith, c.loop-d.pairs.ok.0, inv.count, all)) (λ k p l. inv.pairs k p (omega (arith, all)))
