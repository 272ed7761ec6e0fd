-- `reunite`: its clauses `node` and `ok`, and what its calls of `make_room` and `empty_all` ask.
use Rattle.std.proofs.Common.{◌≡◌, ◌+◌, ◌*◌, [], ◌++◌, length, map, get_or, arith, ap, sym, subst, ◌∙◌}
use Rattle.std.proofs.lemmas.List.{length-map}
use Rattle.pt_carrier.specs.Node.{places, kept, IsNode, lists, entry}
use Rattle.pt_carrier.specs.Reunion.{all_known}
use Rattle.pt_carrier.proofs.Lists.{written}
use Rattle.pt_carrier.proofs.Places.{kept_places, kept_posted, kept_collected, kept_count}
use Rattle.pt_carrier.proofs.reunion.reunite.Goals as goal

pub make_room-requires : goal.make_room-requires
make_room-requires c =
    let old = c.args.pairs.items in
    let new = c.look.new.pairs in
    let same : map kept new ≡ map kept old = c.look.ensures.kept ∙ ap (map kept) c.deref_mut.ensures.value in
    let is : c.deref.result.now ≡ new = c.deref.ensures.value ∙ written old new c.args.pairs.len (kept_count new old same) c.args.pairs.ok.0 in
    subst (λ ps. IsNode (map places ps)) (sym is) (subst IsNode (sym (kept_places new old same)) c.requires)

pub empty_all-requires-clause-node : goal.empty_all-requires-clause-node
empty_all-requires-clause-node c =
    let old = c.args.pairs.items in
    let new = c.look.new.pairs in
    let same : map kept new ≡ map kept old = c.look.ensures.kept ∙ ap (map kept) c.deref_mut.ensures.value in
    rw (written old new c.args.pairs.len (kept_count new old same) c.args.pairs.ok.0) (subst IsNode (sym (kept_places new old same)) c.requires)

pub returns-in-Ok-clause-ok : goal.returns-in-Ok-clause-ok
returns-in-Ok-clause-ok c =
    let old = c.args.pairs.items in
    let new = c.look.new.pairs in
    let same : map kept new ≡ map kept old = c.look.ensures.kept ∙ ap (map kept) c.deref_mut.ensures.value in
    let count = kept_count new old same in
    let is : c.deref.result.now ≡ new = c.deref.ensures.value ∙ written old new c.args.pairs.len count c.args.pairs.ok.0 in
    let left = c.empty_all.new.left in
    let filled : length left ≡ length c.in-Ok.lanes.items = c.empty_all.auto.left ∙ ap length c.deref_mut-in-Ok.ensures.value in
    let desks : length left ≡ length old * length old = filled ∙ sym c.in-Ok.lanes.ok.0 ∙ c.in-Ok.ensures.count ∙ ap (λ ps. length ps * length ps) is ∙ ap (λ n. n * n) count in
    let whole = rw c.deref_mut.ensures.value at c.look.ensures.whole in
    let rest = written old new c.args.pairs.len count c.args.pairs.ok.0 in
    rw (written c.in-Ok.lanes.items left c.in-Ok.lanes.len filled c.in-Ok.lanes.ok.0) (record {
      count = length-map left (λ v. v.items) ∙ desks;
      lanes = λ d e l m.
          let left_is : get_or (lists left) (d * length old + e) [] ≡ entry (all_known new) e d =
          ap (λ n. get_or (lists left) (d * n + e) []) (sym c.args.pairs.ok.0)
          ∙ c.empty_all.ensures d e (omega (arith, l, c.args.pairs.ok.0)) (omega (arith, m, c.args.pairs.ok.0))
          ∙ ap (λ ps. entry (all_known ps) e d) rest in
          ap (λ q. entry q d e) (sym (kept_posted new old same))
          ∙ whole d e l m
          ∙ (λ i. entry (kept_collected new old same i) e d ++ sym left_is i);
    })
