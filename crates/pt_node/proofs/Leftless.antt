-- A node that is still has no letter left over once it is gathered.
use Rattle.std.proofs.Common.{◌≡◌, ℕ, ◌+◌, ◌*◌, ◌<◌, List, [], ◌∷◌, ◌++◌, length, get_or, None, sym, ap, ◌∙◌, length-append, arith}
use Rattle.std.proofs.lemmas.List.{get_or-map, length-map, nil_from_length}
use Rattle.pt_signal.specs.declared.letter.Letter.{Letter}
use Rattle.pt_carrier.specs.Ends.{OutEnds, InEnds}
use Rattle.pt_carrier.specs.Node.{all_posted, all_collected, entry}
use Rattle.pt_shard.specs.ShardState.{ShardState}
use Rattle.pt_shard.specs.Outbox.{held_from}
use Rattle.pt_desk.specs.DeskState.{DeskState, posted_to, collected_from}
use Rattle.pt_gathered.specs.Gathered.{GatheredState, box_at, hold_at}
use Rattle.pt_gathered.specs.Settling.{NothingLeft}
use Rattle.pt_workers.specs.Desks.{all_ends, all_shards}
use Rattle.pt_node.specs.Gathering.{Gathers}
use Rattle.pt_workers.specs.Stillness.{AreStill}

some_desk : (xs : List DeskState) (d : ℕ) → d < length xs → DeskState
some_desk [] d h = absurd (omega arith)
some_desk (x ∷ xs) d h = x

module _ (desks : List DeskState) (g : GatheredState) (gathers : Gathers desks g) (still : AreStill desks) where
  count : length g.shards ≡ length desks
  count = ap length gathers.shards ∙ length-map desks (λ (d : DeskState). d.shard)

  ends_count : length (all_ends desks) ≡ length desks
  ends_count = length-map desks (λ (d : DeskState). (d.outs, d.ins))

  module _ (d e : ℕ) (d_in : d < length desks) (e_in : e < length desks) (x : DeskState) where
    nothing_held : held_from d (hold_at g.shards e) ≡ []
    nothing_held =
        let at : hold_at g.shards e ≡ (get_or desks e x).shard.hold
        = ap (λ ss. hold_at ss e) gathers.shards
        ∙ get_or-map (λ (s : ShardState). s.hold) (all_shards desks) e x.shard None (omega (arith, e_in, length-map desks (λ (d : DeskState). d.shard)))
        ∙ ap (λ (s : ShardState). s.hold) (get_or-map (λ (d : DeskState). d.shard) desks e x x.shard e_in) in
        ap (held_from d) (at ∙ still.holds e x e_in)

    nothing_boxed : box_at g.shards d e ≡ []
    nothing_boxed =
        ap (λ ss. box_at ss d e) gathers.shards
        ∙ ap (λ ls. get_or ls e [])
        (get_or-map (λ (s : ShardState). s.outbox) (all_shards desks) d x.shard [] (omega (arith, d_in, length-map desks (λ (d : DeskState). d.shard)))
        ∙ ap (λ (s : ShardState). s.outbox) (get_or-map (λ (d : DeskState). d.shard) desks d x x.shard d_in))
        ∙ (still.ways d e d_in e_in).outbox x

    nothing_posted : get_or g.lanes (d * length g.shards + e) [] ≡ []
    nothing_posted =
        let lane = get_or g.lanes (d * length g.shards + e) [] in
        let posted : entry (all_posted (all_ends desks)) d e ≡ posted_to (get_or desks d x) e
        = ap (λ ls. get_or ls e [])
        (get_or-map (λ (p : OutEnds × InEnds). p.0.posted) (all_ends desks) d (x.outs, x.ins) [] (omega (arith, d_in, ends_count))
        ∙ ap (λ (p : OutEnds × InEnds). p.0.posted) (get_or-map (λ (d : DeskState). (d.outs, d.ins)) desks d x (x.outs, x.ins) d_in)) in
        let got : entry (all_collected (all_ends desks)) e d ≡ collected_from (get_or desks e x) d
        = ap (λ ls. get_or ls d [])
        (get_or-map (λ (p : OutEnds × InEnds). p.1.collected) (all_ends desks) e (x.outs, x.ins) [] (omega (arith, e_in, ends_count))
        ∙ ap (λ (p : OutEnds × InEnds). p.1.collected) (get_or-map (λ (d : DeskState). (d.outs, d.ins)) desks e x (x.outs, x.ins) e_in)) in
        let left = gathers.left.lanes d e (omega (arith, d_in, ends_count)) (omega (arith, e_in, ends_count)) in
        let there : get_or g.lanes (d * length (all_ends desks) + e) [] ≡ lane = ap (λ n. get_or g.lanes (d * n + e) []) (ends_count ∙ sym count) in
        let all : collected_from (get_or desks e x) d ≡ collected_from (get_or desks e x) d ++ lane
        = sym ((still.ways d e d_in e_in).lane x) ∙ sym posted ∙ left ∙ ap (λ ls. ls ++ get_or g.lanes (d * length (all_ends desks) + e) []) got
        ∙ ap (λ ls. collected_from (get_or desks e x) d ++ ls) there in
        nil_from_length lane (omega (arith, ap (λ (ls : List Letter). length ls) all, length-append (collected_from (get_or desks e x) d) lane))

  pub still_gathered : NothingLeft g
  still_gathered d e dl el =
      let d_in : d < length desks = omega (arith, dl, count) in
      let e_in : e < length desks = omega (arith, el, count) in
      let x = some_desk desks d d_in in
      λ i. nothing_held d e d_in e_in x i ++ nothing_posted d e d_in e_in x i ++ nothing_boxed d e d_in e_in x i
