-- Shards and ends that have their accounts with one another.
use Rattle.std.proofs.Common.{◌≡◌, ℕ, suc, ◌<◌, List, [], ◌∷◌, length, map, get_or, refl, sym, ap, ◌∙◌, arith}
use Rattle.pt_carrier.specs.Ends.{Place, OutEnds, InEnds}
use Rattle.pt_carrier.specs.Node.{kept}
use Rattle.pt_carrier.proofs.Meeting.{meets_still}
use Rattle.pt_shard.specs.ShardState.{ShardState}
use Rattle.pt_desk.specs.DeskState.{DeskState, IsAccounted}
use Rattle.pt_workers.specs.Desks.{AreAccounted, AreWhole, all_ends, all_shards, desk_kept}
use Rattle.pt_node.specs.Seating.{seat_in, all_seats, all_tables, sight_of}

-- each at its place
pub accounted_each : (ss : List ShardState) (ps : List (OutEnds × InEnds)) → length ss ≡ length ps
    → ((k : ℕ) (s : ShardState) (p : OutEnds × InEnds) → k < length ss → IsAccounted (get_or ss k s) (get_or ps k p).0 (get_or ps k p).1) → AreAccounted ss ps
accounted_each [] [] n h = tt
accounted_each [] (p ∷ ps) n h = absurd (omega arith)
accounted_each (s ∷ ss) [] n h = absurd (omega arith)
accounted_each (s ∷ ss) (p ∷ ps) n h = (h 0 s p (omega arith), accounted_each ss ps (omega arith) (λ k x y l. h (suc k) x y (omega arith)))

pub accounted_count : (ss : List ShardState) (ps : List (OutEnds × InEnds)) → AreAccounted ss ps → length ss ≡ length ps
accounted_count [] [] h = refl
accounted_count [] (p ∷ ps) h = absurd h
accounted_count (s ∷ ss) [] h = absurd h
accounted_count (s ∷ ss) (p ∷ ps) h = let c = accounted_count ss ps h.1 in omega arith

-- desks that are whole
pub whole_accounted : (desks : List DeskState) → AreWhole desks → AreAccounted (all_shards desks) (all_ends desks)
whole_accounted [] h = tt
whole_accounted (d ∷ ds) h = ((h 0 d (omega arith)).accounts, whole_accounted ds (λ k x l. h (suc k) x (omega arith)))

-- what a refused reunion keeps of the ends is all that the accounts read
kept_accounted : (s : ShardState) (p q : OutEnds × InEnds) → kept p ≡ kept q → IsAccounted s p.0 p.1 → IsAccounted s q.0 q.1
kept_accounted s p q k a =
    let out_place : p.0.place ≡ q.0.place = ap (λ z. z.0.0) k in
    let posted : p.0.posted ≡ q.0.posted = ap (λ z. z.0.1) k in
    let in_place : p.1.place ≡ q.1.place = ap (λ z. z.1.0) k in
    let collected : p.1.collected ≡ q.1.collected = ap (λ z. z.1.2) k in
    record {
      out_number = ap (λ (z : Place). z.number) (sym out_place) ∙ a.out_number;
      in_number = ap (λ (z : Place). z.number) (sym in_place) ∙ a.in_number;
      out_desks = ap (λ (z : Place). length z.rings) (sym out_place) ∙ a.out_desks;
      in_desks = ap (λ (z : Place). length z.rings) (sym in_place) ∙ a.in_desks;
      posted_desks = ap length (sym posted) ∙ a.posted_desks;
      collected_desks = ap length (sym collected) ∙ a.collected_desks;
      posted = λ e h. rw (← posted) (a.posted e h);
      collected = λ d h. rw (← collected) (a.collected d h);
      own = meets_still p.0 q.0 p.1 q.1 (sym out_place) (sym in_place) a.own;
    }

pub accounted_kept : (ss : List ShardState) (ps qs : List (OutEnds × InEnds)) → map kept qs ≡ map kept ps → AreAccounted ss ps → AreAccounted ss qs
accounted_kept [] [] [] k h = tt
accounted_kept [] [] (q ∷ qs) k h = absurd cc
accounted_kept [] (p ∷ ps) qs k h = absurd h
accounted_kept (s ∷ ss) [] qs k h = absurd h
accounted_kept (s ∷ ss) (p ∷ ps) [] k h = absurd cc
accounted_kept (s ∷ ss) (p ∷ ps) (q ∷ qs) k h =
    let first : kept p ≡ kept q = cc in
    let rest : map kept qs ≡ map kept ps = cc in
    (kept_accounted s p q first h.0, accounted_kept ss ps qs rest h.1)

-- the desks made of the same shards, of the same seats and tables and of ends that were kept are kept
pub desks_kept : (new old : List DeskState) → all_shards new ≡ all_shards old → all_seats new ≡ all_seats old → all_tables new ≡ all_tables old → map kept (all_ends new) ≡ map kept (all_ends old) → map desk_kept new ≡ map desk_kept old
desks_kept [] [] s q t k = refl
desks_kept [] (d ∷ ds) s q t k = absurd cc
desks_kept (n ∷ ns) [] s q t k = absurd cc
desks_kept (n ∷ ns) (d ∷ ds) s q t k =
    let shard : n.shard ≡ d.shard = cc in
    let seat : seat_in n ≡ seat_in d = cc in
    let table : n.sight.before ≡ d.sight.before = cc in
    let sight : n.sight ≡ d.sight = λ i. sight_of (seat i) (table i) in
    let ends : kept (n.outs, n.ins) ≡ kept (d.outs, d.ins) = cc in
    let shards : all_shards ns ≡ all_shards ds = cc in
    let seats : all_seats ns ≡ all_seats ds = cc in
    let tables : all_tables ns ≡ all_tables ds = cc in
    let all : map kept (all_ends ns) ≡ map kept (all_ends ds) = cc in
    let first : desk_kept n ≡ desk_kept d = λ i. (shard i, sight i, (ends i).0, (ends i).1) in
    ap (λ z. z ∷ map desk_kept ns) first ∙ ap (λ z. desk_kept d ∷ z) (desks_kept ns ds shards seats tables all)
