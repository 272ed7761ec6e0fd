-- Settling a node in which nothing is left over changes nothing.
use Rattle.std.proofs.Common.{◌≡◌, ℕ, zero, suc, ◌<◌, ◌≤◌, [], length, ◌∙◌, ap, subst, arith, le_refl}
use Rattle.pt_shard.specs.declared.stop.Stop.{Stop}
use Rattle.pt_gathered.specs.Gathered.{GatheredState, over_in}
use Rattle.pt_gathered.specs.Settling.{NothingLeft, NothingTo, Runs}
use Rattle.pt_gathered.specs.Order.{InTurn, Comes, LaneComes, DeskComes, Pass, Passes, LaneStops, DeskStops, PassStops, PassesStop}

still_in_turn : (Does : ℕ → GatheredState → GatheredState → Type 0) (n : ℕ) (old new : GatheredState) → ((k : ℕ) (x : GatheredState) → k < n → Does k old x → x ≡ old) → InTurn Does n old new → new ≡ old
still_in_turn Does zero old new h c = c
still_in_turn Does (suc n) old new h c =
    let before : c.0 ≡ old = still_in_turn Does n old c.0 (λ k x l d. h k x (omega arith) d) c.1 in
    h n new (omega arith) (subst (λ z. Does n z new) before c.2)

still_lane : (e d : ℕ) (old new : GatheredState) → over_in old.shards old.lanes d e ≡ [] → LaneComes e d old new → new ≡ old
still_lane e d old new none c = subst (λ xs. Comes d e (length xs) old new) none c

still_lanes : (n m e : ℕ) (old new : GatheredState) → n ≤ m → NothingTo m e old → InTurn (LaneComes e) n old new → new ≡ old
still_lanes n m e old new le none c = still_in_turn (LaneComes e) n old new (λ d x l h. still_lane e d old x (none d (omega arith)) h) c

-- of desks that the node has
module _ (n : ℕ) (old : GatheredState) (few : n ≤ length old.shards) (none : NothingLeft old) where
  to : (e : ℕ) → e < n → NothingTo n e old
  to e l d k = none d e (omega arith) (omega arith)

  still_desks : (m : ℕ) (new : GatheredState) → m ≤ n → InTurn (DeskComes n) m old new → new ≡ old
  still_desks m new le c = still_in_turn (DeskComes n) m old new (λ e x l h. still_lanes n n e old x (omega arith) (to e (omega arith)) h) c

  pub still_passes : (count : ℕ) (new : GatheredState) → Passes n count old new → new ≡ old
  still_passes count new c = still_in_turn (Pass n) count old new (λ k x l h. still_desks n x (omega arith) h) c

  -- no receipt is refused, since there is none
  lane_goes_on : (e d : ℕ) (stop : Stop) (mid new : GatheredState) → d < n → e < n → mid ≡ old → LaneStops e d stop mid new → ⊥
  lane_goes_on e d stop mid new d_in e_in is s =
      let empty : length (over_in mid.shards mid.lanes d e) ≡ 0 = ap (λ (g : GatheredState). length (over_in g.shards g.lanes d e)) is ∙ ap length (to e e_in d d_in) in
      let more = s.before_end in
      absurd (omega arith)

  desk_goes_on : (e : ℕ) (stop : Stop) (mid new : GatheredState) → e < n → mid ≡ old → DeskStops n e stop mid new → ⊥
  desk_goes_on e stop mid new e_in is s =
      let within = s.within in
      lane_goes_on e s.at stop s.mid new s.within e_in (still_lanes s.at n e old s.mid (omega arith) (to e e_in) (subst (λ z. InTurn (LaneComes e) s.at z s.mid) is s.done)) s.stops

  pass_goes_on : (stop : Stop) (mid new : GatheredState) → mid ≡ old → PassStops n stop mid new → ⊥
  pass_goes_on stop mid new is s =
      let within = s.within in
      desk_goes_on s.at stop s.mid new s.within (still_desks s.at s.mid (omega arith) (subst (λ z. InTurn (DeskComes n) s.at z s.mid) is s.done)) s.stops

  pub passes_go_on : (stop : Stop) (new : GatheredState) → PassesStop n stop old new → ⊥
  passes_go_on stop new s = pass_goes_on stop s.mid new (still_passes s.count s.mid s.done) s.stops

pub none_handled : (g : GatheredState) (n : ℕ) → Runs g 0 g n → n ≡ 0
none_handled g n runs = let c = runs.counts in omega arith

-- the settled node, and the count
pub nothing_new : (old new : GatheredState) (n : ℕ) → NothingLeft old → (count : ℕ) × Passes (length old.shards) count old new → Runs old 0 new n → (new ≡ old) × (n ≡ 0)
nothing_new old new n none order runs =
    let same = still_passes (length old.shards) old (le_refl (length old.shards)) none order.0 new order.1 in
    (same, none_handled old n (subst (λ z. Runs old 0 z n) same runs))
