-- Shards and the seats that are theirs.
use Rattle.std.proofs.Common.{◌≡◌, ℕ, zero, suc, ◌+◌, ◌<◌, List, [], ◌∷◌, length, map, get_or, refl, sym, ap, ◌∙◌, subst, arith}
use Rattle.std.proofs.lemmas.Simd.{map-map}
use Rattle.atomic_table.specs.Seated.{TableId}
use Rattle.pt_signal.specs.declared.pid.Pid.{Pid}
use Rattle.pt_directory.specs.Views.{up_from}
use Rattle.pt_directory.specs.Seats.{DirectoryState, SeatState, reopened_seat}
use Rattle.pt_accounts.specs.DeskLives.{DeskTable}
use Rattle.pt_signal.specs.declared.config.Config.{Config}
use Rattle.pt_shard.specs.ShardState.{ShardState}
use Rattle.pt_shard.specs.Opening.{fresh_shard}
use Rattle.pt_desk.specs.DeskState.{DeskState}
use Rattle.pt_node.proofs.FreshSeat.{fresh_seated as fresh_seated_desk}
use Rattle.pt_workers.specs.Desks.{AreWhole, all_shards}
use Rattle.pt_node.specs.Opening.{AreFreshShards, AreFreshTables}
use Rattle.pt_node.specs.Seating.{Seated, all_seats, all_tables, IsSeatOf, AreSeated, AreFreshSeats, AreOf}

-- each at its place
pub seated_each : (ss : List ShardState) (ps : List Seated) (ts : List DeskTable) → length ss ≡ length ps → length ss ≡ length ts
    → ((k : ℕ) (s : ShardState) (p : Seated) (t : DeskTable) → k < length ss → IsSeatOf (get_or ss k s) (get_or ps k p) (get_or ts k t)) → AreSeated ss ps ts
seated_each [] [] [] n m h = tt
seated_each [] [] (t ∷ ts) n m h = absurd (omega arith)
seated_each [] (p ∷ ps) ts n m h = absurd (omega arith)
seated_each (s ∷ ss) [] ts n m h = absurd (omega arith)
seated_each (s ∷ ss) (p ∷ ps) [] n m h = absurd (omega arith)
seated_each (s ∷ ss) (p ∷ ps) (t ∷ ts) n m h = (h 0 s p t (omega arith), seated_each ss ps ts (omega arith) (omega arith) (λ k x y z l. h (suc k) x y z (omega arith)))

pub seated_count : (ss : List ShardState) (ps : List Seated) (ts : List DeskTable) → AreSeated ss ps ts → (length ss ≡ length ps) × (length ss ≡ length ts)
seated_count [] [] [] h = (refl, refl)
seated_count [] [] (t ∷ ts) h = absurd h
seated_count [] (p ∷ ps) ts h = absurd h
seated_count (s ∷ ss) [] ts h = absurd h
seated_count (s ∷ ss) (p ∷ ps) [] h = absurd h
seated_count (s ∷ ss) (p ∷ ps) (t ∷ ts) h = let c = seated_count ss ps ts h.1 in (omega (arith, c.0), omega (arith, c.1))

-- desks that are whole
pub whole_seated : (desks : List DeskState) → AreWhole desks → AreSeated (all_shards desks) (all_seats desks) (all_tables desks)
whole_seated [] h = tt
whole_seated (d ∷ ds) h = (((h 0 d (omega arith)).seated, refl), whole_seated ds (λ k x l. h (suc k) x (omega arith)))

-- desks of one node
pub of_one : (name : TableId) (desks : List DeskState) → ((d : ℕ) (x : DeskState) → d < length desks → (get_or desks d x).sight.directory.name ≡ name) → AreOf name (all_seats desks)
of_one name [] h = tt
of_one name (d ∷ ds) h = let e = h 0 d (omega arith) in ((e, e), of_one name ds (λ k x l. h (suc k) x (omega arith)))

-- a new node's seats ------------------------------------------------------------------

pub at_from : {X : Type 0} (f : ℕ → X) (a n k : ℕ) (x : X) → k < n → get_or (map f (up_from a n)) k x ≡ f (a + k)
at_from f a zero k x h = absurd (omega arith)
at_from f a (suc n) zero x h = let e : a ≡ a + 0 = omega arith in ap f e
at_from f a (suc n) (suc k) x h = let e : suc a + k ≡ a + suc k = omega arith in at_from f (suc a) n k x (omega arith) ∙ ap f e

pub count_from : {X : Type 0} (f : ℕ → X) (a n : ℕ) → length (map f (up_from a n)) ≡ n
count_from f a zero = refl
count_from f a (suc n) = let c = count_from f (suc a) n in omega arith

-- each beside its directory
pub beside_directory : (ended : List (Pid × ℕ)) (d e : DirectoryState) (seats : List SeatState) (n : ℕ) → d ≡ e → seats ≡ map (reopened_seat e.name ended) (up_from 0 n)
    → map {B = Seated} (λ s. (d, s)) seats ≡ map {B = Seated} (λ k. (d, reopened_seat d.name ended k)) (up_from 0 n)
beside_directory ended d e seats n same are =
    let beside : SeatState → Seated = λ s. (d, s) in
    ap (map beside) (are ∙ ap (λ (z : DirectoryState). map (reopened_seat z.name ended) (up_from 0 n)) (sym same)) ∙ map-map beside (reopened_seat d.name ended) (up_from 0 n)

pub late_beside : (d : DirectoryState) (f : ℕ → SeatState) (seats : List SeatState) (n : ℕ) → seats ≡ map f (up_from 0 n) → map {B = Seated} (λ s. (d, s)) seats ≡ map {B = Seated} (λ k. (d, f k)) (up_from 0 n)
late_beside d f seats n are = let beside : SeatState → Seated = λ s. (d, s) in ap (map beside) are ∙ map-map beside f (up_from 0 n)

module _ (config : Config) (ended : List (Pid × ℕ)) (seats : List Seated) (are : AreFreshSeats config ended seats) where
  pub seat_count : length seats ≡ config.desks
  seat_count = ap length are.all ∙ count_from (λ n. (are.directory, reopened_seat are.directory.name ended n)) 0 config.desks

  pub fresh_seat : (k : ℕ) (p : Seated) → k < config.desks → get_or seats k p ≡ (are.directory, reopened_seat are.directory.name ended k)
  fresh_seat k p h =
      let e : 0 + k ≡ k = omega arith in
      ap (λ z. get_or z k p) are.all ∙ at_from (λ n. (are.directory, reopened_seat are.directory.name ended n)) 0 config.desks k p h
      ∙ ap (λ n. (are.directory, reopened_seat are.directory.name ended n)) e

module _ (config : Config) (seats : List Seated) (are : AreFreshSeats config [] seats) where
  pub fresh_seated : (shards : List ShardState) (tables : List DeskTable) → AreFreshShards config shards → AreFreshTables config tables → AreSeated shards seats tables
  fresh_seated shards tables new empty =
      seated_each shards seats tables (new.count ∙ sym (seat_count config [] seats are)) (new.count ∙ sym empty.count) (λ k s p t h.
      subst (λ z. IsSeatOf z (get_or seats k p) (get_or tables k t)) (sym (new.fresh_each k s h))
      (subst (λ z. IsSeatOf (fresh_shard config k) z (get_or tables k t)) (sym (fresh_seat config [] seats are k p (omega (arith, h, new.count))))
      (subst (IsSeatOf (fresh_shard config k) (are.directory, reopened_seat are.directory.name [] k)) (sym (empty.fresh_each k t (omega (arith, h, new.count, empty.count))))
      (fresh_seated_desk config k are.directory are.desks are.slots, refl))))
