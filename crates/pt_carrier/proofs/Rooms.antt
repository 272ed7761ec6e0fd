-- Lemmas on lists with room for letters.
use Rattle.std.proofs.Common.{◌≡◌, ℕ, zero, suc, ◌+◌, ◌*◌, ◌<◌, ◌≤◌, List, Vec, [], ◌∷◌, ◌++◌, map, length, get_or, ◌∙◌, ap, arith, refl}
use Rattle.std.proofs.lemmas.List.{length-map, get_or_append_left, get_or_push, map_push, length_push}
use Rattle.std.proofs.lemmas.Nat.{mul-add-lt}
use Rattle.std.proofs.Math.Nat.{mul_comm}
use Rattle.std.specs.Vec.{vec_capacity}
use Rattle.pt_signal.specs.declared.letter.Letter.{Letter}
use Rattle.pt_carrier.specs.Node.{lists}
use Rattle.pt_carrier.specs.Reunion.{VectorHasRoom, room_at, room_of}

-- the place of a lane is among those of the rows before
pub place_before : (i j d n : ℕ) → i < d → j < n → i * n + j < d * n
place_before i j d n l m = omega (arith, mul-add-lt i n j d l m, mul_comm n d)

pub next_row : (d n : ℕ) → (d + 1) * n ≡ d * n + n
next_row d n = grind arith

module _ {A : Type 0} (known : List Letter) (vs : List (Vec Letter A)) (v : Vec Letter A) (k : ℕ) where
  pub HasRoom-before : VectorHasRoom known vs k → VectorHasRoom known (vs ++ v ∷ []) k
  HasRoom-before h =
      let same : room_at (vs ++ v ∷ []) k ≡ room_at vs k = rw (map_push room_of vs v) (get_or_append_left (map room_of vs) ((room_of v) ∷ []) ([], 0) k (omega (arith, h.within, length-map vs room_of))) in
      record {
        within = omega (arith, h.within, length_push vs v);
        empty = ap (λ r. r.0) same ∙ h.empty;
        room = omega (arith, h.room, ap (λ r. r.1) same);
      }

  pub HasRoom-push : length vs ≡ k → v.items ≡ [] → length known ≤ vec_capacity v → VectorHasRoom known (vs ++ v ∷ []) k
  HasRoom-push at empty room =
      let is : room_at (vs ++ v ∷ []) k ≡ (room_of v) = rw (map_push room_of vs v) (get_or_push (map room_of vs) (room_of v) ([], 0) k (length-map vs room_of ∙ at)) in
      record {
        within = omega (arith, at, length_push vs v);
        empty = ap (λ r. r.0) is ∙ empty;
        room = omega (arith, room, ap (λ r. r.1) is);
      }

-- the list of a room
pub room_list : {A : Type 0} (vs : List (Vec Letter A)) (k : ℕ) → (room_at vs k).0 ≡ get_or (lists vs) k []
room_list [] k = refl
room_list (v ∷ vs) zero = refl
room_list (v ∷ vs) (suc k) = room_list vs k

pub HasRoom-same : {A : Type 0} (known other : List Letter) (vs ws : List (Vec Letter A)) (k : ℕ) → length ws ≡ length vs → room_at ws k ≡ room_at vs k → length other ≡ length known → VectorHasRoom known vs k → VectorHasRoom other ws k
HasRoom-same known other vs ws k long same e h = record {
  within = omega (arith, long, h.within);
  empty = ap (λ r. r.0) same ∙ h.empty;
  room = omega (arith, h.room, e, ap (λ r. r.1) same);
}
