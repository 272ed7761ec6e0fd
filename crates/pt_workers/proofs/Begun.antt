-- What was before the journals of desks stays, whatever is done to them.
use Rattle.std.proofs.Common.{◌≡◌, ℕ, suc, ◌<◌, List, [], ◌∷◌, ◌++◌, length, get_or, refl, ◌∙◌, ap, arith}
use Rattle.pt_beginning.specs.Beginning.{start_of}
use Rattle.pt_desk.specs.DeskState.{DeskState}
use Rattle.pt_workers.specs.Desks.{all_shards}

pub starts_stay : (old new : List DeskState) → length new ≡ length old → ((d : ℕ) (x : DeskState) → d < length old → (get_or new d x).shard.start ≡ (get_or old d x).shard.start)
    → start_of (all_shards new) ≡ start_of (all_shards old)
starts_stay [] [] count each = refl
starts_stay [] (y ∷ new) count each = absurd (omega arith)
starts_stay (x ∷ old) [] count each = absurd (omega arith)
starts_stay (x ∷ old) (y ∷ new) count each =
    ap (λ z. z ++ start_of (all_shards new)) (each 0 x (omega arith))
    ∙ ap (λ z. x.shard.start ++ z) (starts_stay old new (omega arith) (λ d z h. each (suc d) z (omega arith)))
