-- Lemmas on the letter that stands in front, when it is taken.
use Rattle.std.proofs.Common.{◌≡◌, ℕ, List, [], ◌∷◌, map, ap, sym, ◌∙◌}
use mathlib.Core.List.{IsPrefix}
use Rattle.pt_signal.specs.declared.letter.Letter.{Letter}
use Rattle.pt_carrier.specs.Lanes.{on_lane}

abbrev front_or : Letter → List Letter → Letter
front_or l [] = l
front_or l (x ∷ xs) = x

-- what was seen in front is what is taken
pub front_is : (front x : Letter) (ys xs : List Letter) → IsPrefix (front ∷ []) ys → ys ≡ x ∷ xs → front ≡ x
front_is front x ys xs h e = ap (front_or front) (h.1 ∙ e)

-- a letter that names the desks of its lane is what the lane shows of it
named : (from to : ℕ) (l : Letter) → l.from.shard ≡ from → l.to.shard ≡ to → on_lane from to l ≡ l
named from to l f t = λ i. record l { from = record l.from { shard = sym f i }; to = record l.to { shard = sym t i } }

pub front_known : (from to : ℕ) (front : Letter) (items : List Letter) → IsPrefix (front ∷ []) items → front.from.shard ≡ from → front.to.shard ≡ to → IsPrefix (front ∷ []) (map (on_lane from to) items)
front_known from to front items h f t =
    (map (on_lane from to) h.0, ap (λ l. l ∷ map (on_lane from to) h.0) (sym (named from to front f t)) ∙ ap (map (on_lane from to)) h.1)
