-- What is put out goes behind the letters for the same desk.
use Rattle.std.proofs.Common.{◌≡◌, ℕ, ◌<◌, ◌==◌, Bool, true, false, List, [], ◌∷◌, ◌++◌, length, filter, get_or, refl, sym, ap, ◌∙◌, cond, append_assoc, arith}
use Rattle.std.proofs.lemmas.Bool.{eqb-true, eq-eqb, both_ways}
use Rattle.std.proofs.lemmas.List.{append-nil}
use Rattle.pt_signal.specs.declared.letter.Letter.{Letter}
use Rattle.pt_signal.specs.Boxes.{one_more}
use Rattle.pt_signal.proofs.Boxes.{one_more_count, one_more_same, one_more_other}
use Rattle.pt_shard.specs.Boxes.{put_out}

pub put_count : (boxes : List (List Letter)) (ls : List Letter) → length (put_out boxes ls) ≡ length boxes
put_count boxes [] = refl
put_count boxes (l ∷ ls) = put_count (one_more boxes l.to.shard l) ls ∙ one_more_count boxes l.to.shard l

-- the list for desk k gets the letters to it, in their order
pub put_at : (boxes : List (List Letter)) (ls : List Letter) (k : ℕ) → k < length boxes → get_or (put_out boxes ls) k [] ≡ get_or boxes k [] ++ filter (λ l. l.to.shard == k) ls
put_at boxes [] k h = sym (append-nil (get_or boxes k []))
put_at boxes (l ∷ ls) k h =
    go (l.to.shard == k) refl (put_at (one_more boxes l.to.shard l) ls k (omega (arith, h, one_more_count boxes l.to.shard l)))
  where
    go : (b : Bool) → (l.to.shard == k) ≡ b
        → get_or (put_out (one_more boxes l.to.shard l) ls) k [] ≡ get_or (one_more boxes l.to.shard l) k [] ++ filter (λ l. l.to.shard == k) ls
        → get_or (put_out (one_more boxes l.to.shard l) ls) k [] ≡ get_or boxes k [] ++ cond (l.to.shard == k) (l ∷ filter (λ l. l.to.shard == k) ls) (filter (λ l. l.to.shard == k) ls)
    go true q ih =
        let to_k : l.to.shard ≡ k = eqb-true l.to.shard k q in
        let at : get_or (one_more boxes l.to.shard l) k [] ≡ get_or boxes k [] ++ l ∷ []
        = ap (λ z. get_or (one_more boxes z l) k []) to_k ∙ one_more_same boxes k l h in
        rw q (ih ∙ ap (λ z. z ++ filter (λ l. l.to.shard == k) ls) at ∙ append_assoc (get_or boxes k []) (l ∷ []) (filter (λ l. l.to.shard == k) ls))
    go false q ih =
        let at = one_more_other boxes l.to.shard l k (λ r. both_ways (l.to.shard == k) q (eq-eqb l.to.shard k (sym r))) in
        rw q (ih ∙ ap (λ z. z ++ filter (λ l. l.to.shard == k) ls) at)
