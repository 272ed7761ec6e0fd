-- What a receipt sends, in the outbox.
use Rattle.std.proofs.Common.{◌≡◌, ℕ, ◌<◌, ◌==◌, Bool, true, false, List, [], ◌∷◌, ◌++◌, length, filter, get_or, set, refl, sym, ap, ◌∙◌, cond, append_assoc, arith}
use Rattle.std.proofs.lemmas.Bool.{eqb-true, eq-eqb, both_ways}
use Rattle.std.proofs.lemmas.List.{get_or-set_same, get_or-set_other, length-set, append-nil}
use Rattle.pt_signal.specs.declared.letter.Letter.{Letter}
use Rattle.pt_shard.specs.ShardState.{put_out}

put_count : (boxes : List (List Letter)) (ls : List Letter) → length (put_out boxes ls) ≡ length boxes
put_count boxes [] = refl
put_count boxes (l ∷ ls) = put_count (set boxes l.to.shard (get_or boxes l.to.shard [] ++ l ∷ [])) ls ∙ length-set boxes l.to.shard (get_or boxes l.to.shard [] ++ l ∷ [])

-- the list for desk k gets the letters to it, in their order
pub put_at : (boxes : List (List Letter)) (ls : List Letter) (k : ℕ) → k < length boxes → get_or (put_out boxes ls) k [] ≡ get_or boxes k [] ++ filter (λ l. l.to.shard == k) ls
put_at boxes [] k h = sym (append-nil (get_or boxes k []))
put_at boxes (l ∷ ls) k h =
    let long = length-set boxes l.to.shard (get_or boxes l.to.shard [] ++ l ∷ []) in
    go (l.to.shard == k) refl (put_at (set boxes l.to.shard (get_or boxes l.to.shard [] ++ l ∷ [])) ls k (omega arith))
  where
    go : (b : Bool) → (l.to.shard == k) ≡ b
        → get_or (put_out (set boxes l.to.shard (get_or boxes l.to.shard [] ++ l ∷ [])) ls) k [] ≡ get_or (set boxes l.to.shard (get_or boxes l.to.shard [] ++ l ∷ [])) k [] ++ filter (λ l. l.to.shard == k) ls
        → get_or (put_out (set boxes l.to.shard (get_or boxes l.to.shard [] ++ l ∷ [])) ls) k [] ≡ get_or boxes k [] ++ cond (l.to.shard == k) (l ∷ filter (λ l. l.to.shard == k) ls) (filter (λ l. l.to.shard == k) ls)
    go true q ih =
        let t : l.to.shard ≡ k = eqb-true l.to.shard k q in
        let at : get_or (set boxes l.to.shard (get_or boxes l.to.shard [] ++ l ∷ [])) k [] ≡ get_or boxes k [] ++ l ∷ []
        = ap (λ z. get_or (set boxes z (get_or boxes z [] ++ l ∷ [])) k []) t ∙ get_or-set_same boxes k (get_or boxes k [] ++ l ∷ []) [] h in
        rw q (ih ∙ ap (λ z. z ++ filter (λ l. l.to.shard == k) ls) at ∙ append_assoc (get_or boxes k []) (l ∷ []) (filter (λ l. l.to.shard == k) ls))
    go false q ih =
        let at : get_or (set boxes l.to.shard (get_or boxes l.to.shard [] ++ l ∷ [])) k [] ≡ get_or boxes k []
        = get_or-set_other boxes l.to.shard k (get_or boxes l.to.shard [] ++ l ∷ []) [] (λ r. both_ways (l.to.shard == k) q (eq-eqb l.to.shard k (sym r))) in
        rw q (ih ∙ ap (λ z. z ++ filter (λ l. l.to.shard == k) ls) at)
