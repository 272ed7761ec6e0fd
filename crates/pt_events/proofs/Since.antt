-- The events of a journal above a stamp, found by halves.
use Rattle.std.proofs.Common.{◌≡◌, ℕ, zero, suc, ◌-◌, ◌<◌, ◌≤◌, true, false, leb, List, [], ◌∷◌, ◌++◌, reverse, drop, length, length-append, get_or, refl, subst, sym, ap, arith}
use Rattle.std.specs.Prelude.{nat_lt}
use Rattle.std.specs.List.Sorted.{IsNonDecreasingBy}
use Rattle.std.proofs.Math.Seq.{get_or-append_seam}
use Rattle.std.proofs.lemmas.Bool.Decides.{nat_tests}
use Rattle.std.proofs.lemmas.List.{reverse-append}
use Rattle.std.proofs.lemmas.List.Sorted.{IsNonDecreasingBy-short, IsNonDecreasingBy-push}
use Rattle.pt_events.specs.declared.event.Stamped.{Stamped}
use Rattle.pt_events.specs.JournalState.{IsNewer, IsInOrder}
use Rattle.pt_events.specs.Since.{newer_than}

newest_below : (past : List Stamped) (s : Stamped) → IsNewer s past → (o : Stamped) → 0 < length (reverse past)
    → (get_or (reverse past) (length (reverse past) - 1) o).stamp ≤ s.stamp
newest_below [] s h o some = absurd (omega (arith, some))
newest_below (t ∷ past) s h o some =
    let last : length (reverse past ++ t ∷ []) - 1 ≡ length (reverse past) = omega (arith, length-append (reverse past) (t ∷ [])) in
    let P : List Stamped → Type 0 = λ xs. (get_or xs (length xs - 1) o).stamp ≤ s.stamp in
    subst P (sym (reverse-append (t ∷ []) past)) (rw last (rw (get_or-append_seam (reverse past) t [] o) (omega (arith, h))))

-- oldest first, the stamps rise
pub stamps_rise : (d : ℕ) (past : List Stamped) → IsInOrder d past → IsNonDecreasingBy (λ (s : Stamped). s.stamp) (reverse past)
stamps_rise d [] h = IsNonDecreasingBy-short (λ (s : Stamped). s.stamp) [] (omega arith)
stamps_rise d (s ∷ past) h =
    subst (IsNonDecreasingBy (λ (s : Stamped). s.stamp)) (sym (reverse-append (s ∷ []) past))
    (IsNonDecreasingBy-push (λ (s : Stamped). s.stamp) (reverse past) s (stamps_rise d past h.2) (newest_below past s h.1))

newer : (n a : ℕ) → leb a n ≡ false → nat_lt n a ≡ true
newer n a h = grind (arith, nat_tests)

not_newer : (n a : ℕ) → leb a n ≡ true → nat_lt n a ≡ false
not_newer n a h = grind (arith, nat_tests)

-- what stands behind the last event up to that stamp is what is above it
pub newer_from : (n : ℕ) (xs : List Stamped) (i : ℕ) → ((k : ℕ) (o : Stamped) → k < i → leb (get_or xs k o).stamp n ≡ true)
    → ((k : ℕ) (o : Stamped) → i ≤ k → k < length xs → leb (get_or xs k o).stamp n ≡ false) → i ≤ length xs → drop i xs ≡ newer_than n xs
newer_from n [] zero below above within = refl
newer_from n [] (suc i) below above within = absurd (omega (arith, within))
newer_from n (x ∷ xs) zero below above within =
    rw (newer n x.stamp (above 0 x (omega arith) (omega arith)))
    (ap (λ ys. x ∷ ys) (newer_from n xs zero (λ k o lt. absurd (omega (arith, lt))) (λ k o le lt. above (suc k) o (omega arith) (omega (arith, lt))) (omega arith)))
newer_from n (x ∷ xs) (suc i) below above within =
    rw (not_newer n x.stamp (below 0 x (omega arith)))
    (newer_from n xs i (λ k o lt. below (suc k) o (omega (arith, lt))) (λ k o le lt. above (suc k) o (omega (arith, le)) (omega (arith, lt))) (omega (arith, within)))
