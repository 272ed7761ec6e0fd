-- The events of one desk in order, oldest first.
use Rattle.std.proofs.Common.{◌≡◌, ℕ, ◌<◌, List, [], ◌∷◌, ◌++◌, Option, Some, None, reverse, take, drop, length, get_or, subst, sym, ◌∙◌, ap, ◌+◌, true, false, arith}
use Rattle.std.proofs.lemmas.Bool.{both_ways, and_parts, eqb-true, eq-eqb, ltb-true}
use Rattle.std.proofs.lemmas.Bool.Decides.{nat_tests}
use Rattle.std.proofs.lemmas.List.{reverse-append, take-append-drop, take_more}
use Rattle.pt_events.specs.declared.event.Stamped.{Stamped}
use Rattle.pt_events.specs.JournalState.{IsNewer, IsInOrder, is_next}

abbrev pub newest_stamp : List Stamped → Option ℕ
newest_stamp [] = None
newest_stamp (s ∷ past) = Some s.stamp

next_newer : (d : ℕ) (s : Stamped) (past : List Stamped) → is_next d (newest_stamp past) s ≡ true → (s.desk ≡ d) × IsNewer s past
next_newer d s [] h = (eqb-true _ _ h, tt)
next_newer d s (t ∷ past) h = let k = and_parts _ _ h in (eqb-true _ _ k.1, ltb-true _ _ k.0)

newer_next : (d : ℕ) (s : Stamped) (past : List Stamped) → s.desk ≡ d → IsNewer s past → is_next d (newest_stamp past) s ≡ true
newer_next d s [] h k = eq-eqb _ _ h
newer_next d s (t ∷ past) h k = grind (arith, nat_tests)

pub in_order_next : (d : ℕ) (s : Stamped) (past : List Stamped) (newest : Option ℕ) → newest ≡ newest_stamp past → is_next d newest s ≡ true
    → IsInOrder d past → IsInOrder d (s ∷ past)
in_order_next d s past newest e h k = let w = next_newer d s past (subst (λ n. is_next d n s ≡ true) e h) in (w.0, w.1, k)

pub not_in_order : (d : ℕ) (s : Stamped) (past : List Stamped) (newest : Option ℕ) → newest ≡ newest_stamp past → is_next d newest s ≡ false
    → ¬ IsInOrder d (s ∷ past)
not_in_order d s past newest e h k = both_ways _ (subst (λ n. is_next d n s ≡ false) e h) (newer_next d s past k.0 k.1)

-- what stands before the newest events of a journal in order is in order
pub older_in_order : (d : ℕ) (newer older : List Stamped) → IsInOrder d (newer ++ older) → IsInOrder d older
older_in_order d [] older h = h
older_in_order d (s ∷ newer) older h = older_in_order d newer older h.2

-- one more event of a list that is read from its front
pub reverse_take : {X : Type 0} (xs : List X) (i : ℕ) (d : X) → i < length xs → reverse (take (i + 1) xs) ≡ get_or xs i d ∷ reverse (take i xs)
reverse_take xs i d h = ap reverse (take_more xs i d h) ∙ reverse-append (take i xs) (get_or xs i d ∷ [])

pub reverse_split : {X : Type 0} (xs : List X) (i : ℕ) → reverse xs ≡ reverse (drop i xs) ++ reverse (take i xs)
reverse_split xs i = ap reverse (sym (take-append-drop i xs)) ∙ reverse-append (take i xs) (drop i xs)

-- a list read from its front, at its event i
module _ (d : ℕ) (xs : List Stamped) (i : ℕ) (o : Stamped) (newest : Option ℕ) (within : i < length xs)
    (known : newest ≡ newest_stamp (reverse (take i xs))) where
  here : reverse (take (i + 1) xs) ≡ get_or xs i o ∷ reverse (take i xs)
  here = reverse_take xs i o within

  pub goes_on : is_next d newest (get_or xs i o) ≡ true → IsInOrder d (reverse (take i xs)) → IsInOrder d (reverse (take (i + 1) xs))
  goes_on h k = subst (IsInOrder d) (sym here) (in_order_next d (get_or xs i o) (reverse (take i xs)) newest known h k)

  pub newest_here : Some (get_or xs i o).stamp ≡ newest_stamp (reverse (take (i + 1) xs))
  newest_here = sym (ap newest_stamp here)

  pub stops : is_next d newest (get_or xs i o) ≡ false → ¬ IsInOrder d (reverse xs)
  stops h k =
      not_in_order d (get_or xs i o) (reverse (take i xs)) newest known h
      (subst (IsInOrder d) here (older_in_order d (reverse (drop (i + 1) xs)) (reverse (take (i + 1) xs)) (subst (IsInOrder d) (reverse_split xs (i + 1)) k)))
