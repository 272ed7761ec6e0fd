-- The mark of a mailbox: it stays true over each change, and what is before it need not be looked at.
use Rattle.std.proofs.Common.{◌≡◌, ℕ, zero, suc, ◌+◌, ◌-◌, ◌<◌, ◌≤◌, min, max, Bool, true, false, not, cond, ltb, List, [], ◌∷◌, ◌++◌, length, drop, take, refl, ap, sym, subst, ◌∙◌, arith, length-drop, Option, Some, None, IfSome}
use Rattle.std.specs.List.{position, position_or_len, remove}
use Rattle.std.specs.Option.{option_map}
use Rattle.std.proofs.lemmas.Bool.{ltb-true, ltb-false}
use Rattle.std.proofs.lemmas.Bool.Decides.{nat_tests}
use Rattle.std.proofs.lemmas.List.{take_all}
use Rattle.std.proofs.lemmas.List.Edits.{length-remove}
use Rattle.pt_signal.specs.declared.item.Item.{Item}
use Rattle.pt_signal.specs.declared.item.Item.TheVariants.{Down, Alive}
use Rattle.pt_signal.specs.declared.item.Pick.{Pick}
use Rattle.pt_signal.specs.declared.ids.Ref.{Ref}
use Rattle.pt_signal.specs.Values.{fits}
use Rattle.pt_process.specs.Marks.{answer_number, IsUnder, AreUnder, IsMarked, top_after, mark_after, left_before}

weaker : (o : Option ℕ) (n m : ℕ) → n ≤ m → IfSome o (λ r. r < n) → IfSome o (λ r. r < m)
weaker None n m le h = tt
weaker (Some r) n m le h = omega (arith, le, h)

pub AreUnder-weaker : (n m k : ℕ) (w : List Item) → n ≤ m → AreUnder n k w → AreUnder m k w
AreUnder-weaker n m zero w le h = tt
AreUnder-weaker n m (suc k) [] le h = tt
AreUnder-weaker n m (suc k) (x ∷ xs) le h = (weaker (answer_number x) n m le h.0, AreUnder-weaker n m k xs le h.1)

pub AreUnder-fewer : (n j k : ℕ) (w : List Item) → min j (length w) ≤ k → AreUnder n k w → AreUnder n j w
AreUnder-fewer n zero k w le h = tt
AreUnder-fewer n (suc j) k [] le h = tt
AreUnder-fewer n (suc j) zero (x ∷ xs) le h = absurd (omega (arith, le))
AreUnder-fewer n (suc j) (suc k) (x ∷ xs) le h = (h.0, AreUnder-fewer n j k xs (omega (arith, le)) h.1)

AreUnder-front : (n : ℕ) (w ys : List Item) → AreUnder n (length w) w → AreUnder n (length w) (w ++ ys)
AreUnder-front n [] ys h = tt
AreUnder-front n (x ∷ xs) ys h = (h.0, AreUnder-front n xs ys h.1)

AreUnder-push : (n k : ℕ) (w : List Item) (x : Item) → AreUnder n k w → IsUnder n x → AreUnder n k (w ++ x ∷ [])
AreUnder-push n zero w x h is = tt
AreUnder-push n (suc k) [] x h is = (is, AreUnder-fewer n k 0 [] (omega arith) tt)
AreUnder-push n (suc k) (y ∷ ys) x h is = (h.0, AreUnder-push n k ys x h.1 is)

AreUnder-remove : (n p j k : ℕ) (w : List Item) → j ≤ k → (p < k → j < k) → AreUnder n k w → AreUnder n j (remove w p)
AreUnder-remove n zero j k [] le less h = AreUnder-fewer n j 0 [] (omega arith) tt
AreUnder-remove n (suc p) j k [] le less h = AreUnder-fewer n j 0 [] (omega arith) tt
AreUnder-remove n zero j zero (x ∷ xs) le less h = AreUnder-fewer n j 0 xs (omega (arith, le)) tt
AreUnder-remove n zero j (suc k) (x ∷ xs) le less h = AreUnder-fewer n j k xs (omega (arith, less (omega arith))) h.1
AreUnder-remove n (suc p) zero k (x ∷ xs) le less h = tt
AreUnder-remove n (suc p) (suc j) zero (x ∷ xs) le less h = absurd (omega (arith, le))
AreUnder-remove n (suc p) (suc j) (suc k) (x ∷ xs) le less h =
    (h.0, AreUnder-remove n p j k xs (omega (arith, le)) (λ lt. omega (arith, less (omega (arith, lt)))) h.1)

noted_number : (top r places mark head : ℕ) (w : List Item) (x : Item) (a b : Bool) → ltb top r ≡ a → ltb r top ≡ b → IsUnder (r + 1) x
    → places - head ≡ length w → IsMarked top (mark - head) w → IsMarked (max top r) (cond a places (cond b mark 0) - head) (w ++ x ∷ [])
noted_number top r places mark head w x a b above under is len h =
    record {
      highest = AreUnder-push _ _ w x (AreUnder-fewer _ _ (length w) w (omega arith) (AreUnder-weaker (top + 1) _ _ w (omega arith) h.highest)) (weaker (answer_number x) (r + 1) _ (omega arith) is);
      lower = before a b above under;
    }
  where
    before : (a b : Bool) → ltb top r ≡ a → ltb r top ≡ b → AreUnder (max top r) (cond a places (cond b mark 0) - head) (w ++ x ∷ [])
    before true b above under =
        subst (λ k. AreUnder (max top r) k (w ++ x ∷ [])) (sym len) (AreUnder-front _ w (x ∷ []) (AreUnder-weaker (top + 1) _ _ w (omega (arith, ltb-true top r above)) h.highest))
    before false true above under =
        AreUnder-push _ _ w x (AreUnder-weaker top _ _ w (omega arith) h.lower) (weaker (answer_number x) (r + 1) _ (omega (arith, ltb-true r top under)) is)
    before false false above under = AreUnder-fewer _ _ 0 (w ++ x ∷ []) (omega arith) tt

-- an item comes
pub IsMarked-noted : (o : Option ℕ) (top places mark head : ℕ) (w : List Item) (x : Item) → answer_number x ≡ o → places - head ≡ length w
    → IsMarked top (mark - head) w → IsMarked (top_after o top) (mark_after o top places mark - head) (w ++ x ∷ [])
IsMarked-noted None top places mark head w x e len h =
    let any : (n : ℕ) → IsUnder n x = λ n. subst (λ o. IfSome o (λ r. r < n)) (sym e) tt in
    record { highest = AreUnder-push _ _ w x (AreUnder-fewer _ _ (length w) w (omega arith) h.highest) (any _); lower = AreUnder-push _ _ w x h.lower (any _) }
IsMarked-noted (Some r) top places mark head w x e len h =
    noted_number top r places mark head w x _ _ refl refl (subst (λ o. IfSome o (λ n. n < r + 1)) (sym e) (omega arith)) len h

left_fewer : (p k : ℕ) (b : Bool) → ltb p k ≡ b → (cond b (k - 1) k ≤ k) × (p < k → cond b (k - 1) k < k)
left_fewer p k true is = (omega arith, λ lt. omega (arith, lt))
left_fewer p k false is = (omega arith, λ lt. absurd (omega (arith, lt, ltb-false p k is)))

-- the item at a place goes
pub IsMarked-removed : (top k p new : ℕ) (w rest : List Item) → p < length w → rest ≡ remove w p → new ≡ left_before p k → IsMarked top k w → IsMarked top new rest
IsMarked-removed top k p new w rest within gone left h =
    let all = AreUnder-fewer (top + 1) (suc (length w)) (length w) w (omega arith) h.highest in
    rw (gone, left) (record {
      highest = AreUnder-remove (top + 1) p _ (suc (length w)) w (omega (arith, length-remove w p within)) (λ lt. omega (arith, length-remove w p within)) all;
      lower = AreUnder-remove top p _ k w (left_fewer p k _ refl).0 (left_fewer p k _ refl).1 h.lower;
    })

-- of an empty mailbox each mark is true
pub IsMarked-closed : (top k new : ℕ) (w same : List Item) → same ≡ w → (0 < length w → new ≡ k) → IsMarked top k w → IsMarked top new same
IsMarked-closed top k new [] same is at h = rw is (record { highest = tt; lower = AreUnder-fewer top new 0 [] (omega arith) tt })
IsMarked-closed top k new (x ∷ xs) same is at h = rw (is, at (omega arith)) h

module _ (test : Item → Bool) (n : ℕ) (other : (x : Item) → IsUnder n x → test x ≡ false) where
  len_past : (k : ℕ) (w : List Item) → k ≤ length w → AreUnder n k w → position_or_len test w ≡ k + position_or_len test (drop k w)
  len_past zero w le h = omega arith
  len_past (suc k) [] le h = absurd (omega (arith, le))
  len_past (suc k) (x ∷ xs) le h = rw (other x h.0) (omega (arith, len_past k xs (omega (arith, le)) h.1))

  -- the first that passes is not before the mark
  pub position-past : (k : ℕ) (w same : List Item) (o p : Option ℕ) → same ≡ w → k ≤ length w → AreUnder n k w → o ≡ position test (take (length same - k) (drop k same)) → o ≡ p
      → option_map (λ i. k + i) p ≡ position test w
  position-past k w same o p is le h at found =
      ap (option_map (λ i. k + i)) (sym found ∙ at ∙ ap (position test) (take_all _ _ (omega (arith, length-drop k same))) ∙ ap (λ w. position test (drop k w)) is) ∙ sym (by _ _ _ (len_past k w le h) refl refl)
    where
      by : (i : ℕ) (a b : Bool) → i ≡ k + position_or_len test (drop k w) → ltb i (length w) ≡ a → ltb (position_or_len test (drop k w)) (length (drop k w)) ≡ b
          → cond a (Some i) None ≡ option_map (λ i. k + i) (cond b (Some (position_or_len test (drop k w))) None)
      by i true true e lt lt2 = ap Some e
      by i false false e lt lt2 = refl
      by i true false e lt lt2 = absurd (omega (arith, e, ltb-true i _ lt, ltb-false _ _ lt2, length-drop k w))
      by i false true e lt lt2 = absurd (omega (arith, e, ltb-false i _ lt, ltb-true _ _ lt2, length-drop k w))

-- what has a lower number answers another reference
pub down_of_other : (m : Ref) (x : Item) → IsUnder m.number x → fits (Pick.DownOf m) x ≡ false
down_of_other m (Down n from r) h = grind (arith, nat_tests, h)
down_of_other m _ h = refl

pub alive_of_other : (m : Ref) (x : Item) → IsUnder m.number x → fits (Pick.AliveOf m) x ≡ false
alive_of_other m (Alive n from x) h = grind (arith, nat_tests, h)
alive_of_other m _ h = refl
