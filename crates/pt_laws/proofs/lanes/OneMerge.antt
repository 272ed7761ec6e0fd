-- Two merges of the same journals are the same.
use Rattle.std.proofs.Common.{◌≡◌, ℕ, Bool, true, false, ◌==◌, inl, inr, List, [], ◌∷◌, refl, sym, ◌∙◌, subst, arith}
use Rattle.std.proofs.lemmas.Bool.{eq-eqb, eqb-true}
use Rattle.pt_events.specs.declared.event.Stamped.{Stamped}
use Rattle.pt_events.specs.Journal.{IsRising, AllBefore, IsAfter, of_desk}

head_is : (s t : Stamped) (xs ys : List Stamped) → s ∷ xs ≡ t ∷ ys → s ≡ t
head_is s t xs ys h = cc

tail_is : (s t : Stamped) (xs ys : List Stamped) → s ∷ xs ≡ t ∷ ys → xs ≡ ys
tail_is s t xs ys h = cc

-- the first event of a desk in a list comes before what all the list comes before
after_first : (t u : Stamped) (d : ℕ) (ys rest : List Stamped) → AllBefore t ys → of_desk d ys ≡ u ∷ rest → IsAfter t u
after_first t u d [] rest b h = absurd (cc)
after_first t u d (y ∷ ys) rest b h = go (y.desk == d) refl (after_first t u d ys rest b.1)
  where
    go : (c : Bool) → (y.desk == d) ≡ c → (of_desk d ys ≡ u ∷ rest → IsAfter t u) → IsAfter t u
    go true e ih = let k : y ∷ of_desk d ys ≡ u ∷ rest = rw e at h in subst (IsAfter t) (head_is y u (of_desk d ys) rest k) b.0
    go false e ih = let k : of_desk d ys ≡ u ∷ rest = rw e at h in ih k

not_both : (s t : Stamped) → IsAfter s t → IsAfter t s → ⊥
not_both s t (inl a) (inl b) = omega arith
not_both s t (inl a) (inr b) = let x = b.0 in omega arith
not_both s t (inr a) (inl b) = let x = a.0 in omega arith
not_both s t (inr a) (inr b) = let x = a.1 in let y = b.1 in omega arith

pub one_merge : (one two : List Stamped) → IsRising one → IsRising two → ((d : ℕ) → of_desk d one ≡ of_desk d two) → one ≡ two
one_merge [] [] r q h = refl
one_merge [] (t ∷ ys) r q h = let k : [] ≡ t ∷ of_desk t.desk ys = h t.desk ∙ rw (eq-eqb t.desk t.desk refl) refl in absurd (cc)
one_merge (s ∷ xs) [] r q h = let k : [] ≡ s ∷ of_desk s.desk xs = sym (h s.desk) ∙ rw (eq-eqb s.desk s.desk refl) refl in absurd (cc)
one_merge (s ∷ xs) (t ∷ ys) r q h = go (s.desk == t.desk) refl (one_merge xs ys r.1 q.1)
  where
    here : (u : Stamped) (zs : List Stamped) → of_desk u.desk (u ∷ zs) ≡ u ∷ of_desk u.desk zs
    here u zs = rw (eq-eqb u.desk u.desk refl) refl

    tails : s ≡ t → (d : ℕ) → of_desk d xs ≡ of_desk d ys
    tails e d = pick (s.desk == d) refl
      where
        pick : (c : Bool) → (s.desk == d) ≡ c → of_desk d xs ≡ of_desk d ys
        pick true f =
            let g : (t.desk == d) ≡ true = subst (λ z. (z.desk == d) ≡ true) e f in
            let a : of_desk d (s ∷ xs) ≡ s ∷ of_desk d xs = rw f refl in
            let b : of_desk d (t ∷ ys) ≡ t ∷ of_desk d ys = rw g refl in
            tail_is s t (of_desk d xs) (of_desk d ys) (sym a ∙ h d ∙ b)
        pick false f =
            let g : (t.desk == d) ≡ false = subst (λ z. (z.desk == d) ≡ false) e f in
            let a : of_desk d (s ∷ xs) ≡ of_desk d xs = rw f refl in
            let b : of_desk d (t ∷ ys) ≡ of_desk d ys = rw g refl in
            sym a ∙ h d ∙ b

    go : (c : Bool) → (s.desk == t.desk) ≡ c → (((d : ℕ) → of_desk d xs ≡ of_desk d ys) → xs ≡ ys) → s ∷ xs ≡ t ∷ ys
    go true e ih =
        let same : s.desk ≡ t.desk = eqb-true s.desk t.desk e in
        let b : of_desk s.desk (t ∷ ys) ≡ t ∷ of_desk s.desk ys = rw (eq-eqb t.desk s.desk (sym same)) refl in
        let k : s ≡ t = head_is s t (of_desk s.desk xs) (of_desk s.desk ys) (sym (here s xs) ∙ h s.desk ∙ b) in
        rw (k, ih (tails k)) refl
    go false e ih =
        let other : (t.desk == s.desk) ≡ false = flip (t.desk == s.desk) refl in
        let b : of_desk s.desk (t ∷ ys) ≡ of_desk s.desk ys = rw other refl in
        let c : of_desk t.desk (s ∷ xs) ≡ of_desk t.desk xs = rw e refl in
        let a1 : IsAfter t s = after_first t s s.desk ys (of_desk s.desk xs) q.0 (sym b ∙ sym (h s.desk) ∙ here s xs) in
        let a2 : IsAfter s t = after_first s t t.desk xs (of_desk t.desk ys) r.0 (sym c ∙ h t.desk ∙ here t ys) in
        absurd (not_both s t a2 a1)
      where
        flip : (c : Bool) → (t.desk == s.desk) ≡ c → (t.desk == s.desk) ≡ false
        flip false f = f
        flip true f = let k : t.desk ≡ s.desk = eqb-true t.desk s.desk f in let z : true ≡ false = sym (eq-eqb s.desk t.desk (sym k)) ∙ e in absurd (cc)
