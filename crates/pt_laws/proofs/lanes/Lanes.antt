-- Lanes, one event back.
use Rattle.std.proofs.Common.{◌≡◌, ℕ, ◌<◌, ◌≤◌, Bool, true, false, cond, List, [], ◌∷◌, ◌++◌, map, filter, refl, sym, ap, arith}
use Rattle.std.specs.Prelude.{⊤}
use Rattle.pt_signal.specs.declared.letter.Letter.{Letter}
use Rattle.pt_signal.specs.Process.{Sent}
use Rattle.pt_events.specs.Journal.{Agrees, content, letter}

abbrev pub AllUpTo : ℕ → List Letter → Type 0
AllUpTo n [] = ⊤
AllUpTo n (l ∷ ls) = (l.stamp ≤ n) × AllUpTo n ls

abbrev pub AllAt : ℕ → List Letter → Type 0
AllAt n [] = ⊤
AllAt n (l ∷ ls) = (l.stamp ≡ n) × AllAt n ls

pub AllUpTo-append : (n : ℕ) (xs ys : List Letter) → AllUpTo n xs → AllUpTo n ys → AllUpTo n (xs ++ ys)
AllUpTo-append n [] ys h k = k
AllUpTo-append n (x ∷ xs) ys h k = (h.0, AllUpTo-append n xs ys h.1 k)

-- the lane before its newest letters (new) and its newest receipts (last)
pub record Back (old new gs last over : List Letter) : Type 0 where
  pub lead : List Letter
  pub rest : List Letter
  pub same : map content lead ≡ map content last
  pub agrees : Agrees old gs (lead ++ rest)
  pub left : over ≡ rest ++ new

-- a letter of the newest event has not come
too_new : (n : ℕ) (new : List Letter) (g : Letter) (gs over : List Letter) → AllAt n new → g.stamp ≤ n → Agrees new (g ∷ gs) over → ⊥
too_new n [] g gs over h k a = a
too_new n (l ∷ ls) g gs over h k a = let e = h.0 in let f : l.stamp < g.stamp = a.0.1 in omega arith

front : (n : ℕ) (old new last over : List Letter) → AllAt n new → AllUpTo n last → Agrees (old ++ new) last over → Back old new [] last over
front n old new [] over h k a = record { lead = []; rest = old; same = refl; agrees = refl; left = sym a }
front n [] new (g ∷ gs) over h k a = absurd (too_new n new g gs over h k.0 a)
front n (l ∷ ls) new (g ∷ gs) over h k a =
    let b = front n ls new gs over h k.1 a.1 in
    record { lead = l ∷ b.lead; rest = b.rest; same = longer _ _ (sym a.0.0) b.same; agrees = ap (λ z. l ∷ z) b.agrees; left = b.left }
  where
    longer : (x y : Sent) {xs ys : List Sent} → x ≡ y → xs ≡ ys → x ∷ xs ≡ y ∷ ys
    longer x y e f = cc

pub back : (n : ℕ) (old new gs last over : List Letter) → AllAt n new → AllUpTo n gs → AllUpTo n last → Agrees (old ++ new) (gs ++ last) over → Back old new gs last over
back n old new [] last over h u k a = front n old new last over h k a
back n [] new (g ∷ gs) last over h u k a = absurd (too_new n new g (gs ++ last) over h u.0 a)
back n (l ∷ ls) new (g ∷ gs) last over h u k a =
    let b = back n ls new gs last over h u.1 k a.1 in
    record { lead = b.lead; rest = b.rest; same = b.same; agrees = (a.0, b.agrees); left = b.left }

pub AllAt-letters : (n : ℕ) (P : Letter → Bool) (ls : List Sent) → AllAt n (filter P (map (letter n) ls))
AllAt-letters n P [] = tt
AllAt-letters n P (l ∷ ls) = go (P (letter n l)) (AllAt-letters n P ls)
  where
    go : (b : Bool) → AllAt n (filter P (map (letter n) ls)) → AllAt n (cond b (letter n l ∷ filter P (map (letter n) ls)) (filter P (map (letter n) ls)))
    go true h = (refl, h)
    go false h = h

-- letters and what they hold
pub contents : (n : ℕ) (P : Sent → Bool) (ls : List Sent) → map content (filter (λ l. P (content l)) (map (letter n) ls)) ≡ filter P ls
contents n P [] = refl
contents n P (l ∷ ls) = go (P l) refl (contents n P ls)
  where
    go : (b : Bool) → P l ≡ b → map content (filter (λ l. P (content l)) (map (letter n) ls)) ≡ filter P ls
        → map content (filter (λ l. P (content l)) (map (letter n) (l ∷ ls))) ≡ filter P (l ∷ ls)
    go true e ih = rw e (ap (λ z. l ∷ z) ih)
    go false e ih = rw e ih
