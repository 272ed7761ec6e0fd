-- Lanes, after one of them has changed.
use Rattle.std.proofs.Common.{◌≡◌, ℕ, ◌==◌, Bool, true, false, cond, Option, Some, None, IsSome, Result, Ok, Err, OnOk, List, [], drop, unwrap_or, refl, ap, sym, ◌∙◌}
use Rattle.std.specs.Map.{lookup}
use Rattle.std.proofs.lemmas.Bool.{and_parts, eqb-true}
use Rattle.pt_signal.specs.declared.letter.Letter.{Letter}
use Rattle.pt_auditor.specs.Lanes.{Laid, is_lane, letters_laid, IsLaid, stamp_noted}

found : (o p : Option (List Letter)) (c : Bool) → unwrap_or (cond c o p) [] ≡ cond c (unwrap_or o []) (unwrap_or p [])
found o p true = refl
found o p false = refl

pub updated : (d e : ℕ) (old new : Laid) (o : Option (List Letter)) → ((k : ℕ × ℕ) → lookup (is_lane k.0 k.1) new ≡ cond (is_lane d e k) o (lookup (is_lane k.0 k.1) old)) → IsLaid d e (unwrap_or o []) old new
updated d e old new o h p q = ap (λ z. unwrap_or z []) (h (p, q)) ∙ found o (lookup (is_lane p q) old) (is_lane d e (p, q))

pub on_ok : {E : Type 0} {P Q : Type 0} (r : Result (Unit {0}) E) → (P → Q) → OnOk r P → OnOk r Q
on_ok (Ok u) f h = f h
on_ok (Err e) f h = tt

pub is_there : (o : Option (List Letter)) (xs : List Letter) → Some xs ≡ o → IsSome o
is_there None xs h = absurd (cc)
is_there (Some ys) xs h = refl

-- the clock of one desk is this, and no other has changed
pub noted : (d n : ℕ) (old new : List (ℕ × ℕ)) → ((k : ℕ) → lookup (λ j. k == j) new ≡ cond (d == k) (Some n) (lookup (λ j. k == j) old)) → (k : ℕ) → stamp_noted new k ≡ cond (d == k) n (stamp_noted old k)
noted d n old new h k = ap (λ o. unwrap_or o 0) (h k) ∙ go (d == k)
  where
    go : (c : Bool) → unwrap_or (cond c (Some n) (lookup (λ j. k == j) old)) 0 ≡ cond c n (stamp_noted old k)
    go true = refl
    go false = refl

-- the two numbers of a lane
pub lane_is : (d e p q : ℕ) → is_lane d e (p, q) ≡ true → (d ≡ p) × (e ≡ q)
lane_is d e p q h = let x = and_parts (d == p) (e == q) h in (eqb-true d p x.0, eqb-true e q x.1)

-- where the lane has no letters, none has changed
pub none_laid : (d e : ℕ) (old : Laid) → None ≡ lookup (is_lane d e) old → IsLaid d e (drop 1 (letters_laid old d e)) old old
none_laid d e old h p q = go (is_lane d e (p, q)) refl
  where
    go : (c : Bool) → is_lane d e (p, q) ≡ c → letters_laid old p q ≡ cond (is_lane d e (p, q)) (drop 1 (letters_laid old d e)) (letters_laid old p q)
    go false w = rw w refl
    go true w =
        let x = lane_is d e p q w in
        let own : letters_laid old d e ≡ letters_laid old p q = ap (λ z. letters_laid old z e) x.0 ∙ ap (letters_laid old p) x.1 in
        let none : letters_laid old d e ≡ [] = ap (λ o. unwrap_or o []) (sym h) in
        rw w (sym own ∙ none ∙ sym (ap (drop 1) none))
