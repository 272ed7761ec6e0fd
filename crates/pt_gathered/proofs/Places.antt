-- Letters by their places among those left over.
use Rattle.std.proofs.Common.{◌≡◌, ℕ, zero, suc, ◌+◌, ◌-◌, ◌<◌, ◌≤◌, List, [], ◌∷◌, ◌++◌, length, drop, Option, Some, None, Bool, true, false, cond, ◌==◌, map, append_assoc, append-nil, refl, sym, ap, ◌∙◌, arith}
use Rattle.std.specs.Prelude.{slice_get, is_some}
use Rattle.std.proofs.lemmas.Bool.{eqb-true}
use Rattle.std.proofs.lemmas.List.{length-append}
use Rattle.pt_signal.specs.declared.letter.Letter.{Letter}
use Rattle.pt_signal.specs.declared.letter.LeftOver.{LeftOver}
use Rattle.pt_shard.specs.Outbox.{held_from}
use Rattle.pt_gathered.specs.LeftOvers.{joined_letters}

pub get_front : (xs ys : List Letter) (k : ℕ) → k < length xs → slice_get (xs ++ ys) k ≡ slice_get xs k
get_front [] ys k h = absurd (omega arith)
get_front (x ∷ xs) ys zero h = refl
get_front (x ∷ xs) ys (suc k) h = get_front xs ys k (omega arith)

pub get_behind : (xs ys : List Letter) (k : ℕ) → slice_get (xs ++ ys) (length xs + k) ≡ slice_get ys k
get_behind [] ys k = let e : 0 + k ≡ k = omega arith in ap (slice_get ys) e
get_behind (x ∷ xs) ys k = let e : length (x ∷ xs) + k ≡ suc (length xs + k) = omega arith in ap (slice_get (x ∷ (xs ++ ys))) e ∙ get_behind xs ys k

pub get_back : (xs ys : List Letter) (k : ℕ) → length xs ≤ k → slice_get (xs ++ ys) k ≡ slice_get ys (k - length xs)
get_back xs ys k h = let e : k ≡ length xs + (k - length xs) = omega arith in ap (slice_get (xs ++ ys)) e ∙ get_behind xs ys (k - length xs)

-- nothing there: the list ends before
pub drop_none : (xs : List Letter) (k : ℕ) → slice_get xs k ≡ None → drop k xs ≡ []
drop_none [] zero h = refl
drop_none [] (suc k) h = refl
drop_none (x ∷ xs) zero h = absurd cc
drop_none (x ∷ xs) (suc k) h = drop_none xs k h

pub drop_some : (xs : List Letter) (k : ℕ) (l : Letter) → slice_get xs k ≡ Some l → drop k xs ≡ l ∷ drop (k + 1) xs
drop_some [] k l h = absurd cc
drop_some (x ∷ xs) zero l h = let e : x ≡ l = cc in ap (λ z. z ∷ xs) e
drop_some (x ∷ xs) (suc k) l h = let e : suc k + 1 ≡ suc (k + 1) = omega arith in drop_some xs k l h ∙ ap (λ n. l ∷ drop n (x ∷ xs)) (sym e)

-- the hold has one letter from desk d or none
pub held_one : (d : ℕ) (o : Option Letter) (l : Letter) → Some l ≡ slice_get (held_from d o) 0 → length (held_from d o) ≡ 1
held_one d None l h = absurd cc
held_one d (Some m) l h = go (m.from.shard == d) h
  where
    go : (b : Bool) → Some l ≡ slice_get (cond b (m ∷ []) []) 0 → length (cond b (m ∷ []) []) ≡ 1
    go true e = refl
    go false e = absurd cc

pub held_none : (d : ℕ) (o : Option Letter) → None ≡ slice_get (held_from d o) 0 → held_from d o ≡ []
held_none d o h = go (held_from d o) h
  where
    go : (xs : List Letter) → None ≡ slice_get xs 0 → xs ≡ []
    go [] e = refl
    go (x ∷ xs) e = absurd cc

-- the hold, the lane, the outbox
module _ (held lane box : List Letter) (place after : ℕ) (within : length held ≤ place) (is : after ≡ place - length held) where
  pub in_lane_at : after < length lane → slice_get lane after ≡ slice_get (held ++ lane ++ box) place
  in_lane_at h =
      sym (get_front (held ++ lane) box place (omega (arith, length-append held lane)) ∙ get_back held lane place within ∙ ap (slice_get lane) (sym is))

  pub in_box_at : length lane ≤ after → slice_get box (after - length lane) ≡ slice_get (held ++ lane ++ box) place
  in_box_at h =
      let both = length-append held lane in
      let e : place - length (held ++ lane) ≡ after - length lane = omega arith in
      sym (get_back (held ++ lane) box place (omega arith) ∙ ap (slice_get box) e)

-- lists of all that is left over
pub joined_more : (f : ℕ → List LeftOver) (n : ℕ) → joined_letters f (n + 1) ≡ joined_letters f n ++ f n
joined_more f n = let e : n + 1 ≡ suc n = omega arith in ap (joined_letters f) e

pub listed_more : (xs : List LeftOver) (f : Letter → LeftOver) (over : List Letter) (k : ℕ) (l : Letter) → slice_get over k ≡ Some l
    → (xs ++ f l ∷ []) ++ map f (drop (k + 1) over) ≡ xs ++ map f (drop k over)
listed_more xs f over k l h = append_assoc xs (f l ∷ []) (map f (drop (k + 1) over)) ∙ ap (λ z. xs ++ map f z) (sym (drop_some over k l h))

pub listed_all : (xs : List LeftOver) (f : Letter → LeftOver) (over : List Letter) (k : ℕ) → slice_get over k ≡ None → xs ≡ xs ++ map f (drop k over)
listed_all xs f over k h = sym (ap (λ z. xs ++ map f z) (drop_none over k h) ∙ append-nil xs)

pub held_is : (d : ℕ) (o : Option Letter) → is_some (slice_get (held_from d o) 0) ≡ true → (l : Letter) × (o ≡ Some l) × (l.from.shard ≡ d)
held_is d None h = absurd cc
held_is d (Some m) h = go (m.from.shard == d) refl h
  where
    go : (b : Bool) → (m.from.shard == d) ≡ b → is_some (slice_get (cond b (m ∷ []) []) 0) ≡ true → (l : Letter) × (Some m ≡ Some l) × (l.from.shard ≡ d)
    go true e k = (m, refl, eqb-true m.from.shard d e)
    go false e k = absurd cc

pub held_is_not : (d : ℕ) (o : Option Letter) → is_some (slice_get (held_from d o) 0) ≡ false → held_from d o ≡ []
held_is_not d o h = go (held_from d o) h
  where
    go : (xs : List Letter) → is_some (slice_get xs 0) ≡ false → xs ≡ []
    go [] e = refl
    go (x ∷ xs) e = absurd cc
