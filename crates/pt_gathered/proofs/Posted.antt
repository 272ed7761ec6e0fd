-- What is left over of the letters that were posted, while letters come.
use Rattle.std.proofs.Common.{◌≡◌, ℕ, zero, suc, ◌<◌, ◌≤◌, ◌==◌, ◌&&◌, Bool, true, false, cond, List, [], ◌∷◌, ◌++◌, length, drop, get_or, set, refl, sym, ap, ◌∙◌, subst, arith}
use Rattle.std.specs.Prelude.{Ok, replicate}
use Rattle.std.proofs.lemmas.Bool.{eqb-true, eq-eqb, both_ways}
use Rattle.std.proofs.lemmas.List.{length-append, drop_all, get_or-set_other}
use Rattle.pt_signal.specs.declared.letter.Letter.{Letter}
use Rattle.pt_shard.specs.ShardState.{ShardState}
use Rattle.pt_gathered.specs.Gathered.{GatheredState, box_at, over_in}
use Rattle.pt_gathered.specs.Waits.{posted_in, NonePosted, KeepsNone, StepsPosted, IsLeast, AreLeast}

front_empty : (xs ys : List Letter) → xs ++ ys ≡ [] → xs ≡ []
front_empty [] ys h = refl
front_empty (x ∷ xs) ys h = absurd cc

module _ (shards : List ShardState) (lanes : List (List Letter)) (d e : ℕ) where
  -- all that is left over: what was posted, then what waits in the outbox
  pub over_is : over_in shards lanes d e ≡ posted_in shards lanes d e ++ box_at shards d e
  over_is = refl

  pub posted_none : over_in shards lanes d e ≡ [] → posted_in shards lanes d e ≡ []
  posted_none h = front_empty (posted_in shards lanes d e) (box_at shards d e) (sym over_is ∙ h)

  pub over_none : posted_in shards lanes d e ≡ [] → box_at shards d e ≡ [] → over_in shards lanes d e ≡ []
  over_none p b = over_is ∙ ap (λ xs. xs ++ box_at shards d e) p ∙ b

  -- as many as are left over in all are more than those that were posted
  pub posted_dropped : (n : ℕ) → length (over_in shards lanes d e) ≤ n → drop n (posted_in shards lanes d e) ≡ []
  posted_dropped n all =
      let both = ap length over_is ∙ length-append (posted_in shards lanes d e) (box_at shards d e) in
      drop_all n (posted_in shards lanes d e) (omega (arith, both))

-- a step that takes the oldest out
pub steps_posted : (d e : ℕ) (old new : GatheredState) → d < length old.shards → e < length old.shards
    → ((i k : ℕ) → i < length old.shards → k < length old.shards
    → posted_in new.shards new.lanes i k ≡ cond ((i == d) && (k == e)) (drop 1 (posted_in old.shards old.lanes i k)) (posted_in old.shards old.lanes i k))
    → StepsPosted d e old (Ok true) new
steps_posted d e old new d_in e_in h = (λ i k hi hk none. h i k hi hk ∙ go ((i == d) && (k == e)) (posted_in old.shards old.lanes i k) none, h d e d_in e_in ∙ rw (eq-eqb d d refl, eq-eqb e e refl) refl)
  where
    go : (b : Bool) (xs : List Letter) → xs ≡ [] → cond b (drop 1 xs) xs ≡ []
    go true xs none = ap (drop 1) none
    go false xs none = none

pub keeps_same : (g : GatheredState) → KeepsNone g g
keeps_same g i k hi hk none = none

pub keeps_along : (a b c : GatheredState) → length b.shards ≡ length a.shards → KeepsNone a b → KeepsNone b c → KeepsNone a c
keeps_along a b c count f g i k hi hk none = g i k (omega (arith, hi, count)) (omega (arith, hk, count)) (f i k hi hk none)

-- no desk was come to
none_asked : (n e : ℕ) → ◌≡◌ {A = ℕ} (get_or (replicate n 0) e 0) 0
none_asked zero zero = refl
none_asked zero (suc e) = refl
none_asked (suc n) zero = refl
none_asked (suc n) (suc e) = none_asked n e

pub least_at_first : (n : ℕ) (g : GatheredState) → AreLeast (replicate n 0) g
least_at_first n g e h = let none = none_asked n e in (omega arith, λ some. absurd (omega arith))

one_at_most : (xs : List ℕ) (i : ℕ) → get_or (set xs i 1) i 0 ≤ 1
one_at_most [] zero = omega arith
one_at_most [] (suc i) = omega arith
one_at_most (x ∷ xs) zero = omega arith
one_at_most (x ∷ xs) (suc i) = one_at_most xs i

-- one desk was come to: all letters to it wait in outboxes
pub least_after : (e : ℕ) (old new : GatheredState) (least : List ℕ) → length new.shards ≡ length old.shards → AreLeast least old → KeepsNone old new → NonePosted e new → AreLeast (set least e 1) new
least_after e old new least count before keeps none k k_in = go (k == e) refl
  where
    go : (b : Bool) → (k == e) ≡ b → IsLeast k (get_or (set least e 1) k 0) new
    go true q = subst (λ i. IsLeast i (get_or (set least e 1) i 0) new) (sym (eqb-true k e q)) (one_at_most least e, λ some. none)
    go false q =
        let other : get_or (set least e 1) k 0 ≡ get_or least k 0 = get_or-set_other least e k 1 0 (λ r. both_ways (k == e) q (eq-eqb k e r)) in
        let was = before k (omega (arith, k_in, count)) in
        subst (λ n. IsLeast k n new) (sym other) (was.0, λ some d d_in. keeps d k (omega (arith, d_in, count)) (omega (arith, k_in, count)) (was.1 some d (omega (arith, d_in, count))))
